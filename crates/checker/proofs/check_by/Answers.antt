-- `checker::check_by` meets its contract. Assumes nothing.
use Rattle.checker.proofs.Answers.{refused_checked, claimed_checked}
use Rattle.checker.proofs.check_by.Goals as goal

pub returns-in-Err : goal.returns-in-Err
returns-in-Err c =
    let a = c.args in
    let told = refused_checked a.program.now a.claim.now a.memory.now c.in-Err.refused c.in-Err.ensures.answer.0 c.in-Err.ensures.answer.1 in
    record { verdict = rw (c.number.ensures.value, c.line.ensures.value) told.0; memory = told.1 }

pub returns : goal.returns
returns c =
    let a = c.args in
    let told = claimed_checked a.program.now a.claim.now a.memory.now c.in_default.ensures.answer.1
    _ _ c.fill.ensures.memory _ _ (c.check_tables.ensures.verdict, c.check_tables.ensures.memory) in
    record { verdict = told.0; memory = told.1 }
