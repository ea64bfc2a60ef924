-- `checker::judge` meets its contract. Assumes nothing.
use mathlib.Core.Path.{sym, ◌∙◌}
use Rattle.program.specs.Tables.{program_in}
use Rattle.slots.specs.Layout.{claim_in}
use Rattle.calls.proofs.Limits.{in_limits}
use Rattle.checker.proofs.Answers.{short_judged, broken_judged, kept_judged}
use Rattle.checker.proofs.judge.Goals as goal

pub returns-then-memory-lt24576 : goal.returns-then-memory-lt24576
returns-then-memory-lt24576 c =
    let a = c.args in
    let told = short_judged (program_in a.t.now) (claim_in a.w.now) a.memory.now c.if-memory-lt24576.true in
    record { verdict = told.0; memory = told.1 }

pub returns-in-Some : goal.returns-in-Some
returns-in-Some c =
    let a = c.args in
    let told = broken_judged (program_in a.t.now) (claim_in a.w.now) a.memory.now c.if-memory-lt24576.false c.in-Some.broken
    (sym c.in-Some.is ∙ c.first_broken.ensures.value) in
    record { verdict = told.0; memory = told.1 }

pub shape_of-memory : goal.shape_of-memory
shape_of-memory c = c.write_calls.auto.memory

pub returns-in-None : goal.returns-in-None
returns-in-None c =
    let a = c.args in
    let told = kept_judged (program_in a.t.now) (claim_in a.w.now) a.memory.now c.if-memory-lt24576.false
    (sym c.in-None.is ∙ c.first_broken.ensures.value) (in_limits a.t.now) c.write_calls.result _ c.write_calls.ensures.count
    c.write_calls.ensures.memory in
    record { verdict = told.0; memory = told.1 }
