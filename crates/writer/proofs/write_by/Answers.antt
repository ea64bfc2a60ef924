-- `writer::write_by` meets its contract. Assumes nothing.
use Rattle.writer.proofs.Answers.{refused_answered, tables_formed, taken_answered}
use Rattle.writer.proofs.write_by.Goals as goal

pub returns-in-Err : goal.returns-in-Err
returns-in-Err c =
    let a = c.args in
    let done = refused_answered a.program.now a.memory.now c.in-Err.refused c.in-Err.ensures.answer.0 c.in-Err.ensures.answer.1 in
    record { answer = rw (c.number.ensures.value, c.line.ensures.value) done.0; memory = done.1 }

pub write_tables-requires : goal.write_tables-requires
write_tables-requires c =
    tables_formed c.args.program.now c.args.memory.now c.in_default.ensures.answer.1 _ _ c.fill.ensures.memory

pub returns : goal.returns
returns c =
    let a = c.args in
    let tables = c.write_tables.ensures in
    let done = taken_answered a.program.now a.memory.now c.in_default.ensures.answer.1 _ _ c.fill.ensures.memory _ _ (tables.answer, tables.memory) in
    record { answer = done.0; memory = done.1 }
