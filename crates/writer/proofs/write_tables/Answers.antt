-- `writer::write_tables` meets its contract. Assumes nothing.
use mathlib.Core.Path.{refl}
use native.Mathlib.Omega.{arith}
use Rattle.program.specs.Tables.{program_in}
use Rattle.slots.specs.Layout.{claim_in}
use Rattle.fixpoint.specs.LeastOf.{least_words}
use Rattle.writer.proofs.Answers.{short_done, written_done}
use Rattle.writer.proofs.Text.{none_are}
use Rattle.writer.proofs.write_tables.Goals as goal

pub returns-then-memory-n : goal.returns-then-memory-n
returns-then-memory-n c =
    let p = program_in c.args.t.now in
    let done = short_done p c.args.memory.now (omega (arith, c.claim_size-n.ensures.value (claim_in (least_words p)))) in
    record { answer = done.0; memory = done.1 }

pub write_least-requires : goal.write_least-requires
write_least-requires c =
    let p = program_in c.args.t.now in
    (c.requires, none_are _ refl, omega (arith, c.claim_size-n.ensures.value (claim_in (least_words p))))

pub returns : goal.returns
returns c =
    let a = c.args in
    let p = program_in a.t.now in
    let size = c.claim_size-n.ensures.value (claim_in (least_words p)) in
    let done = written_done p a.memory.now (omega (arith, size)) _ size _ c.write_least.ensures.memory in
    record { answer = done.0; memory = done.1 }
