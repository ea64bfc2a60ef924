-- `translator::check::plain_at` meets its contract. Assumes nothing.
use mathlib.Core.Path.{sym, ◌∙◌}
use Rattle.instruction.proofs.Laws.{holds}
use Rattle.units.specs.Frames.{plain_fine, plain_frame}
use Rattle.translator.proofs.Checking.{by_true}
use Rattle.translator.proofs.check.plain_at.Goals as goal

pub returns-then-is_plain_fine : goal.returns-then-is_plain_fine
returns-then-is_plain_fine c =
    let a = c.args in
    let u = c.unit-u.result in
    let v = c.unit-v.result in
    let w = c.unit-w.result in
    let fine = sym c.is_plain_fine.ensures.value ∙ c.if-is_plain_fine.true in
    let frame = c.plain_frame.ensures.value (holds (plain_fine a.o u v w) fine) in
    record {
      value = rw (sym c.unit-u.ensures.value, sym c.unit-v.ensures.value, sym c.unit-w.ensures.value, c.encode.ensures.value, frame)
          (by_true (plain_fine a.o u v w) (plain_frame a.o u v w) fine);
    }
