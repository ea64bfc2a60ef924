-- `arithmetic::binary` meets its contract where it divides. Assumes nothing.
use mathlib.Core.Path.{ap, sym, ◌∙◌}
use mir.Syntax.{w32}
use mir.ValLaws.{to_z-of_z}
use Rattle.std.specs.Prelude.{Some}
use Rattle.arithmetic.specs.Arithmetic.{computed}
use Rattle.arithmetic.proofs.Tests.{not_zero}
use Rattle.arithmetic.proofs.Wrapped.{div_wraps, rem_wraps}
use Rattle.arithmetic.proofs.binary.Goals as goal

pub returns-else-y-eq0 : goal.returns-else-y-eq0
unfolding computed
returns-else-y-eq0 c = record {
  value = rw (c.in-Div.is, (not_zero c.args.y c.ranges.y c.if-y-eq0.false).0)
      (ap Some (to_z-of_z w32 _ (record { sfits = c.wrapping_div.type_inv }) ∙ c.wrapping_div.ensures
      ∙ rw (to_z-of_z w32 c.args.x c.ranges.x, to_z-of_z w32 c.args.y c.ranges.y) (div_wraps c.args.x c.args.y c.ranges.x)));
}

pub returns-else-y-eq0-2 : goal.returns-else-y-eq0-2
unfolding computed
returns-else-y-eq0-2 c = record {
  value = rw (c.in-Rem.is, (not_zero c.args.y c.ranges.y c.if-y-eq0-2.false).0)
      (ap Some (to_z-of_z w32 _ (record { sfits = c.wrapping_rem.type_inv }) ∙ c.wrapping_rem.ensures
      ∙ rw (to_z-of_z w32 c.args.x c.ranges.x, to_z-of_z w32 c.args.y c.ranges.y) (rem_wraps c.args.x c.args.y c.ranges.x)));
}
