-- Every number that an operation gives fits 32 bits if its operands do, and a number that fits is wrapped to itself. Assumes
-- nothing.
use Rattle.std.specs.Prelude.{Option, Some, None}
use mathlib.Core.Path.{◌≡◌, ap, ◌∙◌}
use mathlib.Core.Bool.{Bool, true, false}
use Prim.Native.Nat.{◌*◌, ◌^◌}
use native.Mathlib.Omega.{arith}
use lib.IntN.{ℤ, pos, negsuc}
use lib.Signed.{mag_shr}
use mir.Syntax.{w32}
use mir.Val.{Fits, SFits, to_z, of_z}
use mir.ValLaws.{to_z-of_z, to_z-Fits, of_z_fits, sfits_le, Fits-and, Fits-or, Fits-xor, Fits-div, Fits-wrap, Fits-not}
use Rattle.instruction.specs.Word.{pick}
use Rattle.instruction.specs.declared.Operation.{Operation}
use Rattle.instruction.specs.declared.Operation.TheVariants.{Add, Sub, Mul, Div, Rem, And, Or, Xor, Shl, Shr, Ushr}
use Rattle.instruction.specs.declared.Unary.{Unary}
use Rattle.instruction.specs.declared.Unary.TheVariants.{Neg, Not}
use Rattle.arithmetic.specs.Arithmetic.{low, wrapped, shift_count, is_zero, computed, unary_value}

low_fits : (z : ℤ) → Fits w32 (low z)
low_fits (pos n) = record { fits = omega arith }
low_fits (negsuc n) = record { fits = omega arith }

pub wrapped_fits : (z : ℤ) → SFits w32 (wrapped z)
unfolding wrapped
wrapped_fits z = to_z-Fits w32 (low z) (low_fits z)

low_is : (z : ℤ) → SFits w32 z → low z ≡ of_z w32 z
low_is (pos n) f = omega (arith, f.sfits)
low_is (negsuc n) f = omega (arith, f.sfits)

pub wrapped_is : {z : ℤ} → SFits w32 z → wrapped z ≡ z
unfolding wrapped
wrapped_is {z} f = ap (to_z w32) (low_is z f) ∙ to_z-of_z w32 z f

-- what is computed is a number that fits, or none
abbrev pub Fitting : Option ℤ → Type 0
Fitting (Some z) = SFits w32 z
Fitting None = Unit {0}

divided : (t : Bool) {z : ℤ} → SFits w32 z → Fitting (pick t None (Some z))
divided true f = tt
divided false f = f

pub computed_fits : (o : Operation) (x y : ℤ) → SFits w32 x → SFits w32 y → Fitting (computed o x y)
unfolding computed
computed_fits Add x y f g = wrapped_fits _
computed_fits Sub x y f g = wrapped_fits _
computed_fits Mul x y f g = wrapped_fits _
computed_fits Div x y f g = divided (is_zero y) (wrapped_fits _)
computed_fits Rem x y f g = divided (is_zero y) (wrapped_fits _)
computed_fits And x y f g = to_z-Fits w32 _ (Fits-and _ _ (of_z_fits w32 x f))
computed_fits Or x y f g = to_z-Fits w32 _ (Fits-or _ _ (of_z_fits w32 x f) (of_z_fits w32 y g))
computed_fits Xor x y f g = to_z-Fits w32 _ (Fits-xor _ _ (of_z_fits w32 x f) (of_z_fits w32 y g))
computed_fits Shl x y f g = to_z-Fits w32 _ (Fits-wrap w32 (of_z w32 x * 2 ^ shift_count y))
computed_fits Shr x y f g = sfits_le (mag_shr x _) f
computed_fits Ushr x y f g = to_z-Fits w32 _ (Fits-div _ _ (of_z_fits w32 x f))

pub unary_fits : (o : Unary) (x : ℤ) → SFits w32 x → SFits w32 (unary_value o x)
unfolding unary_value
unary_fits Neg x f = wrapped_fits _
unary_fits Not x f = to_z-Fits w32 _ (Fits-not w32 (of_z w32 x))
