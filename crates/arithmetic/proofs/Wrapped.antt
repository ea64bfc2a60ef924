-- What std's wrapping methods give is what the definitions wrap. Assumes nothing.
use mathlib.Core.Path.{◌≡◌, refl, sym, ap, ◌∙◌}
use Prim.Native.Nat.{ℕ, zero, suc, ◌+◌, ◌-◌, ◌/◌, ◌%◌, ◌^◌, ◌<◌, ◌≤◌}
use native.Mathlib.Nat.{div-le_self}
use lib.Signed.{mag, quot_z, rem_z, mag_rem}
use mir.ValLaws.{sfits_le}
use Rattle.arithmetic.proofs.Fits.{wrapped_is}
use native.Mathlib.Omega.{arith}
use lib.IntN.{ℤ, pos, negsuc, neg_ℤ, ◌+ℤ◌, ◌-ℤ◌, ◌*ℤ◌}
use mir.Syntax.{w32}
use mir.Val.{SFits, to_z, of_z}
use Rattle.std.specs.Prelude.{FitsSigned}
use Rattle.std.specs.Int.{int_wrap, int_wrapping_add, int_wrapping_sub, int_wrapping_mul, int_wrapping_neg}
use Rattle.std.proofs.lemmas.Int.{wrapping_add_is, wrapping_sub_is, wrapping_mul_is, wrapping_neg_is}
use Rattle.arithmetic.specs.Arithmetic.{low, wrapped}

pub wrap_is : (z : ℤ) → int_wrap w32 z ≡ wrapped z
unfolding wrapped int_wrap
wrap_is (pos n) = refl
wrap_is (negsuc n) = ap (to_z w32) (omega arith)

pub add_wraps : (x y : ℤ) → FitsSigned w32 x → FitsSigned w32 y → int_wrapping_add w32 x y ≡ wrapped (x +ℤ y)
add_wraps x y f g = wrapping_add_is w32 x y f g ∙ wrap_is (x +ℤ y)

pub sub_wraps : (x y : ℤ) → FitsSigned w32 x → FitsSigned w32 y → int_wrapping_sub w32 x y ≡ wrapped (x -ℤ y)
sub_wraps x y f g = wrapping_sub_is w32 x y f g ∙ wrap_is (x -ℤ y)

pub mul_wraps : (x y : ℤ) → FitsSigned w32 x → FitsSigned w32 y → int_wrapping_mul w32 x y ≡ wrapped (x *ℤ y)
mul_wraps x y f g = wrapping_mul_is w32 x y f g ∙ wrap_is (x *ℤ y)

pub neg_wraps : (x : ℤ) → FitsSigned w32 x → int_wrapping_neg w32 x ≡ wrapped (neg_ℤ x)
neg_wraps x f = wrapping_neg_is w32 x f ∙ wrap_is (neg_ℤ x)

-- a quotient is at most one further from zero than what is divided
mag_minus : (n : ℕ) → mag (neg_ℤ (pos n)) ≤ n
mag_minus zero = omega arith
mag_minus (suc n) = omega arith

mag_quot : (x y : ℤ) → mag (quot_z x y) ≤ mag x + 1
mag_quot (pos a) (pos b) = omega (arith, div-le_self a b)
mag_quot (pos a) (negsuc b) = omega (arith, mag_minus (a / suc b), div-le_self a (suc b))
mag_quot (negsuc a) (pos b) = omega (arith, mag_minus (suc a / b), div-le_self (suc a) b)
mag_quot (negsuc a) (negsuc b) = omega (arith, div-le_self (suc a) (suc b))

-- so 32 bits hold it
low_small : (z : ℤ) → mag z + 1 < 2 ^ 32 → low z ≡ of_z w32 z
low_small (pos n) h = omega (arith, h)
low_small (negsuc n) h = omega (arith, h)

pub div_wraps : (x y : ℤ) → SFits w32 x → to_z w32 (of_z w32 (quot_z x y)) ≡ wrapped (quot_z x y)
unfolding wrapped
div_wraps x y f = ap (to_z w32) (sym (low_small (quot_z x y) (omega (arith, mag_quot x y, f.sfits))))

pub rem_wraps : (x y : ℤ) → SFits w32 x → rem_z x y ≡ wrapped (rem_z x y)
rem_wraps x y f = sym (wrapped_is (sfits_le (mag_rem x y) f))

pub ruleset wraps = (add_wraps, sub_wraps, mul_wraps, neg_wraps)
