-- What a test of the code on the bits of numbers says of the numbers. Assumes nothing.
use mathlib.Core.Path.{◌≡◌, refl, ap}
use mathlib.Core.Bool.{Bool, true, false}
use Prim.Native.Nat.{ℕ, zero, suc, ◌-◌, ◌<◌}
use native.Mathlib.Omega.{arith}
use borrow.Author.Tests.{eq-eqb, ne_eqb, eqb-true, eqb-false}
use lib.Dec.{eqb}
use lib.IntN.{ℤ, pos, negsuc}
use mir.Syntax.{w32, w64}
use mir.Val.{SFits, to_z, of_z}
use mir.ValLaws.{to_z-of_z}
use Rattle.arithmetic.specs.Arithmetic.{is_zero, same_number}

-- bits that are 0, and bits that are not
pub is_zero_lem : (z : ℤ) → SFits w32 z → of_z w32 z ≡ 0 → is_zero z ≡ true
is_zero_lem (pos zero) f e = refl
is_zero_lem (pos (suc n)) f e = absurd (omega arith)
is_zero_lem (negsuc n) f e = absurd (omega (arith, f.sfits))

pub not_zero : (z : ℤ) → SFits w32 z → (of_z w32 z ≡ 0 → ⊥) → (is_zero z ≡ false) × (0 < of_z w64 z)
not_zero (pos zero) f h = absurd (h refl)
not_zero (pos (suc n)) f h = (refl, omega arith)
not_zero (negsuc n) f h = (refl, omega (arith, f.sfits))

-- so a number that is not 0 may divide, once it is stored and read back
pub divisor : {z : ℤ} → SFits w32 z → (of_z w32 z ≡ 0 → ⊥) → 0 < of_z w64 (to_z w32 (of_z w32 z))
divisor {z} f h = rw (to_z-of_z w32 z f) (not_zero z f h).1

-- two numbers have the same bits exactly if they are the same
both_below :
    (a b : ℕ) → a < 4294967296 → b < 4294967296 → (t : Bool) → eqb a b ≡ t →
    eqb (4294967296 - suc a) (4294967296 - suc b) ≡ t
both_below a b f g true e = eq-eqb _ _ (ap (λ (n : ℕ). 4294967296 - suc n) (eqb-true a b e))
both_below a b f g false e = ne_eqb _ _ (λ (h : 4294967296 - suc a ≡ 4294967296 - suc b). eqb-false a b e (omega arith))

pub same_bits : (x y : ℤ) → SFits w32 x → SFits w32 y → eqb (of_z w32 x) (of_z w32 y) ≡ same_number x y
same_bits (pos a) (pos b) f g = refl
same_bits (pos a) (negsuc b) f g = ne_eqb _ _ (λ (h : a ≡ 4294967296 - suc b). omega (arith, f.sfits, g.sfits))
same_bits (negsuc a) (pos b) f g = ne_eqb _ _ (λ (h : 4294967296 - suc a ≡ b). omega (arith, f.sfits, g.sfits))
same_bits (negsuc a) (negsuc b) f g = both_below a b (omega (arith, f.sfits)) (omega (arith, g.sfits)) (eqb a b) refl

-- a test of two numbers that were stored and read back
pub of_both :
    (test : ℤ → ℤ → Bool) {x y : ℤ} → SFits w32 x → SFits w32 y →
    test (to_z w32 (of_z w32 x)) (to_z w32 (of_z w32 y)) ≡ test x y
of_both test f g = rw (to_z-of_z w32 _ f, to_z-of_z w32 _ g)
