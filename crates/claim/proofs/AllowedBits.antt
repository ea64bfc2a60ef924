-- The bits that masks may have, as numbers. Assumes nothing.
use mathlib.Core.Path.{◌≡◌, refl, ap, ◌∙◌}
use mathlib.Core.Bool.{Bool, true, false, ◌||◌}
use Prim.Native.Nat.{ℕ, zero, suc, ◌+◌, ◌*◌, ◌-◌, ◌^◌, ◌≤◌, ◌<◌}
use native.Mathlib.Nat.{pow-succ'}
use native.Mathlib.Omega.{arith}
use lib.Dec.{eqb, ltb, leb-suc-suc}
use borrow.Author.Tests.{lt-ltb, le-ltb, ltb-true, ne_eqb}
use Rattle.instruction.specs.Word.{pick}
use Rattle.mask.specs.Mask.{zero_bit, other_bit, bits_where}
use Rattle.program.specs.Program.{Program, class_count}
use Rattle.flow.specs.Claim.{register_at, result_at, field_of, static_of, returned_by, leaving}
use Rattle.slots.specs.Layout.{mask_of}
use Rattle.claim.specs.Allowed.{value_bit, full_claim}
use Rattle.claim.specs.Inside.{class_bits, value_bits}

-- two tests that agree
same_bits : (m : ℕ) (f g : ℕ → Bool) → ((k : ℕ) → f k ≡ g k) → bits_where m f ≡ bits_where m g
same_bits zero f g h = refl
same_bits (suc m) f g h = rw (h zero, same_bits m (λ k. f (suc k)) (λ k. g (suc k)) (λ k. h (suc k)))

no_bits : (m : ℕ) (f : ℕ → Bool) → ((k : ℕ) → f k ≡ false) → bits_where m f ≡ 0
no_bits zero f h = refl
no_bits (suc m) f h = rw (h zero, no_bits m (λ k. f (suc k)) (λ k. h (suc k)))

-- the bits below n
low_bits : (m n : ℕ) → n ≤ m → bits_where m (λ k. ltb k n) + 1 ≡ 2 ^ n
low_bits zero zero l = refl
low_bits zero (suc n) l = absurd (omega arith)
low_bits (suc m) zero l = rw (no_bits (suc m) (λ k. ltb k zero) (λ k. le-ltb k zero (omega arith)))
low_bits (suc m) (suc n) l =
    let e : bits_where m (λ k. ltb (suc k) (suc n)) ≡ bits_where m (λ k. ltb k n) = same_bits m _ _ (λ k. leb-suc-suc (suc k) n) in
    rw (lt-ltb zero (suc n) (omega arith), e, pow-succ') (omega (arith, low_bits m n (omega arith)))

digits_add : (a b : Bool) (x y z : ℕ) → (a ≡ true → b ≡ false) → x ≡ y + z
    → pick (a || b) 1 0 + 2 * x ≡ pick a 1 0 + 2 * y + (pick b 1 0 + 2 * z)
digits_add true b x y z h e = rw (h refl) (omega arith)
digits_add false true x y z h e = omega arith
digits_add false false x y z h e = omega arith

-- the bits of one test or of another, where no bit is of both
either_bits : (m : ℕ) (f g : ℕ → Bool) → ((k : ℕ) → f k ≡ true → g k ≡ false)
    → bits_where m (λ k. f k || g k) ≡ bits_where m f + bits_where m g
either_bits zero f g h = refl
either_bits (suc m) f g h =
    digits_add (f zero) (g zero) _ _ _ (h zero)
    (either_bits m (λ k. f (suc k)) (λ k. g (suc k)) (λ k. h (suc k)))

less_one : (x y : ℕ) → x + 1 ≡ y → x ≡ y - 1
less_one x y e = omega arith

number_bits : bits_where 64 (λ k. eqb k zero_bit || eqb k other_bit) ≡ 13835058055282163712
number_bits = refl

module _ (p : Program) (few : class_count p ≤ 60) where
  class_bits_lem : bits_where 64 (λ k. ltb k (class_count p)) ≡ class_bits (class_count p)
  class_bits_lem =
      rw (lt-ltb (class_count p) 61 (omega arith))
      (less_one (bits_where 64 (λ k. ltb k (class_count p))) (2 ^ class_count p) (low_bits 64 (class_count p) (omega arith)))

  value_bits_lem : bits_where 64 (value_bit p) ≡ value_bits (class_count p)
  value_bits_lem =
      either_bits 64 (λ k. ltb k (class_count p)) (λ k. eqb k zero_bit || eqb k other_bit)
      (λ k t. let l : k < class_count p = ltb-true k (class_count p) t in
      rw (ne_eqb k zero_bit (omega arith), ne_eqb k other_bit (omega arith)))
      ∙ ap (λ (x : ℕ). bits_where 64 (λ k. ltb k (class_count p)) + x) number_bits
      ∙ ap (λ (x : ℕ). x + 13835058055282163712) class_bits_lem

  pub register_full : (m pc r : ℕ) → full_claim p (register_at m pc r) ≡ mask_of (value_bits (class_count p))
  unfolding full_claim
  register_full m pc r = ap mask_of value_bits_lem

  pub result_full : (m pc : ℕ) → full_claim p (result_at m pc) ≡ mask_of (value_bits (class_count p))
  unfolding full_claim
  result_full m pc = ap mask_of value_bits_lem

  pub field_full : (c x : ℕ) → full_claim p (field_of c x) ≡ mask_of (value_bits (class_count p))
  unfolding full_claim
  field_full c x = ap mask_of value_bits_lem

  pub static_full : (x : ℕ) → full_claim p (static_of x) ≡ mask_of (value_bits (class_count p))
  unfolding full_claim
  static_full x = ap mask_of value_bits_lem

  pub returned_full : (m : ℕ) → full_claim p (returned_by m) ≡ mask_of (value_bits (class_count p))
  unfolding full_claim
  returned_full m = ap mask_of value_bits_lem

  pub leaving_full : (m : ℕ) → full_claim p (leaving m) ≡ mask_of (class_bits (class_count p))
  unfolding full_claim
  leaving_full m = ap mask_of class_bits_lem
