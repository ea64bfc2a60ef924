-- Laws of masks: tests of all numbers below a bound, the bits of a mask, and the masks that bitwise operations make of others. Assumes
-- nothing.
use mathlib.Core.Path.{◌≡◌, refl, sym}
use mathlib.Core.Bool.{Bool, true, false, not, ◌&&◌, ◌||◌}
use Prim.Native.Nat.{ℕ, zero, suc, ◌*◌, ◌-◌, ◌/◌, ◌%◌, ◌^◌, ◌<◌, ◌≤◌, min, max}
use native.Mathlib.Omega.{arith}
use lib.Bits.{bit_and, bit_or}
use lib.Dec.{eqb, ltb}
use mathlib.Core.Logic.{◌⊎◌, inl, inr}
use Rattle.std.specs.Int.{bit_at, w64}
use Rattle.std.proofs.lemmas.Bool.{cases_eq}
use Rattle.std.proofs.lemmas.Nat.Bits.{shr_and_one, bit_at_set_same, bit_at_set_other, bit_at-zero, bit_at_and, bit_at_or, bit_at-lt, bit_at_not, same_from_bits_below}
use Rattle.std.proofs.lemmas.Bool.Decides.{nat_tests}
use borrow.Author.Tests.{ltb-true, eqb-true, lt-ltb, le-ltb, eq-eqb}
pub use Rattle.std.proofs.Math.Bool.{and-false as and_false}
use Rattle.instruction.specs.Word.{pick}
use Rattle.instruction.proofs.Flags.{both_true, or_right, if_use, if_true}
use Rattle.mask.specs.declared.Mask.{Mask}
use Rattle.mask.specs.Mask.{has, every, is_empty, subset, has_number, zero_bit, other_bit}

-- ---- tests
-- two tests, each of which passes if the other does, are equal
pub same_test : (a b : Bool) → (a ≡ true → b ≡ true) → (b ≡ true → a ≡ true) → a ≡ b
same_test true b f g = sym (f refl)
same_test false true f g = g refl
same_test false false f g = refl

-- ---- a test of every number below a bound
pub every_at : (n : ℕ) (test : ℕ → Bool) → every n test ≡ true → (k : ℕ) → k < n → test k ≡ true
every_at zero test e k l = absurd (omega arith)
every_at (suc n) test e zero l = (both_true (test zero) (every n (λ k. test (suc k))) e).0
every_at (suc n) test e (suc k) l =
    every_at n (λ k. test (suc k)) (both_true (test zero) (every n (λ k. test (suc k))) e).1 k (omega arith)

pub every_all : (n : ℕ) (test : ℕ → Bool) → ((k : ℕ) → k < n → test k ≡ true) → every n test ≡ true
every_all zero test h = refl
every_all (suc n) test h = rw (h zero (omega arith)) (every_all n (λ k. test (suc k)) (λ k l. h (suc k) (omega arith)))

-- one number that fails is enough
pub every_not : (n : ℕ) (test : ℕ → Bool) (k : ℕ) → k < n → test k ≡ false → every n test ≡ false
every_not zero test k l e = absurd (omega arith)
every_not (suc n) test zero l e = rw e
every_not (suc n) test (suc k) l e =
    let rest : every n (λ i. test (suc i)) ≡ false = every_not n (λ i. test (suc i)) k (omega arith) e in
    rw rest (and_false (test zero))

-- tests that agree below the bound
pub every_same : (n : ℕ) (f g : ℕ → Bool) → ((k : ℕ) → k < n → f k ≡ g k) → every n f ≡ every n g
every_same zero f g h = refl
every_same (suc n) f g h =
    rw (h zero (omega arith), every_same n (λ k. f (suc k)) (λ k. g (suc k)) (λ k l. h (suc k) (omega arith)))

-- ---- which bits a mask has
pub has_less : (m : Mask) (k : ℕ) → has m k ≡ true → k < 64
unfolding has
has_less m k e = ltb-true k 64 (both_true (ltb k 64) (eqb (m.bits / 2 ^ k % 2) 1) e).0

pub has_bit : (m : Mask) (k : ℕ) → has m k ≡ true → m.bits / 2 ^ k % 2 ≡ 1
unfolding has
has_bit m k e = eqb-true (m.bits / 2 ^ k % 2) 1 (both_true (ltb k 64) (eqb (m.bits / 2 ^ k % 2) 1) e).1

pub bit_has : (m : Mask) (k : ℕ) → k < 64 → m.bits / 2 ^ k % 2 ≡ 1 → has m k ≡ true
unfolding has
bit_has m k l e = rw (lt-ltb k 64 l) (eq-eqb (m.bits / 2 ^ k % 2) 1 e)

-- the lowest bit of the mask shifted
pub shifted_has : (m : Mask) (k : ℕ) → k < 64 → eqb (bit_and (m.bits / 2 ^ k) 1) 1 ≡ has m k
unfolding has
shifted_has m k l = rw (shr_and_one, lt-ltb k 64 l)

pub past_has : (m : Mask) (k : ℕ) → 64 ≤ k → has m k ≡ false
unfolding has
past_has m k l = rw (le-ltb k 64 l)

pub has_number_lem : (m : Mask) (t : Bool) → has m (pick t zero_bit other_bit) ≡ true → has_number m ≡ true
unfolding has_number
has_number_lem m true e = rw e
has_number_lem m false e = or_right (has m zero_bit) (has m other_bit) e

-- ---- subsets
pub subset_at : (m other : Mask) → subset m other ≡ true → (k : ℕ) → has m k ≡ true → has other k ≡ true
unfolding subset
subset_at m other e k h =
    if_use (has m k) (has other k) (every_at 64 (λ i. not (has m i) || has other i) e k (has_less m k h)) h

pub subset_all : (m other : Mask) → ((k : ℕ) → has m k ≡ true → has other k ≡ true) → subset m other ≡ true
unfolding subset
subset_all m other h =
    every_all 64 (λ i. not (has m i) || has other i) (λ k l. if_true (has m k) (has other k) (h k))

-- ---- bits of numbers
-- bit k of a number
abbrev pub bit : ℕ → ℕ → ℕ
bit n k = bit_at n k

-- a test of one bit by the tests of two
both : (t : Bool) (x y : ℕ) → x < 2 → y < 2 → t && eqb (min x y) 1 ≡ (t && eqb x 1) && (t && eqb y 1)
both t x y l k = grind (arith, nat_tests)

either : (t : Bool) (x y : ℕ) → x < 2 → y < 2 → t && eqb (max x y) 1 ≡ (t && eqb x 1) || (t && eqb y 1)
either t x y l k = grind (arith, nat_tests)

only : (t : Bool) (x y : ℕ) → x < 2 → y < 2 → t && eqb (min x (1 - y)) 1 ≡ (t && eqb x 1) && not (t && eqb y 1)
only t x y l k = grind (arith, nat_tests)

-- ---- the bits of two masks
module _ (m other : Mask) (k : ℕ) where
  pub common_has : has (record { bits = bit_and m.bits other.bits }) k ≡ has m k && has other k
  unfolding has
  common_has = rw bit_at_and (both (ltb k 64) _ _ (bit_at-lt m.bits k) (bit_at-lt other.bits k))

  pub join_has : has (record { bits = bit_or m.bits other.bits }) k ≡ has m k || has other k
  unfolding has
  join_has = rw bit_at_or (either (ltb k 64) _ _ (bit_at-lt m.bits k) (bit_at-lt other.bits k))

  pub without_has : other.bits < 2 ^ 64
      → has (record { bits = bit_and m.bits (18446744073709551615 - other.bits) }) k ≡ has m k && not (has other k)
  unfolding has
  without_has l = by (ltb k 64) refl
    where
      by : (t : Bool) → ltb k 64 ≡ t
          → t && eqb (bit_at (bit_and m.bits (18446744073709551615 - other.bits)) k) 1
          ≡ (t && eqb (bit_at m.bits k) 1) && not (t && eqb (bit_at other.bits k) 1)
      by false e = refl
      by true e =
          rw (bit_at_and, bit_at_not w64 other.bits k l (ltb-true k 64 e))
          (only true _ _ (bit_at-lt m.bits k) (bit_at-lt other.bits k))

-- ---- one bit more
pub with_has : (m : Mask) (b k : ℕ) → b < 64
    → has (record { bits = bit_or m.bits (1 * 2 ^ b % 18446744073709551616) }) k ≡ has m k || (eqb k b && ltb k 64)
unfolding has
with_has m b k l = by (cases_eq k b)
  where
    by : (k ≡ b) ⊎ (k ≡ b → ⊥)
        → ltb k 64 && eqb (bit_at (bit_or m.bits (1 * 2 ^ b % 18446744073709551616)) k) 1
        ≡ (ltb k 64 && eqb (bit_at m.bits k) 1) || (eqb k b && ltb k 64)
    by (inl same) =
        let own = bit_at_set_same w64 m.bits b l in
        grind (arith, nat_tests, own, same)
    by (inr other) =
        let kept = bit_at_set_other w64 m.bits b l k other in
        grind (arith, nat_tests, kept)

-- ---- no bit
pub empty_bits : (m : Mask) → m.bits < 2 ^ 64 → eqb m.bits 0 ≡ is_empty m
unfolding is_empty has
empty_bits m l =
    same_test (eqb m.bits 0) (is_empty m)
    (λ e. every_all 64 (λ k. not (has m k)) (λ k less. rw (eqb-true m.bits 0 e, bit_at-zero k) (rw (and_false (ltb k 64)) refl)))
    (λ e. eq-eqb m.bits 0 (same_from_bits_below 64 m.bits 0 l (omega arith) (λ k less. none k less (every_at 64 (λ k. not (has m k)) e k less))))
  where
    none : (k : ℕ) → k < 64 → not (has m k) ≡ true → bit_at m.bits k ≡ bit_at 0 k
    none k less e =
        let small = bit_at-lt m.bits k in
        let zeros = bit_at-zero k in
        grind (arith, nat_tests, small, zeros, e)

pub empty_none : (m : Mask) → is_empty m ≡ true → (k : ℕ) → has m k ≡ false
unfolding is_empty
empty_none m e k = by (has m k) refl
  where
    by : (t : Bool) → has m k ≡ t → t ≡ false
    by false h = refl
    by true h =
        let f = every_at 64 (λ i. not (has m i)) e k (has_less m k h) in
        cc (f, h)

pub empty_all : (m : Mask) → ((k : ℕ) → has m k ≡ false) → is_empty m ≡ true
unfolding is_empty
empty_all m h = every_all 64 (λ k. not (has m k)) (λ k less. rw (h k) refl)

-- a mask is in another where the bits that are not in the other are none
pub without_empty : (m other r : Mask) → ((k : ℕ) → has r k ≡ has m k && not (has other k)) → is_empty r ≡ subset m other
unfolding is_empty subset
without_empty m other r h =
    every_same 64 (λ k. not (has r k)) (λ k. not (has m k) || has other k) (λ k less. rw (h k) (turned (has m k) (has other k)))
  where
    turned : (a b : Bool) → not (a && not b) ≡ not a || b
    turned true true = refl
    turned true false = refl
    turned false b = refl

-- a mask is empty where it is in one with no bit
pub empty_subset : (m none : Mask) → ((k : ℕ) → has none k ≡ false) → is_empty m ≡ subset m none
unfolding is_empty subset
empty_subset m none h =
    every_same 64 (λ k. not (has m k)) (λ k. not (has m k) || has none k) (λ k less. rw (h k) (end (not (has m k))))
  where
    end : (a : Bool) → a ≡ a || false
    end true = refl
    end false = refl
