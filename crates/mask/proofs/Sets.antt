-- Laws of masks as sets: tests of all numbers below a bound, and the mask of the numbers that pass a test. Assumes nothing.
use mathlib.Core.Path.{◌≡◌, refl, sym, ap, ◌∙◌}
use mathlib.Core.Bool.{Bool, true, false, false≢true, not, ◌&&◌, ◌||◌}
use Prim.Native.Nat.{ℕ, zero, suc, ◌+◌, ◌*◌, ◌/◌, ◌^◌, ◌<◌}
use native.Mathlib.Nat.{pow-suc}
use native.Mathlib.Omega.{arith}
use lib.Dec.{eqb, ltb}
use Rattle.std.proofs.lemmas.Nat.Bits.{bit_at-zero, bit_at-suc, bit_at-lt}
use Rattle.std.proofs.Math.Bool.{and_assoc}
use borrow.Author.Tests.{lt-ltb}
pub use Rattle.std.proofs.Math.Bool.{and-true as and_end, or-false as or_end}
use Rattle.instruction.specs.Word.{pick}
use Rattle.mask.specs.declared.Mask.{Mask}
use Rattle.mask.specs.Mask.{has, every, subset, bits_where}
use Rattle.mask.proofs.Laws.{bit, and_false}

-- ---- tests
-- one number more
pub every_more : (n : ℕ) (test : ℕ → Bool) → every (suc n) test ≡ every n test && test n
every_more zero test = and_end (test zero)
every_more (suc n) test =
    ap (◌&&◌ (test zero)) (every_more n (λ k. test (suc k)))
    ∙ sym (and_assoc (test zero) (every n (λ k. test (suc k))) (test (suc n)))

-- one number fails where not all pass
first_fails : (n : ℕ) (test : ℕ → Bool) (t : Bool) → test zero ≡ t → t && every n (λ k. test (suc k)) ≡ false
    → (every n (λ k. test (suc k)) ≡ false → (k : ℕ) × (k < n) × (test (suc k) ≡ false))
    → (k : ℕ) × (k < suc n) × (test k ≡ false)
first_fails n test true h e later =
    let (k, l, f) = later e in
    (suc k, omega arith, f)
first_fails n test false h e later = (zero, omega arith, h)

pub every_fails : (n : ℕ) (test : ℕ → Bool) → every n test ≡ false → (k : ℕ) × (k < n) × (test k ≡ false)
every_fails zero test e = absurd (false≢true (sym e))
every_fails (suc n) test e = first_fails n test (test zero) refl e (every_fails n (λ k. test (suc k)))

if_fails : (a b : Bool) → not a || b ≡ false → (a ≡ true) × (b ≡ false)
if_fails true b e = (refl, e)
if_fails false b e = absurd (false≢true (sym e))

pub subset_fails : (m other : Mask) → subset m other ≡ false → (k : ℕ) × (has m k ≡ true) × (has other k ≡ false)
unfolding subset
subset_fails m other e =
    let (k, l, f) = every_fails 64 (λ k. not (has m k) || has other k) e in
    let (h, o) = if_fails (has m k) (has other k) f in
    (k, h, o)

-- the mask with no bit
pub no_bit : (k : ℕ) → has (record { bits = 0 }) k ≡ false
unfolding has
no_bit k = rw bit_at-zero (and_false (ltb k 64))

-- ---- the mask of the numbers that pass a test
digit : (t : Bool) → pick t 1 0 < 2
digit true = omega arith
digit false = omega arith

digit_is : (t : Bool) → eqb (pick t 1 0) 1 ≡ t
digit_is true = refl
digit_is false = refl

pub bit_where : (n : ℕ) (test : ℕ → Bool) (k : ℕ) → k < n → bit (bits_where n test) k ≡ pick (test k) 1 0
bit_where zero test k l = absurd (omega arith)
bit_where (suc n) test zero l = omega (arith, digit (test zero))
bit_where (suc n) test (suc k) l =
    let x = bits_where n (λ k. test (suc k)) in
    let half : (pick (test zero) 1 0 + 2 * x) / 2 ≡ x = omega (arith, digit (test zero)) in
    bit_at-suc (pick (test zero) 1 0 + 2 * x) k
    ∙ ap (λ (i : ℕ). bit i k) half
    ∙ bit_where n (λ k. test (suc k)) k (omega arith)

pub where_has : (test : ℕ → Bool) (k : ℕ) → k < 64 → has (record { bits = bits_where 64 test }) k ≡ test k
unfolding has
where_has test k l = rw (lt-ltb k 64 l, bit_where 64 test k l) (digit_is (test k))

-- a number is the one of its bits
where_bits : (n a : ℕ) (test : ℕ → Bool) → a < 2 ^ n → ((k : ℕ) → k < n → bit a k ≡ pick (test k) 1 0) → a ≡ bits_where n test
where_bits zero a test l h = omega arith
where_bits (suc n) a test l h =
    let least : bit a 0 ≡ pick (test zero) 1 0 = h zero (omega arith) in
    let rest : a / 2 ≡ bits_where n (λ k. test (suc k)) =
    where_bits n (a / 2) (λ k. test (suc k)) (omega (arith, pow-suc 2 n))
    (λ k less. sym (bit_at-suc a k) ∙ h (suc k) (omega arith)) in
    omega (arith, least, rest)

bit_is : (x : ℕ) (t : Bool) → x < 2 → eqb x 1 ≡ t → x ≡ pick t 1 0
bit_is zero t l e = rw (← e)
bit_is (suc zero) t l e = rw (← e)
bit_is (suc (suc x)) t l e = absurd (omega arith)

has_digit : (m : Mask) (test : ℕ → Bool) (k : ℕ) → k < 64 → has m k ≡ test k → bit m.bits k ≡ pick (test k) 1 0
unfolding has
has_digit m test k l e = bit_is (bit m.bits k) (test k) (bit_at-lt m.bits k) (rw (lt-ltb k 64 l) at e)

pub has_where : (m : Mask) (test : ℕ → Bool) → m.bits < 2 ^ 64 → ((k : ℕ) → k < 64 → has m k ≡ test k) → m.bits ≡ bits_where 64 test
has_where m test l h = where_bits 64 m.bits test l (λ k less. has_digit m test k less (h k less))
