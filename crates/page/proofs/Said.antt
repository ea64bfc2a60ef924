-- Digits that are written say the number that they were written of. Assumes nothing.
use mathlib.Core.Path.{◌≡◌, ap, ◌∙◌}
use mathlib.Core.Bool.{true, false}
use mathlib.Core.List.{List, [], ◌∷◌, ◌++◌}
use Prim.Native.Nat.{ℕ, ◌+◌, ◌*◌, ◌/◌, ◌%◌, ◌<◌, ◌^◌}
use native.Mathlib.Omega.{arith}
use lib.Dec.{eqb, ltb}
use borrow.Author.Tests.{lt-ltb, le-ltb, ltb-true, ltb-false, ne_eqb}
use Rattle.text.specs.Hex.{digit_of as value_of, all_digits, number_from, number_of}
use Rattle.text.proofs.Cases.{by_test}
use Rattle.page.specs.Digits.{digit_of, two, eight, sixteen}

-- ---- one digit
pub value_back : (v : ℕ) → v < 16 → value_of (digit_of v) ≡ v
unfolding value_of digit_of
value_back v l =
    by_test (ltb v 10)
    (λ t.
    let few = ltb-true v 10 t in
    rw (t, le-ltb (48 + v) 48 (omega arith), lt-ltb (48 + v) 58 (omega (arith, few))) (omega arith))
    (λ t.
    let many = ltb-false v 10 t in
    let above : ltb (87 + v) 97 ≡ false = le-ltb (87 + v) 97 (omega (arith, many)) in
    rw (t, le-ltb (87 + v) 48 (omega arith), le-ltb (87 + v) 58 (omega (arith, many)), above, lt-ltb (87 + v) 103 (omega arith))
    (omega arith))

pub is_digit_lem : (v : ℕ) → v < 16 → ltb (value_of (digit_of v)) 16 ≡ true
is_digit_lem v l = rw (value_back v l) (lt-ltb v 16 l)

-- no digit is byte 0a
pub no_end : (b : ℕ) → ltb (value_of b) 16 ≡ true → eqb b 10 ≡ false
unfolding value_of
no_end b e =
    by_test (ltb b 48)
    (λ t. let g : ltb 16 16 ≡ true = rw t at e in absurd (omega (arith, ltb-true 16 16 g)))
    (λ t. ne_eqb b 10 (omega (arith, ltb-false b 48 t)))

-- ---- two digits, eight, sixteen, before others
one_said : (a v : ℕ) (rest : List ℕ) → v < 16 → number_from a (digit_of v ∷ rest) ≡ number_from (a * 16 + v) rest
unfolding number_from
one_said a v rest l =
    let same : v % 16 ≡ v = omega arith in
    rw (value_back v l, same)

pub two_said : (a n : ℕ) (rest : List ℕ) → number_from a (two n ++ rest) ≡ number_from (a * 256 + n % 256) rest
two_said a n rest =
    one_said a (n / 16 % 16) (digit_of (n % 16) ∷ rest) (omega arith)
    ∙ one_said (a * 16 + n / 16 % 16) (n % 16) rest (omega arith)
    ∙ ap (λ (x : ℕ). number_from x rest) (omega arith)

-- four bytes, the high one first
four_bytes : (a n q r s t u v w x : ℕ) → n ≡ 256 * q + u → q ≡ 256 * r + v → r ≡ 256 * s + w → s ≡ 256 * t + x
    → (y : ℕ) → n ≡ 4294967296 * t + y
    → (((a * 256 + x) * 256 + w) * 256 + v) * 256 + u ≡ a * 4294967296 + y
four_bytes a n q r s t u v w x e f g h y k = omega arith

bytes_of : (a n : ℕ)
    → (((a * 256 + n / 16777216 % 256) * 256 + n / 65536 % 256) * 256 + n / 256 % 256) * 256 + n % 256 ≡ a * 4294967296 + n % 4294967296
bytes_of a n =
    four_bytes a n (n / 256) (n / 65536) (n / 16777216) (n / 4294967296) (n % 256) (n / 256 % 256) (n / 65536 % 256) (n / 16777216 % 256)
    (omega arith) (omega arith) (omega arith) (omega arith) (n % 4294967296) (omega arith)

eight_said : (a n : ℕ) (rest : List ℕ) → number_from a (eight n ++ rest) ≡ number_from (a * 4294967296 + n % 4294967296) rest
eight_said a n rest =
    two_said a (n / 16777216) (two (n / 65536) ++ (two (n / 256) ++ (two n ++ rest)))
    ∙ two_said _ (n / 65536) (two (n / 256) ++ (two n ++ rest))
    ∙ two_said _ (n / 256) (two n ++ rest)
    ∙ two_said _ n rest
    ∙ ap (λ (x : ℕ). number_from x rest) (bytes_of a n)

pub sixteen_said : (n : ℕ) → n < 2 ^ 64 → number_of (sixteen n) ≡ n
unfolding number_from
sixteen_said n l =
    eight_said 0 (n / 4294967296) (eight n)
    ∙ eight_said _ n []
    ∙ omega arith

-- ---- all of them are digits
pub two_digits : (n : ℕ) (rest : List ℕ) → all_digits rest ≡ true → all_digits (two n ++ rest) ≡ true
unfolding all_digits
two_digits n rest h = rw (is_digit_lem (n / 16 % 16) (omega arith), is_digit_lem (n % 16) (omega arith)) h

eight_digits : (n : ℕ) (rest : List ℕ) → all_digits rest ≡ true → all_digits (eight n ++ rest) ≡ true
eight_digits n rest h =
    two_digits (n / 16777216) _ (two_digits (n / 65536) _ (two_digits (n / 256) _ (two_digits n rest h)))

pub sixteen_digits : (n : ℕ) (rest : List ℕ) → all_digits rest ≡ true → all_digits (sixteen n ++ rest) ≡ true
sixteen_digits n rest h = eight_digits (n / 4294967296) (eight n ++ rest) (eight_digits n rest h)
