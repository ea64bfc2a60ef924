-- Two digits at a place, four and sixteen, read at once: the number that they say. Assumes nothing.
use mathlib.Core.Path.{◌≡◌, refl, sym, ◌∙◌}
use mathlib.Core.Bool.{true}
use mathlib.Core.List.{List, ◌∷◌}
use Prim.Native.Nat.{ℕ, ◌+◌, ◌*◌, ◌-◌, ◌%◌, ◌≤◌}
use native.Mathlib.Nat.{add-zero}
use native.Mathlib.Omega.{arith}
use lib.Dec.{eqb, leb, ltb}
use lib.ListN.{length, take, drop, get_or, length-drop}
use lib.Seq.{length-take-le}
use borrow.Author.Tests.{le-leb, ltb-true, eqb-true}
use Rattle.text.specs.Hex.{digit_of, all_digits, number_from, number_of, digits_at}
use Rattle.text.specs.Words.{two_at, four_of, four_at, word_at, packed_at, sixteen_of, sixteen_at, same_words, repeats_at}
use Rattle.text.proofs.Cases.{both_true}
use Rattle.text.proofs.Digits.{digits_more, digits_halves}
use Rattle.text.proofs.Numbers.{number_below, number_more}
use Rattle.text.proofs.Packing.{digit_bits, packed_number}
use Rattle.text.proofs.WordLists.{number_halves}

module _ (s : List ℕ) (at : ℕ) where
  -- two digits, one by one
  number_pair : at + 2 ≤ length s
      → number_of (digits_at s at 2) ≡ digit_of (get_or s at 0) % 16 * 16 + digit_of (get_or s (at + 1) 0) % 16
  unfolding number_from
  number_pair l =
      number_more s at 1 (omega arith) ∙ rw (number_more s at 0 (omega arith), add-zero at) (omega arith)

  -- two digits: the number that they say
  pub two_digits : at + 2 ≤ length s → all_digits (take 2 (drop at s)) ≡ true → two_at s at ≡ number_of (digits_at s at 2)
  unfolding all_digits
  two_digits l d =
      let one = both_true (all_digits (take 1 (drop at s))) (ltb (digit_of (get_or s (at + 1) 0)) 16) (sym (digits_more s at 1 (omega arith)) ∙ d) in
      let zero = both_true (all_digits (take 0 (drop at s))) (ltb (digit_of (get_or s (at + 0) 0)) 16) (sym (digits_more s at 0 (omega arith)) ∙ one.0) in
      let first : ltb (digit_of (get_or s at 0)) 16 ≡ true = rw (add-zero at) at zero.1 in
      let high = (digit_bits (get_or s at 0) first).1 in
      let low = (digit_bits (get_or s (at + 1) 0) one.1).1 in
      let highL = ltb-true (digit_of (get_or s at 0)) 16 first in
      let lowL = ltb-true (digit_of (get_or s (at + 1) 0)) 16 one.1 in
      rw (le-leb 2 (length s - at) (omega arith), high, low, number_pair l) (omega arith)

  -- eight digits
  half_number : at + 8 ≤ length s → all_digits (take 8 (drop at s)) ≡ true
      → packed_at s at % 4294967296 ≡ number_of (take 8 (drop at s))
  half_number l d =
      let count : length (take 8 (drop at s)) ≡ 8 = length-take-le 8 (drop at s) (simp length-drop (omega arith)) in
      rw (packed_number (take 8 (drop at s)) count d) (omega (arith, number_below (drop at s) 8))

-- four digits `0` before digits: digits, and the same number
zeros_digits : (ds : List ℕ) → all_digits (48 ∷ 48 ∷ 48 ∷ 48 ∷ ds) ≡ all_digits ds
unfolding all_digits digit_of
zeros_digits ds = refl

zeros_number : (ds : List ℕ) → number_of (48 ∷ 48 ∷ 48 ∷ 48 ∷ ds) ≡ number_of ds
unfolding number_from digit_of
zeros_number ds = refl

-- four digits: the number that they say
four_number : (s : List ℕ) (at : ℕ) → at + 4 ≤ length s → all_digits (take 4 (drop at s)) ≡ true
    → four_of s at ≡ number_of (take 4 (drop at s))
unfolding four_of
four_number s at l d =
    let ds = take 4 (drop at s) in
    let count : length ds ≡ 4 = length-take-le 4 (drop at s) (simp length-drop (omega arith)) in
    rw (packed_number (48 ∷ 48 ∷ 48 ∷ 48 ∷ ds) (omega (arith, count)) (zeros_digits ds ∙ d), zeros_number ds)
    (omega (arith, number_below (drop at s) 4))

-- the same as it is read at a place
pub four_digits : (s : List ℕ) (at : ℕ) → at + 4 ≤ length s → all_digits (take 4 (drop at s)) ≡ true
    → four_at s at ≡ number_of (take 4 (drop at s))
four_digits s at l d = rw (le-leb 4 (length s - at) (omega arith)) (four_number s at l d)

-- sixteen digits: the number that they say
pub sixteen_number : (s : List ℕ) (at : ℕ) → at + 16 ≤ length s → all_digits (take 16 (drop at s)) ≡ true
    → sixteen_of s at ≡ number_of (take 16 (drop at s))
unfolding sixteen_of
sixteen_number s at l d =
    let h = digits_halves s at 8 d in
    rw (half_number s at (omega arith) h.0, half_number s (at + 8) (omega arith) h.1)
    (sym (number_halves s at 8 (omega arith)))

-- the same words say the same number
same_sixteen : (s : List ℕ) (a b : ℕ) → word_at s a ≡ word_at s b → word_at s (a + 8) ≡ word_at s (b + 8)
    → sixteen_of s a ≡ sixteen_of s b
unfolding sixteen_of
same_sixteen s a b e f = rw (e, f)

-- the same as it is read at a place
pub sixteen_digits : (s : List ℕ) (at : ℕ) → at + 16 ≤ length s → all_digits (take 16 (drop at s)) ≡ true
    → sixteen_at s at ≡ number_of (digits_at s at 16)
sixteen_digits s at l d = rw (le-leb 16 (length s - at) (omega arith)) (sixteen_number s at l d)

-- sixteen digits that stand there again: they say the same number
pub repeated_number : (s : List ℕ) (at : ℕ) → at + 32 ≤ length s → all_digits (take 32 (drop at s)) ≡ true
    → repeats_at s at ≡ true → number_of (digits_at s at 16) ≡ number_of (digits_at s (at + 16) 16)
repeated_number s at l d r =
    let h = digits_halves s at 16 d in
    let w = (both_true (leb 32 (length s - at)) (same_words s at (at + 16)) r).1 in
    let e = both_true (eqb (word_at s at) (word_at s (at + 16))) (eqb (word_at s (at + 8)) (word_at s (at + 16 + 8))) w in
    sym (sixteen_number s at (omega arith) h.0)
    ∙ same_sixteen s at (at + 16) (eqb-true _ _ e.0) (eqb-true _ _ e.1)
    ∙ sixteen_number s (at + 16) (omega arith) h.1
