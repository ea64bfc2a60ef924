-- A unit by its four digits, and its opcode by the last two. Assumes nothing.
use mathlib.Core.Path.{◌≡◌, sym, ◌∙◌}
use mathlib.Core.List.{List}
use mathlib.Core.Bool.{true}
use Prim.Native.Nat.{ℕ, ◌+◌, ◌*◌, ◌/◌, ◌%◌, ◌<◌, ◌≤◌}
use native.Mathlib.Nat.{add-zero, zero-add}
use native.Mathlib.Omega.{arith}
use lib.ListN.{length, take, drop}
use Rattle.text.specs.Hex.{all_digits, number_of}
use Rattle.text.specs.Words.{two_at, four_at}
use Rattle.text.proofs.AtOnce.{two_digits, four_digits}
use Rattle.text.proofs.Digits.{digits_inside}
use Rattle.text.proofs.Numbers.{number_below}
use Rattle.text.proofs.WordLists.{number_halves}
use Rattle.units.specs.Units.{units_of, unit_at}
use Rattle.units.proofs.Texts.{unit_is}
use Rattle.translator.specs.Inside.{Digits}

module _ (text : List ℕ) (digits : Digits text) (at : ℕ) (l : at < length text / 4) where
  -- n of its bytes are digits
  inside : (i n : ℕ) → i + n ≤ 4 → all_digits (take n (drop (4 * at + i) text)) ≡ true
  inside i n h = rw (zero-add (4 * at + i)) at (digits_inside text 0 (4 * (length text / 4)) (4 * at + i) n (omega arith) digits)

  pub unit_four : four_at text (4 * at) ≡ unit_at (units_of text) at
  unit_four = four_digits text (4 * at) (omega arith) (rw (add-zero (4 * at)) at (inside 0 4 (omega arith))) ∙ sym (unit_is text at l)

  last_two : two_at text (4 * at + 2) ≡ number_of (take 2 (drop (4 * at + 2) text))
  last_two = two_digits text (4 * at + 2) (omega arith) (inside 2 2 (omega arith))

  pub low_below : two_at text (4 * at + 2) < 256
  low_below = rw last_two (number_below (drop (4 * at + 2) text) 2)

  pub unit_low : two_at text (4 * at + 2) ≡ unit_at (units_of text) at % 256
  unit_low =
      let n = number_halves text (4 * at) 2 (omega arith) in
      let b = number_below (drop (4 * at + 2) text) 2 in
      omega (arith, last_two, unit_is text at l)
