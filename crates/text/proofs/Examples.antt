-- The definitions at small texts, by computation. Bytes: 48 is '0', 65 'A', 97 'a', 102 'f', 10 the line end. Assumes nothing.
use mathlib.Core.Path.{◌≡◌, refl}
use mathlib.Core.Bool.{true, false}
use mathlib.Core.List.{[], ◌∷◌}
use Prim.Native.Nat.{◌-◌, ◌^◌}
use lib.ListN.{replicate, drop}
use Rattle.text.specs.Hex.{digit_of, all_digits, lines_of, whole, number_from, number_of, digits_at, line_read_of}
use Rattle.text.specs.declared.LineRead.TheVariants.{Whole, Broken, End}

-- two lines
two_lines : lines_of (48 ∷ 97 ∷ 10 ∷ 102 ∷ 102 ∷ 10 ∷ [])
    ≡ record { bytes = 48 ∷ 97 ∷ []; ended = true } ∷ record { bytes = 102 ∷ 102 ∷ []; ended = true } ∷ []
unfolding lines_of
two_lines = refl

-- an empty line between two others
empty_line : lines_of (48 ∷ 10 ∷ 10 ∷ 97 ∷ 10 ∷ [])
    ≡ record { bytes = 48 ∷ []; ended = true } ∷ record { bytes = []; ended = true } ∷ record { bytes = 97 ∷ []; ended = true } ∷ []
unfolding lines_of
empty_line = refl

-- a last line without end
no_end : lines_of (48 ∷ 10 ∷ 97 ∷ 98 ∷ []) ≡ record { bytes = 48 ∷ []; ended = true } ∷ record { bytes = 97 ∷ 98 ∷ []; ended = false } ∷ []
unfolding lines_of
no_end = refl

no_text : lines_of [] ≡ []
unfolding lines_of
no_text = refl

-- a line of pairs of digits with its end is whole
is_whole : whole (record { bytes = 48 ∷ 102 ∷ []; ended = true }) ≡ true
unfolding whole all_digits digit_of
is_whole = refl

-- "another byte": an uppercase digit, and g
uppercase : whole (record { bytes = 48 ∷ 65 ∷ []; ended = true }) ≡ false
unfolding whole all_digits digit_of
uppercase = refl

letter_g : whole (record { bytes = 103 ∷ 48 ∷ []; ended = true }) ≡ false
unfolding whole all_digits digit_of
letter_g = refl

-- "odd digit count"
odd_count : whole (record { bytes = 48 ∷ 97 ∷ 102 ∷ []; ended = true }) ≡ false
unfolding whole all_digits digit_of
odd_count = refl

-- "empty line"
none : whole (record { bytes = []; ended = true }) ≡ false
unfolding whole all_digits
none = refl

-- "missing line end"
unended : whole (record { bytes = 48 ∷ 97 ∷ []; ended = false }) ≡ false
unfolding whole
unended = refl

-- what is read at a place: a whole line, from its second digit on a broken one, and no line past the end
read_whole : line_read_of (lines_of (drop 0 (48 ∷ 97 ∷ 10 ∷ []))) ≡ Whole 2
unfolding lines_of whole all_digits digit_of
read_whole = refl

read_broken : line_read_of (lines_of (drop 1 (48 ∷ 97 ∷ 10 ∷ []))) ≡ Broken
unfolding lines_of whole all_digits digit_of
read_broken = refl

read_end : line_read_of (lines_of (drop 3 (48 ∷ 97 ∷ 10 ∷ []))) ≡ End
unfolding lines_of
read_end = refl

-- the high digit first: "1f" is 31, "ff" is 255
one_f : number_of (49 ∷ 102 ∷ []) ≡ 31
unfolding number_from digit_of
one_f = refl

ff : number_of (102 ∷ 102 ∷ []) ≡ 255
unfolding number_from digit_of
ff = refl

-- 16 digits f are the largest number of 64 bits
largest : number_of (replicate 16 102) ≡ 2 ^ 64 - 1
unfolding number_from digit_of
largest = refl

-- a 17th digit is not read, nor one past the end
at_most_16 : number_of (digits_at (replicate 20 102) 1 17) ≡ 2 ^ 64 - 1
unfolding number_from digit_of
at_most_16 = refl

past_end : number_of (digits_at (49 ∷ 102 ∷ []) 1 4) ≡ 15
unfolding number_from digit_of
past_end = refl
