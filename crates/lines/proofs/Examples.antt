-- The definitions at a small text, by computation: two lines, then one of another byte. Bytes: 48 is '0', 97 'a', 103 'g', 10 the line
-- end. Assumes nothing.
use Rattle.std.proofs.Common.{◌≡◌, ℕ, List, [], ◌∷◌, refl}
use Rattle.text.specs.Hex.{digit_of, all_digits, lines_of, whole}
use Rattle.text.specs.declared.LineRead.TheVariants.{Whole, Broken, End}
use Rattle.lines.specs.Cursors.{cursor, past, found_at}

text : List ℕ
text = 48 ∷ 97 ∷ 10 ∷ 48 ∷ 48 ∷ 97 ∷ 97 ∷ 10 ∷ 103 ∷ 10 ∷ []

-- the lines are numbered from 1, and each begins past the end of the one before
first_line_lem : found_at text (cursor 0 1) ≡ record { read = Whole 2; next = cursor 3 2 }
unfolding text lines_of whole all_digits digit_of
first_line_lem = refl

second_line : found_at text (cursor 3 2) ≡ record { read = Whole 4; next = cursor 8 3 }
unfolding text lines_of whole all_digits digit_of
second_line = refl

-- nothing to go on to: the cursor stays, and with it the line that is reported
broken_line : found_at text (cursor 8 3) ≡ record { read = Broken; next = cursor 8 3 }
unfolding text lines_of whole all_digits digit_of
broken_line = refl

no_line : found_at text (cursor 10 4) ≡ record { read = End; next = cursor 10 4 }
unfolding text lines_of
no_line = refl

-- a place and a number that a word does not hold
largest : past (cursor 18446744073709551615 18446744073709551615) (Whole 2) ≡ cursor 2 0
largest = refl
