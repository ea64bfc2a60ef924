-- A text: lines of lowercase hexadecimal digits, each line ended by byte 0a. Definitions only.
-- `pick test a b` is a if the test passes, else b
pub use Rattle.std.specs.Prelude.{cond as pick}
use Rattle.std.specs.Prelude.{Bool, true, false, ◌&&◌, List, [], ◌∷◌, ℕ, ◌+◌, ◌*◌, ◌-◌, ◌%◌, min, eqb, ltb, length, take, drop}
use Rattle.text.specs.declared.LineRead.{LineRead}
use Rattle.text.specs.declared.LineRead.TheVariants.{Whole, Broken, End}

-- "Lowercase hexadecimal": the value of a digit 0 to 9 or a to f, and 16 for any other byte
unfoldable pub digit_of : ℕ → ℕ
digit_of b =
    pick (ltb b 48) 16 (pick (ltb b 58) (b - 48) (pick (ltb b 97) 16 (pick (ltb b 103) (b - 87) 16)))

-- every byte is a digit
unfoldable pub all_digits : List ℕ → Bool
all_digits [] = true
all_digits (b ∷ bs) = ltb (digit_of b) 16 && all_digits bs

-- A line: the bytes before its end, and whether the end, byte 0a, is there.
pub record Line : Type 0 where
  pub bytes : List ℕ
  pub ended : Bool

-- byte b stands before the first of these lines
abbrev pub onto : ℕ → List Line → List Line
onto b [] = record { bytes = b ∷ []; ended = false } ∷ []
onto b (l ∷ ls) = record { bytes = b ∷ l.bytes; ended = l.ended } ∷ ls

-- "one frame a line, each line ended by byte 0a": the lines of a text
unfoldable pub lines_of : List ℕ → List Line
lines_of [] = []
lines_of (b ∷ bs) =
    pick (eqb b 10) (record { bytes = []; ended = true } ∷ lines_of bs) (onto b (lines_of bs))

-- refusal 2 of a program, 10 of a claim: "another byte, odd digit count, empty line or missing line end". A line that
-- has none of these is whole
unfoldable pub whole : Line → Bool
whole l =
    l.ended && (all_digits l.bytes && (ltb 0 (length l.bytes) && eqb (length l.bytes % 2) 0))

-- "wider fields have the high byte first": the number that digits say, after n. A byte that is no digit counts as 0: no
-- field of a whole line has one
unfoldable pub number_from : ℕ → List ℕ → ℕ
number_from n [] = n
number_from n (d ∷ ds) = number_from (n * 16 + digit_of d % 16) ds

abbrev pub number_of : List ℕ → ℕ
number_of ds = number_from 0 ds

-- at most 16 digits of a text, from a place on: what a 64-bit number holds
abbrev pub digits_at : List ℕ → ℕ → ℕ → List ℕ
digits_at text at count = take (min count 16) (drop at text)

-- what stands first among lines: the number of digits of a whole line, a broken line, or no line
abbrev pub line_read_of : List Line → LineRead
line_read_of [] = End
line_read_of (l ∷ ls) = pick (whole l) (Whole (length l.bytes)) Broken
