-- What a claim text says of a program: a claim, or a refusal with its number and line. Definitions only.
use Rattle.std.specs.Prelude.{Result, Ok, Err, ⊤, Bool, true, ◌&&◌, List, [], ◌∷◌, ℕ, ◌+◌, ◌*◌, eqb, ltb, leb, length, take, drop, set}
use Rattle.std.proofs.Math.Option.{Option, none, some}
use Rattle.text.specs.Hex.{Line, lines_of, whole, number_of as hex_of}
use Rattle.instruction.specs.Word.{pick}
use Rattle.mask.specs.Mask.{subset}
use Rattle.program.specs.Program.{Program}
use Rattle.flow.specs.Claim.{Slot}
use Rattle.slots.specs.Layout.{place_of, mask_of, no_masks}
use Rattle.claim.specs.declared.Refusal.{Refusal}
use Rattle.claim.specs.declared.Refusal.TheVariants.{TooLong, BadLine, UnknownKind, NotDue, BadBit}
use Rattle.claim.specs.Allowed.{full_claim}
use Rattle.claim.specs.Frames.{Due, frames_due}

-- refused, or the words in which the claim stands (crates/slots/specs/Layout.antt: `claim_in` of them is the claim)
pub data Reading : Type 0 where
  refused : (number line : ℕ) → Reading
  taken : (masks : List ℕ) → Reading

-- the number that n digits of a line say, from digit i on
unfoldable pub digits_from : Line → ℕ → ℕ → ℕ
digits_from l i n = hex_of (take n (drop i l.bytes))

-- "11 unknown kind": the kinds of a claim are hexadecimal 11 to 15
unfoldable pub known : Line → Bool
known l = leb 17 (digits_from l 0 2) && leb (digits_from l 0 2) 21

-- a line's bytes from digit i on start with these numbers
abbrev pub starts_with : Line → ℕ → List ℕ → Bool
starts_with l i [] = true
starts_with l i (n ∷ ns) = eqb (digits_from l i 2) n && starts_with l (i + 2) ns

-- how many digits stand before a frame's masks: two a number
abbrev pub head : Due → ℕ
head d = 2 * length d.numbers

-- the line is "the frame due, by kind, numbers or length": a mask has 16 digits
unfoldable pub is_due : Due → Line → Bool
is_due d l = starts_with l 0 d.numbers && eqb (length l.bytes) (head d + 16 * length d.slots)

-- the words with the masks of these slots, which stand in a line from digit i on; none where one has "a bit not allowed"
unfoldable pub masks_from : Program → Line → ℕ → List Slot → List ℕ → Option (List ℕ)
masks_from p l i [] ws = some ws
masks_from p l i (s ∷ ss) ws =
    pick (subset (mask_of (digits_from l i 16)) (full_claim p s))
    (masks_from p l (i + 16) ss (set ws (place_of s) (digits_from l i 16)))
    none

-- how far the reading of a claim came: stopped by a refusal at a line, or before these lines, the first of them with this number,
-- with these words
pub data Progress : Type 0 where
  stopped : (number line : ℕ) → Progress
  reached : (rest : List Line) → (line : ℕ) → (masks : List ℕ) → Progress

-- 13 where there is no claim
abbrev pub onward : List Line → ℕ → Option (List ℕ) → Progress
onward ls n none = stopped 13 n
onward ls n (some ws) = reached ls (n + 1) ws

-- "by line 10 as 2; 11 unknown kind; 12 not the frame due, by kind, numbers or length ..(missing: one line past the last); 13 a bit
-- not allowed"
unfoldable pub take_frame : Program → Due → Progress → Progress
take_frame p d (stopped number line) = stopped number line
take_frame p d (reached [] n ws) = stopped 12 n
take_frame p d (reached (l ∷ ls) n ws) =
    pick (whole l)
    (pick (known l) (pick (is_due d l) (onward ls n (masks_from p l (head d) d.slots ws)) (stopped 12 n)) (stopped 11 n))
    (stopped 10 n)

abbrev pub take_frames : Program → List Due → Progress → Progress
take_frames p [] s = s
take_frames p (d ∷ ds) s = take_frames p ds (take_frame p d s)

-- at the end: "or a frame too many", which is 12 where neither 10 nor 11 is
unfoldable pub ended : Progress → Reading
ended (stopped number line) = refused number line
ended (reached [] n ws) = taken ws
ended (reached (l ∷ ls) n ws) = refused (pick (whole l) (pick (known l) 12 11) 10) n

-- "Claim: 9 over 262,144 bytes", at line 0; then by line
unfoldable pub read_claim : Program → List ℕ → Reading
read_claim p text =
    pick (ltb 262144 (length text)) (refused 9 0) (ended (take_frames p (frames_due p) (reached (lines_of text) 1 no_masks)))

-- the number of a reading, 0 where a claim was taken, and its values: the line
abbrev pub reading_number : Reading → ℕ
reading_number (refused number line) = number
reading_number (taken ws) = 0

abbrev pub reading_values : Reading → List ℕ
reading_values (refused number line) = line ∷ []
reading_values (taken ws) = []

-- the words after a reading: untouched where refused
abbrev pub masks_after : Reading → List ℕ → List ℕ
masks_after (refused number line) before = before
masks_after (taken ws) before = ws

-- document 01's number of each refusal, and its line
abbrev pub refusal_number : Refusal → ℕ
refusal_number TooLong = 9
refusal_number (BadLine line) = 10
refusal_number (UnknownKind line) = 11
refusal_number (NotDue line) = 12
refusal_number (BadBit line) = 13

abbrev pub refusal_line : Refusal → ℕ
refusal_line TooLong = 0
refusal_line (BadLine line) = line
refusal_line (UnknownKind line) = line
refusal_line (NotDue line) = line
refusal_line (BadBit line) = line

-- the number of what became of a text, 0 where it is read, and its values
abbrev pub number_of : Result ⊤ Refusal → ℕ
number_of (Ok done) = 0
number_of (Err refusal) = refusal_number refusal

abbrev pub values_of : Result ⊤ Refusal → List ℕ
values_of (Ok done) = []
values_of (Err refusal) = refusal_line refusal ∷ []

-- the line of a refusal, 0 where there is none
abbrev pub line_of : Result ⊤ Refusal → ℕ
line_of (Ok done) = 0
line_of (Err refusal) = refusal_line refusal
