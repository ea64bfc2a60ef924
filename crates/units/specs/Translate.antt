-- The translation of a text of units into instructions: refusals 2, 25, 26, 27, and the text of the frames. Definitions only.
use Rattle.std.specs.Prelude.{Bool, true, false, List, [], ◌∷◌, ◌++◌, map, ℕ, suc, ◌+◌, leb, length}
use Rattle.text.specs.Hex.{lines_of}
use Rattle.page.specs.Digits.{two, sixteen}
use Rattle.instruction.specs.declared.Instruction.{Instruction}
use Rattle.instruction.specs.Test.{under, ◌&◌, passes}
use Rattle.instruction.specs.Word.{pick, word_of}
use Rattle.units.specs.declared.Opcode.{Opcode}
use Rattle.units.specs.declared.Opcode.TheVariants.{NotTaken, Plain as plain, Branch as branch}
use Rattle.units.specs.Units.{one_line, units_of, length_at, starts_of}
use Rattle.units.specs.Formats.{opcode_at}
use Rattle.units.specs.Frames.{frame_at, fine_at}

abbrev pub is_taken : Opcode → Bool
is_taken (plain o) = true
is_taken (branch b) = true
is_taken NotTaken = false

pub data Translation : Type 0 where
  refused : (number line : ℕ) → Translation
  translated : List Instruction → Translation

-- instruction i stands before what the others give
abbrev pub before : Instruction → Translation → Translation
before i (refused number line) = refused number line
before i (translated is) = translated (i ∷ is)

-- "then first broken instruction (its address as line), lowest number: 25 units end inside it; 26 opcode not taken; 27 .., or it is
-- the 33rd": the instructions at these starts, the first of which has address k
unfoldable pub translation_from : List ℕ → List ℕ → ℕ → Translation
translation_from us [] k = translated []
translation_from us (at ∷ more) k =
    pick (leb (at + length_at us at) (length us))
    (pick (is_taken (opcode_at us at))
    (pick (passes (fine_at us at & under k 32)) (before (frame_at us at) (translation_from us more (suc k))) (refused 27 k))
    (refused 26 k))
    (refused 25 k)

unfoldable pub units_translation : List ℕ → Translation
units_translation us = translation_from us (starts_of us) 0

-- "2, line 1, for bad text, a second line or part of a unit; then .."
unfoldable pub translation : List ℕ → Translation
translation text = pick (one_line (lines_of text)) (units_translation (units_of text)) (refused 2 1)

-- "`06 o a b c d` instruction": the frame of an instruction's word, as a line
abbrev pub frame_line : ℕ → List ℕ
frame_line word = two 6 ++ (sixteen word ++ (10 ∷ []))

-- one frame a line
abbrev pub frame_lines : List ℕ → List ℕ
frame_lines [] = []
frame_lines (word ∷ words) = frame_line word ++ frame_lines words

-- "the tool gives its instruction frames"
abbrev pub frames_text : List Instruction → List ℕ
frames_text is = frame_lines (map word_of is)
