-- Numbers that a caller of the translator sees: 36 is that of frames that are written alone, since refusals are numbered up to 27.
-- Assumes nothing.
use mathlib.Core.Path.{◌≡◌}
use mathlib.Core.List.{List, [], ◌∷◌}
use Prim.Native.Nat.{ℕ, suc, ◌+◌, ◌≤◌}
use native.Mathlib.Omega.{arith}
use lib.Dec.{leb, ltb}
use lib.ListN.{length}
use Rattle.text.specs.Hex.{lines_of}
use Rattle.instruction.specs.declared.Instruction.{Instruction}
use Rattle.instruction.specs.Test.{passes, under, ◌&◌}
use Rattle.instruction.proofs.Flags.{pick_cases}
use Rattle.units.specs.Units.{one_line, units_of, length_at, starts_of}
use Rattle.units.specs.Formats.{opcode_at}
use Rattle.units.specs.Frames.{frame_at, fine_at}
use Rattle.units.specs.Translate.{is_taken, Translation, refused, translated}
use Rattle.units.specs.Translate.{before, translation_from, units_translation, translation, frames_text}
use Rattle.output.specs.declared.Output.TheVariants.{Written}
use Rattle.output.specs.Numbers.{number_of, values_of}
use Rattle.output.specs.Written.{answer_for, writing_number, writing_values}
use Rattle.output.proofs.Laws.{Numbered, fitted_numbered, written_is}
use Rattle.translator.specs.Translating.{with_translation, translating}

abbrev Few : Translation → Type 0
Few (refused number line) = number ≤ 27
Few (translated is) = Unit {0}

before_few : (i : Instruction) (t : Translation) → Few t → Few (before i t)
before_few i (refused number line) h = h
before_few i (translated is) h = tt

from_few : (us starts : List ℕ) (k : ℕ) → Few (translation_from us starts k)
unfolding translation_from
from_few us [] k = tt
from_few us (at ∷ more) k =
    pick_cases Few (leb (at + length_at us at) (length us)) _ (refused 25 k)
    (λ _. pick_cases Few (is_taken (opcode_at us at)) _ (refused 26 k)
    (λ _. pick_cases Few (passes (fine_at us at & under k 32)) (before (frame_at us at) (translation_from us more (suc k))) (refused 27 k)
    (λ _. before_few (frame_at us at) (translation_from us more (suc k)) (from_few us more (suc k))) (λ _. omega arith))
    (λ _. omega arith))
    (λ _. omega arith)

few : (text : List ℕ) → Few (translation text)
unfolding translation units_translation
few text =
    pick_cases Few (one_line (lines_of text)) (units_translation (units_of text)) (refused 2 1)
    (λ _. from_few (units_of text) (starts_of (units_of text)) 0) (λ _. omega arith)

numbered : (text : List ℕ) (size : ℕ) → Numbered 27 (translating text size)
unfolding translating
numbered text size = go (translation text) (few text)
  where
    go : (t : Translation) → Few t → Numbered 27 (with_translation size t)
    go (refused number line) h = h
    go (translated is) h = fitted_numbered 27 (ltb size (length (frames_text is))) (frames_text is)

pub written_by : (text : List ℕ) (size n : ℕ) → writing_number (translating text size) ≡ number_of (Written n)
    → writing_values (translating text size) ≡ values_of (Written n) → answer_for (translating text size) ≡ Written n
written_by text size n = written_is 27 (omega arith) (translating text size) (numbered text size) n
