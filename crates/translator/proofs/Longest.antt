-- The frames of a text have at most 608 bytes: 32 lines of 19. Assumes nothing.
use mathlib.Core.Path.{◌≡◌}
use mathlib.Core.List.{List, map}
use Prim.Native.Nat.{ℕ, ◌≤◌}
use native.Mathlib.Omega.{arith}
use lib.Dec.{leb}
use lib.ListN.{length, length-map}
use borrow.Author.Tests.{leb-true, leb-false}
use Rattle.text.proofs.Cases.{by_test}
use Rattle.instruction.specs.declared.Instruction.{Instruction}
use Rattle.instruction.specs.Word.{word_of}
use Rattle.units.specs.Units.{units_of}
use Rattle.units.specs.Translate.{translated, translation, frames_text}
use Rattle.units.proofs.Taken.{units_taken, text_translated}
use Rattle.translator.proofs.FrameText.{lines_length}

-- no instruction has address 32
frames_few : (text : List ℕ) (is : List Instruction) → translation text ≡ translated is → length is ≤ 32
frames_few text is e =
    let (n, all) = units_taken (units_of text) is (text_translated text is e) in
    by_test (leb (length is) 32)
    (λ t. leb-true (length is) 32 t)
    (λ t. absurd (omega (arith, (all 32 (omega (arith, n, leb-false (length is) 32 t))).small)))

pub frames_most : (text : List ℕ) (is : List Instruction) → translation text ≡ translated is → length (frames_text is) ≤ 608
frames_most text is e =
    omega (arith, lines_length (map word_of is), length-map is word_of, frames_few text is e)
