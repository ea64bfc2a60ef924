-- Parts of a claim's text that inner functions put. Definitions only, and none that a reader of the public promise has to believe.
use Rattle.std.specs.Prelude.{List, [], ◌∷◌, ◌++◌, ℕ}
use Rattle.page.specs.Digits.{sixteen}
use Rattle.mask.specs.declared.Mask.{Mask}
use Rattle.program.specs.Lists.{joined}
use Rattle.program.specs.Program.{Program}
use Rattle.claim.specs.declared.Part.{Part}
use Rattle.claim.specs.Frames.{Due, inner, frame_at}
use Rattle.wording.specs.ClaimText.{numbers_text}

-- the frames of a part at its first number
abbrev pub row_due : Program → Part → ℕ → List Due
row_due p k a = joined (inner p k a) (frame_at p k a)

-- a line of some numbers and one mask
abbrev pub mask_line : List ℕ → Mask → List ℕ
mask_line numbers mask = numbers_text numbers ++ sixteen mask.bits ++ (10 ∷ [])
