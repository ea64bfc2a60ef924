-- The text of a claim about a program, and the words in which it is read. Definitions only.
use Rattle.std.specs.Prelude.{List, [], ◌∷◌, ◌++◌, ℕ, set}
use Rattle.page.specs.Digits.{two, sixteen}
use Rattle.program.specs.Program.{Program}
use Rattle.flow.specs.Claim.{Slot, Claim}
use Rattle.slots.specs.Layout.{place_of, no_masks}
use Rattle.claim.specs.Frames.{Due, frames_due}

-- the kind and numbers of a frame, a byte each; its masks
abbrev pub numbers_text : List ℕ → List ℕ
numbers_text [] = []
numbers_text (n ∷ ns) = two n ++ numbers_text ns

abbrev pub masks_text : Claim → List Slot → List ℕ
masks_text c [] = []
masks_text c (s ∷ ss) = sixteen (c s).bits ++ masks_text c ss

-- "one frame a line, each line ended by byte 0a"
abbrev pub frame_text : Claim → Due → List ℕ
frame_text c d = (numbers_text d.numbers ++ masks_text c d.slots) ++ (10 ∷ [])

abbrev pub frames_text : Claim → List Due → List ℕ
frames_text c [] = []
frames_text c (d ∷ ds) = frame_text c d ++ frames_text c ds

-- "Frames, complete and in order": those that the claim reader takes
unfoldable pub claim_text : Program → Claim → List ℕ
claim_text p c = frames_text c (frames_due p)

-- the words in which a claim's text is read: the masks of the slots of the frames due, and zero elsewhere
abbrev pub put_masks : Claim → List Slot → List ℕ → List ℕ
put_masks c [] ws = ws
put_masks c (s ∷ ss) ws = put_masks c ss (set ws (place_of s) (c s).bits)

abbrev pub put_frames : Claim → List Due → List ℕ → List ℕ
put_frames c [] ws = ws
put_frames c (d ∷ ds) ws = put_frames c ds (put_masks c d.slots ws)

unfoldable pub words_of : Program → Claim → List ℕ
words_of p c = put_frames c (frames_due p) no_masks
