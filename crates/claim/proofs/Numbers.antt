-- The numbers of a claim text's refusals are 9 to 13. Assumes nothing.
use mathlib.Core.List.{List, [], ◌∷◌}
use mathlib.Core.Option.{Option, none, some}
use Prim.Native.Nat.{ℕ, ◌≤◌}
use native.Mathlib.Omega.{arith}
use lib.Dec.{ltb}
use lib.ListN.{length}
use Rattle.text.specs.Hex.{Line, lines_of, whole}
use Rattle.text.proofs.Cases.{by_test}
use Rattle.instruction.proofs.Flags.{pick_cases}
use Rattle.program.specs.Program.{Program}
use Rattle.slots.specs.Layout.{no_masks}
use Rattle.claim.specs.Frames.{Due, frames_due}
use Rattle.claim.specs.ReadClaim.{Reading, refused, taken, known, is_due, head, masks_from}
use Rattle.claim.specs.ReadClaim.{Progress, stopped, reached, onward, take_frame, take_frames, ended, read_claim}

-- by line: 10 to 13
abbrev pub Stopping : Progress → Type 0
Stopping (stopped number line) = (10 ≤ number) × (number ≤ 13)
Stopping (reached ls n ws) = Unit {0}

onward_stopping : (ls : List Line) (n : ℕ) (o : Option (List ℕ)) → Stopping (onward ls n o)
onward_stopping ls n none = (omega arith, omega arith)
onward_stopping ls n (some ws) = tt

frame_stopping : (p : Program) (d : Due) (s : Progress) → Stopping s → Stopping (take_frame p d s)
unfolding take_frame
frame_stopping p d (stopped number line) h = h
frame_stopping p d (reached [] n ws) h = (omega arith, omega arith)
frame_stopping p d (reached (l ∷ ls) n ws) h =
    by_test (whole l)
    (λ a.
    by_test (known l)
    (λ b.
    by_test (is_due d l)
    (λ c. rw (a, b, c) (onward_stopping ls n (masks_from p l (head d) d.slots ws)))
    (λ c. rw (a, b, c) (omega arith, omega arith)))
    (λ b. rw (a, b) (omega arith, omega arith)))
    (λ a. rw a (omega arith, omega arith))

pub frames_stopping : (p : Program) (ds : List Due) (s : Progress) → Stopping s → Stopping (take_frames p ds s)
frames_stopping p [] s h = h
frames_stopping p (d ∷ ds) s h = frames_stopping p ds (take_frame p d s) (frame_stopping p d s h)

-- of a reading
abbrev pub Numbered : Reading → Type 0
Numbered (refused number line) = (9 ≤ number) × (number ≤ 13)
Numbered (taken ws) = Unit {0}

ended_numbered : (s : Progress) → Stopping s → Numbered (ended s)
unfolding ended
ended_numbered (stopped number line) h = (omega (arith, h.0), h.1)
ended_numbered (reached [] n ws) h = tt
ended_numbered (reached (l ∷ ls) n ws) h =
    by_test (whole l)
    (λ a.
    by_test (known l) (λ b. rw (a, b) (omega arith, omega arith)) (λ b. rw (a, b) (omega arith, omega arith)))
    (λ a. rw a (omega arith, omega arith))

pub numbered : (p : Program) (text : List ℕ) → Numbered (read_claim p text)
unfolding read_claim
numbered p text =
    pick_cases Numbered (ltb 262144 (length text)) (refused 9 0) _ (λ _. (omega arith, omega arith))
    (λ _. ended_numbered _ (frames_stopping p (frames_due p) (reached (lines_of text) 1 no_masks) tt))
