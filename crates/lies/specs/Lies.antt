-- When a state lies in the lent slices and a tally. Nothing here needs to be believed to read a promise of the stepper.
-- Definitions only.
use Rattle.std.specs.Prelude.{◌≡◌, List, [], ◌∷◌, ◌≤◌, ◌<◌, length}
use Rattle.program.specs.Lists.{Every}
use Rattle.machine.specs.State.{Frame, Status, running, raised, done, uncaught, failed, State}
use Rattle.turn.specs.declared.Status as code
use Rattle.turn.specs.declared.Status.TheVariants.{Running, Raised, Done, Uncaught, Failed}
use Rattle.turn.specs.declared.Tally.{Tally}
use Rattle.cells.specs.Cells.{frames_of, objects_of, statics_of}
use Rattle.drive.specs.Models.{Lent}

abbrev pub status_of : code.Status → Status
status_of Running = running
status_of (Raised o) = raised o
status_of Done = done
status_of (Uncaught o) = uncaught o
status_of (Failed e) = failed e

-- every frame but the top one is at an address below 32
abbrev pub Waiting : List Frame → Type 0
Waiting [] = Unit {0}
Waiting (f ∷ rest) = Every (λ g. g.address < 32) rest

-- slices that have room for a state, and no element at the last number of a word
pub record Roomy (before : Lent) : Type 0 where
  pub frames : 32 ≤ length before.frames
  pub objects : 256 ≤ length before.objects
  pub statics : 16 ≤ length before.statics
  pub frames_end : length before.frames ≤ 18446744073709551615
  pub objects_end : length before.objects ≤ 18446744073709551615
  pub statics_end : length before.statics ≤ 18446744073709551615

-- a state lies in slices that held what was before, and in a tally
pub record Lies (s : State) (before : Lent) (t : Tally) (now : Lent) : Type 0 where
  pub depth : t.depth ≡ length s.frames
  pub made : t.made ≡ length s.objects
  pub status : status_of t.status ≡ s.status
  pub frames : now.frames ≡ frames_of s before.frames
  pub objects : now.objects ≡ objects_of s before.objects
  pub statics : now.statics ≡ statics_of s before.statics
  pub few_frames : length s.frames ≤ 32
  pub few_objects : length s.objects ≤ 256
  pub waiting : Waiting s.frames
