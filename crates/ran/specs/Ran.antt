-- What the stepper's run must reach in the lent slices. Nothing here needs to be believed to read a promise of the stepper.
-- Definitions only.
use Rattle.std.specs.Prelude.{◌≡◌, ℕ, ◌-◌, ◌≤◌, length}
use Rattle.program.specs.Program.{Program}
use Rattle.machine.specs.State.{State}
use Rattle.machine.specs.Shaped.{Shaped}
use Rattle.turn.specs.declared.Tally.{Tally}
use Rattle.bounded.specs.Bounded.{Stopped, steps}
use Rattle.cells.specs.Cells.{frames_of, objects_of, statics_of}
use Rattle.shift.specs.declared.Run.{Run}
use Rattle.drive.specs.Models.{Lent}
use Rattle.lies.specs.Lies.{status_of, Lies}
use Rattle.begun.specs.Begun.{halt_of}

-- of n steps from s so many are left, and the state that the others led to lies in the lent slices
pub record Going (p : Program) (n left : ℕ) (s : State) (before : Lent) (t : Tally) (now : Lent) : Type 0 where
  pub few : left ≤ n
  pub state : State
  pub same : steps p n 0 s ≡ steps p left (n - left) state
  pub shaped : Shaped p state
  pub lies : Lies state before t now

-- a run that has made all its steps of n tells what the stepper must answer, and leaves the state in the lent slices
pub record Finished (x : Stopped) (before : Lent) (n : ℕ) (k : Run) (now : Lent) : Type 0 where
  pub halt : halt_of k ≡ x.halt
  pub count : n - k.left ≡ x.count
  pub depth : k.tally.depth ≡ length x.state.frames
  pub made : k.tally.made ≡ length x.state.objects
  pub status : status_of k.tally.status ≡ x.state.status
  pub frames : now.frames ≡ frames_of x.state before.frames
  pub objects : now.objects ≡ objects_of x.state before.objects
  pub statics : now.statics ≡ statics_of x.state before.statics
