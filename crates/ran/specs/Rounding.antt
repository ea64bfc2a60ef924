-- What holds of the stepper's run before each turn of its loops and after the last one. Nothing here needs to be believed to read a
-- promise of the stepper. Definitions only.
use Rattle.std.specs.Prelude.{◌≡◌, is_none, false, List, ◌∷◌, ℕ, suc, ◌<◌, length}
use Rattle.std.proofs.Math.Option.{some}
use Rattle.program.specs.Program.{Program}
use Rattle.machine.specs.State.{Frame, State, running}
use Rattle.machine.proofs.Continues.{At}
use Rattle.turn.specs.declared.Halt.TheVariants.{Outside}
use Rattle.turn.specs.declared.Tally.{Tally}
use Rattle.turn.specs.Stop.{stop_of}
use Rattle.site.specs.declared.How.{How}
use Rattle.site.specs.declared.How.TheVariants.{Went, Leaves, Raises, Failed}
use Rattle.shift.specs.declared.Run.{Run}
use Rattle.shift.specs.declared.Stay.{Stay}
use Rattle.drive.specs.Models.{Lent, Done}
use Rattle.lies.specs.Staying.{LeftBy}
use Rattle.ran.specs.Ran.{Going}
use Rattle.begun.specs.Begun.{halt_of}

-- before a turn of the loop that stays in a frame: it stands at the top frame
pub record Standing (p : Program) (n : ℕ) (s : State) (before : Lent) (t : Tally) (k : Stay) (now : Lent) : Type 0 where
  pub going : Going p n k.left s before t now
  pub frame : Frame
  pub rest : List Frame
  pub frames : going.state.frames ≡ frame ∷ rest
  pub top : k.top ≡ length rest
  pub method : k.method ≡ frame.method
  pub pc : k.pc ≡ frame.address
  pub how : k.how ≡ Went

-- after the last one, at an instruction that does not stay in its frame, at one that raises a new object, or at a fault; it was
-- counted and is not done
pub record Here (p : Program) (n : ℕ) (s : State) (before : Lent) (t : Tally) (k : Stay) (now : Lent) (h : How) : Type 0 where
  pub going : Going p n (suc k.left) s before t now
  pub frame : Frame
  pub rest : List Frame
  pub at : At p going.state running frame rest
  pub method : k.method ≡ frame.method
  pub pc : k.pc ≡ frame.address
  pub left : LeftBy p going.state frame rest h

-- or at an address outside its method, or with no step left
abbrev pub PausedBy : Program → ℕ → State → Lent → Tally → Stay → Lent → How → Type 0
PausedBy p n s before t k now Went =
    (g : Going p n k.left s before t now) × (0 < k.left → stop_of p g.state ≡ some Outside)
PausedBy p n s before t k now Leaves = Here p n s before t k now Leaves
PausedBy p n s before t k now (Raises c) = Here p n s before t k now (Raises c)
PausedBy p n s before t k now (Failed e) = Here p n s before t k now (Failed e)

abbrev pub Paused : Program → ℕ → State → Lent → Tally → Done Stay → Type 0
Paused p n s before t d = PausedBy p n s before t d.result d.memory d.result.how

-- after a turn, by how it ended
abbrev pub NextBy : Program → ℕ → State → Lent → Tally → Done Stay → How → Type 0
NextBy p n s before t d Went = Standing p n s before t d.result d.memory
NextBy p n s before t d Leaves = Here p n s before t d.result d.memory Leaves
NextBy p n s before t d (Raises c) = Here p n s before t d.result d.memory (Raises c)
NextBy p n s before t d (Failed e) = Here p n s before t d.result d.memory (Failed e)

-- before and after a round: what stopped the run, if anything did, stops the state's next step
pub record Rounded (p : Program) (n : ℕ) (s : State) (before : Lent) (r : Done Run) : Type 0 where
  pub going : Going p n r.result.left s before r.result.tally r.memory
  pub stops : is_none r.result.stop ≡ false → (0 < r.result.left) × (stop_of p going.state ≡ some (halt_of r.result))
