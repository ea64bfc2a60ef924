-- What a step that does not stay in its frame comes to, of a state that lies in the lent slices. Nothing here needs to be believed to
-- read a promise of the stepper. Definitions only.
use Rattle.std.specs.Prelude.{◌≡◌, List, ◌∷◌, ℕ, ◌≤◌, length, get_or, set, Option, Some, None}
use Rattle.std.proofs.Math.Option.{none, some}
use Rattle.program.specs.Program.{Program, word_at}
use Rattle.machine.specs.declared.Effect.{Effect}
use Rattle.machine.specs.declared.Effect.TheVariants.{Next, Jump, Write, Load, LoadStatic, Make, Store, StoreStatic, Call, Exit, Raise}
use Rattle.machine.specs.declared.Effect.TheVariants.{RaiseNew, Fail}
use Rattle.machine.specs.State.{Frame, State}
use Rattle.machine.specs.Run.{step}
use Rattle.turn.specs.declared.Halt.TheVariants.{FullStore, FullStack, Outside}
use Rattle.turn.specs.Stop.{stop_of}
use Rattle.cells.specs.declared.Frame as cells
use Rattle.cells.specs.declared.Object.{Object}
use Rattle.store.specs.Store.{absent_object, with_class}
use Rattle.site.specs.Site.{opcode_of}
use Rattle.shift.specs.declared.At.{At}
use Rattle.shift.specs.declared.Run.{Run}
use Rattle.shift.specs.declared.Shift.{Shift}
use Rattle.shift.specs.declared.Stop.{Stop}
use Rattle.shift.specs.declared.Stop.TheVariants as stop
use Rattle.shift.specs.Places.{next_left}
use Rattle.shift.specs.Shift.{stopped}
use Rattle.drive.specs.Models.{Lent, Done, done}
use Rattle.turns.specs.Turns.{popped, resumed, moved, wrote, entered, shifted_on, pass_done, entered_on}
use Rattle.lies.specs.Lies.{Roomy, Lies}

-- a run has come to the instruction at a state's top frame
pub record Come (p : Program) (f : Frame) (h : At) : Type 0 where
  pub pc : h.pc ≡ f.address
  pub word : h.word ≡ word_at p f.method f.address
  pub opcode : h.opcode ≡ opcode_of (word_at p f.method f.address)

-- by what stopped it: nothing, and the next state lies in the slices; or a full store, a full stack or an address outside, and
-- nothing was done
abbrev pub ShiftedBy : Program → State → Lent → Lent → Run → Done Run → Option Stop → Type 0
ShiftedBy p s before now k r None =
    (stop_of p s ≡ none) × (Lies (step p s) before r.result.tally r.memory × (r.result.left ≡ next_left k.left))
ShiftedBy p s before now k r (Some stop.Store) = (stop_of p s ≡ some FullStore) × (r ≡ done (stopped k stop.Store) now)
ShiftedBy p s before now k r (Some stop.Stack) = (stop_of p s ≡ some FullStack) × (r ≡ done (stopped k stop.Stack) now)
ShiftedBy p s before now k r (Some stop.Outside) = (stop_of p s ≡ some Outside) × (r ≡ done (stopped k stop.Outside) now)

abbrev pub Shifted : Program → State → Lent → Lent → Run → Done Run → Type 0
Shifted p s before now k r = ShiftedBy p s before now k r r.result.stop

-- what a shift comes to in the slices; the frames where it passes no argument, and the objects
unfoldable pub written : List ℕ → Lent → Shift → Done Run
written t m e = done e.run (entered_on (pass_done t (shifted_on m e) e.pass).memory e)

abbrev pub frames_by : List cells.Frame → Shift → List cells.Frame
frames_by fs e = entered (wrote (moved (resumed (popped fs e) e) e) e) e

abbrev pub objects_by : List Object → Shift → List Object
objects_by os e = set os e.made (with_class (get_or os e.made absent_object) e.class)

-- a state in the slices with frame f on top, and a run that nothing stopped
pub record Topped (s : State) (before now : Lent) (k : Run) (f : Frame) (rest : List Frame) : Type 0 where
  pub roomy : Roomy before
  pub lies : Lies s before k.tally now
  pub going : k.stop ≡ None
  pub frames : s.frames ≡ f ∷ rest
  pub small : length f.registers ≤ 16

-- an effect that does not stay in its frame
abbrev pub Leaving : Effect → Type 0
Leaving Next = ⊥
Leaving (Jump to) = ⊥
Leaving (Write a v) = ⊥
Leaving (Load a o x) = ⊥
Leaving (LoadStatic a x) = ⊥
Leaving (Make a k) = Unit {0}
Leaving (Store o x v) = ⊥
Leaving (StoreStatic x v) = ⊥
Leaving (Call m c) = Unit {0}
Leaving (Exit v) = Unit {0}
Leaving (Raise o) = Unit {0}
Leaving (RaiseNew k) = Unit {0}
Leaving (Fail e) = Unit {0}
