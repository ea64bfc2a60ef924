-- What stops the stepper, and what does not. Assumes nothing.
use mathlib.Core.Path.{◌≡◌, refl}
use mathlib.Core.List.{List, [], ◌∷◌, map}
use mathlib.Core.Option.{none, some}
use Prim.Native.Nat.{ℕ}
use lib.ListN.{replicate}
use borrow.Author.Tests.{lt-ltb}
use Rattle.program.specs.Program.{Program, code_length}
use Rattle.machine.specs.declared.Fault.{Fault}
use Rattle.machine.specs.declared.Fault.TheVariants.{NumberAsObject, ObjectAsNumber, FieldNotHad, NoMethod, NotThrowable}
use Rattle.machine.specs.declared.Effect.TheVariants.{Make, Call, RaiseNew, Fail}
use Rattle.machine.specs.State.{Frame, State, done, running, raised, no_frame, no_object}
use Rattle.machine.proofs.Continues.{At, effect_at}
use Rattle.turn.specs.declared.Halt.TheVariants.{Done, Uncaught, Faulted, FullStore, FullStack, StepsMade, Outside}
use Rattle.turn.specs.Stop.{halt_number, room, stop_by, stop_of}

-- 20, 21, 22 and 24, and the numbers of the ends
numbers :
    map halt_number
    (FullStore ∷ FullStack ∷ StepsMade ∷ Outside ∷ Done ∷ Uncaught
    ∷ Faulted NumberAsObject ∷ Faulted ObjectAsNumber ∷ Faulted FieldNotHad ∷ Faulted NoMethod ∷ Faulted NotThrowable ∷ [])
    ≡ 20 ∷ 21 ∷ 22 ∷ 24 ∷ 32 ∷ 33 ∷ 42 ∷ 43 ∷ 45 ∷ 46 ∷ 47 ∷ []
numbers = refl

-- "21: a call without fault at 32 frames": a fault comes first, however many frames are open
pub fault_first : (s : State) (e : Fault) → room s (Fail e) ≡ none
fault_first s e = refl

-- so many frames open
abbrev open_frames_lem : ℕ → State → State
open_frames_lem n s = record { frames = replicate n no_frame; objects = s.objects; statics = s.statics; status = s.status }

full_stack : (s : State) (m c : ℕ) → room (open_frames_lem 32 s) (Call m c) ≡ some FullStack
full_stack s m c = refl

not_yet : (s : State) (m c : ℕ) → room (open_frames_lem 31 s) (Call m c) ≡ none
not_yet s m c = refl

-- so many objects made
abbrev made_objects : ℕ → State → State
made_objects n s = record { frames = s.frames; objects = replicate n no_object; statics = s.statics; status = s.status }

-- "256 objects pass, the 257th is 20"
full_store : (s : State) (a k : ℕ) → room (made_objects 256 s) (Make a k) ≡ some FullStore
full_store s a k = refl

store_space : (s : State) (a k : ℕ) → room (made_objects 255 s) (Make a k) ≡ none
store_space s a k = refl

-- "a full store gives 20": the object that a step raises is the 257th too
full_store_raising : (s : State) (k : ℕ) → room (made_objects 256 s) (RaiseNew k) ≡ some FullStore
full_store_raising s k = refl

store_space_raising : (s : State) (k : ℕ) → room (made_objects 255 s) (RaiseNew k) ≡ none
store_space_raising s k = refl

-- a call on null at 32 frames opens none: it is what the store says, and never 21
full_stack_raising : (s : State) (k : ℕ) → room (open_frames_lem 32 s) (RaiseNew k) ≡ room s (RaiseNew k)
full_stack_raising s k = refl

-- "after an end the state stays"
pub ended : (p : Program) (s : State) (fs : List Frame) → stop_by p s done fs ≡ some Done
ended p s fs = refl

-- "24: an address outside its method", with or without an object pending
pub nowhere : (p : Program) (s : State) → stop_by p s running [] ≡ some Outside
nowhere p s = refl

pub nowhere_raised : (p : Program) (s : State) (o : ℕ) → stop_by p s (raised o) [] ≡ some Outside
nowhere_raised p s o = refl

-- inside its method a state is stopped by its next effect, and with an object pending by nothing
module _ (p : Program) (s : State) (f : Frame) (rest : List Frame) where
  pub running_stop : At p s running f rest → stop_of p s ≡ room s (effect_at p s f)
  unfolding stop_of
  running_stop h = rw (h.status, h.frames, lt-ltb f.address (code_length p f.method) h.inside)

  pub raised_stop : (o : ℕ) → At p s (raised o) f rest → stop_of p s ≡ none
  unfolding stop_of
  raised_stop o h = rw (h.status, h.frames, lt-ltb f.address (code_length p f.method) h.inside)
