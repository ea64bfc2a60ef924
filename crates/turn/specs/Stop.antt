-- When the stepper makes no further step. Definitions only.
use Rattle.std.specs.Prelude.{List, [], ◌∷◌, ℕ, ◌+◌, ltb, length}
use Rattle.std.proofs.Math.Option.{Option, none, some}
use Rattle.instruction.specs.Word.{pick}
use Rattle.program.specs.Program.{Program, code_length, instruction_at}
use Rattle.machine.specs.declared.Effect.{Effect}
use Rattle.machine.specs.declared.Effect.TheVariants.{Next, Jump, Write, Load, LoadStatic, Make, Store, StoreStatic, Call, Exit, Raise}
use Rattle.machine.specs.declared.Effect.TheVariants.{RaiseNew, Fail}
use Rattle.machine.specs.State.{Frame, Status, running, raised, done, uncaught, failed, State, fault_number}
use Rattle.machine.specs.Decide.{decide}
use Rattle.turn.specs.declared.Halt.{Halt}
use Rattle.turn.specs.declared.Halt.TheVariants.{Done, Uncaught, Faulted, FullStore, FullStack, StepsMade, Outside}

-- document 01's numbers 20, 21, 22 and 24. It leaves those of the ends free: 32 done, 33 uncaught, and 40 and its number for a
-- fault: 42, 43, 45, 46, 47
abbrev pub halt_number : Halt → ℕ
halt_number Done = 32
halt_number Uncaught = 33
halt_number (Faulted e) = 40 + fault_number e
halt_number FullStore = 20
halt_number FullStack = 21
halt_number StepsMade = 22
halt_number Outside = 24

-- "20: new-instance at 256 objects. 21: a call without fault at 32 frames. In both the step is neither made nor counted". A step
-- that raises a new object asks for what new-instance does: "a full store gives 20"
abbrev pub room : State → Effect → Option Halt
room s Next = none
room s (Jump to) = none
room s (Write a v) = none
room s (Load a o x) = none
room s (LoadStatic a x) = none
room s (Make a k) = pick (ltb (length s.objects) 256) none (some FullStore)
room s (Store o x v) = none
room s (StoreStatic x v) = none
room s (Call m c) = pick (ltb (length s.frames) 32) none (some FullStack)
room s (Exit v) = none
room s (Raise o) = none
room s (RaiseNew k) = pick (ltb (length s.objects) 256) none (some FullStore)
room s (Fail e) = none

-- what stops the stepper at a state, by status and frames: an end, "24: an address outside its method", 20 or 21. 24 comes
-- before a pending object is handled
abbrev pub stop_by : Program → State → Status → List Frame → Option Halt
stop_by p s running [] = some Outside
stop_by p s running (f ∷ rest) =
    pick (ltb f.address (code_length p f.method))
    (room s (decide p s f (instruction_at p f.method f.address)))
    (some Outside)
stop_by p s (raised o) [] = some Outside
stop_by p s (raised o) (f ∷ rest) = pick (ltb f.address (code_length p f.method)) none (some Outside)
stop_by p s done fs = some Done
stop_by p s (uncaught o) fs = some Uncaught
stop_by p s (failed e) fs = some (Faulted e)

unfoldable pub stop_of : Program → State → Option Halt
stop_of p s = stop_by p s s.status s.frames
