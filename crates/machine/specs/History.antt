-- What happened in the first n steps of a run: the calls made, and the exceptions that left a method. Definitions only.
use Rattle.std.specs.Prelude.{List, [], ◌∷◌, ◌++◌, ℕ, zero, suc, ltb, length}
use Rattle.instruction.specs.Word.{pick}
use Rattle.program.specs.Program.{Program}
use Rattle.machine.specs.State.{Status, running, raised, done, uncaught, failed, State, top}
use Rattle.machine.specs.Run.{run}

-- "the caller's method and address at that step, and the callee"
pub record Made : Type 0 where
  pub caller : ℕ
  pub address : ℕ
  pub callee : ℕ

-- an exception that left a method: the method, and the object
pub record Left : Type 0 where
  pub method : ℕ
  pub object : ℕ

-- "A call is made by a step that adds a frame"
abbrev pub made_by : State → State → List Made
made_by before after =
    pick (ltb (length before.frames) (length after.frames))
    (record {
      caller = (top before.frames).method;
      address = (top before.frames).address;
      callee = (top after.frames).method;
    }
    ∷ [])
    []

-- "An exception leaves a method when a step with an object pending drops a frame of that method, the last frame included"
abbrev pub left_by : Status → State → State → List Left
left_by running before after = []
left_by (raised o) before after =
    pick (ltb (length after.frames) (length before.frames))
    (record { method = (top before.frames).method; object = o } ∷ [])
    []
left_by done before after = []
left_by (uncaught o) before after = []
left_by (failed e) before after = []

-- the calls made in the first n steps, in their order
unfoldable pub calls : Program → ℕ → List Made
calls p zero = []
calls p (suc n) = calls p n ++ made_by (run p n) (run p (suc n))

-- the exceptions that left a method in the first n steps, in their order
unfoldable pub leavings : Program → ℕ → List Left
leavings p zero = []
leavings p (suc n) = leavings p n ++ left_by (run p n).status (run p n) (run p (suc n))
