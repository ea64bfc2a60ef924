-- The stepper's run: the machine's own steps, until an end, a full store or stack, n steps, or an address outside its method.
-- Definitions only.
use Rattle.std.proofs.Math.Option.{Option, none, some}
use Rattle.std.specs.Prelude.{ℕ, zero, suc, min}
use Rattle.program.specs.Program.{Program}
use Rattle.machine.specs.State.{Status, running, raised, done, uncaught, failed, State, start}
use Rattle.machine.specs.Run.{step}
use Rattle.turn.specs.declared.Halt.{Halt}
use Rattle.turn.specs.declared.Halt.TheVariants.{Done, Uncaught, Faulted, StepsMade}
use Rattle.turn.specs.Stop.{stop_of}

-- why the stepper stopped, how many steps it made, and the state that they left
pub record Stopped : Type 0 where
  pub halt : Halt
  pub count : ℕ
  pub state : State

-- "22: n steps made, not ended, no further one tried"
abbrev pub at_limit : Status → Halt
at_limit running = StepsMade
at_limit (raised o) = StepsMade
at_limit done = Done
at_limit (uncaught o) = Uncaught
at_limit (failed e) = Faulted e

-- the stepper stops, or goes on
abbrev pub continued : Option Halt → ℕ → State → Stopped → Stopped
continued none k s onward = onward
continued (some h) k s onward = record { halt = h; count = k; state = s }

-- at most n more steps from a state that k steps have led to
unfoldable pub steps : Program → ℕ → ℕ → State → Stopped
steps p zero k s = record { halt = at_limit s.status; count = k; state = s }
steps p (suc n) k s = continued (stop_of p s) k s (steps p n (suc k) (step p s))

-- "n from 0 to 1,000,000 (more counts as that)"
unfoldable pub bounded : Program → ℕ → Stopped
bounded p n = steps p (min n 1000000) 0 (start p)
