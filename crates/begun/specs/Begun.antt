-- How the stepper begins on a text, and what it answers in the end. Definitions only.
use Rattle.std.specs.Prelude.{ℕ, ◌-◌, min, Option, Some, None, Result, Ok, Err}
use Rattle.instruction.specs.Word.{pick}
use Rattle.reader.specs.Read.{Reading, refused, taken}
use Rattle.turn.specs.declared.Halt.{Halt}
use Rattle.turn.specs.declared.Halt.TheVariants as halt
use Rattle.turn.specs.declared.Status.{Status}
use Rattle.turn.specs.declared.Status.TheVariants.{Running, Raised, Done, Uncaught, Failed}
use Rattle.bounded.specs.declared.Outcome.{Outcome}
use Rattle.bounded.specs.declared.Outcome.TheVariants as outcome
use Rattle.bounded.specs.Lent.{enough}
use Rattle.shift.specs.declared.Run.{Run}
use Rattle.shift.specs.declared.Stop.{Stop}
use Rattle.shift.specs.declared.Stop.TheVariants.{Store, Stack, Outside}
use Rattle.begun.specs.declared.NotBegun.{NotBegun}
use Rattle.begun.specs.declared.NotBegun.TheVariants.{Refused, Short}

-- ---- how it begins

-- "It starts with one frame, of method 0 at address 0, with no object and nothing pending"; so many steps may be made
abbrev pub start_run : ℕ → Run
start_run left =
    record { left = left; tally = record { depth = 1; made = 0; status = Running }; stop = None }

-- "Each gives number and line .. and touches no lent memory"; "n from 0 to 1,000,000 (more counts as that)"; 23 comes "after all of
-- the above"
abbrev pub begun_by : Reading → ℕ → ℕ → ℕ → ℕ → Result Run NotBegun
begun_by (refused number line) n frames objects statics = Err (Refused number line)
begun_by (taken p) n frames objects statics =
    pick (enough frames objects statics) (Ok (start_run (min n 1000000))) (Err Short)

-- ---- what it answers in the end

-- where no run begins
abbrev pub outcome_of : NotBegun → Outcome
outcome_of (Refused number line) = outcome.Refused number line
outcome_of Short = outcome.Short

-- where nothing stopped the run: "Ends: done .., uncaught .., or fault"; "22: n steps made, not ended"
abbrev pub limit_halt : Status → Halt
limit_halt Running = halt.StepsMade
limit_halt (Raised o) = halt.StepsMade
limit_halt Done = halt.Done
limit_halt (Uncaught o) = halt.Uncaught
limit_halt (Failed e) = halt.Faulted e

-- "24: an address outside its method. 20: new-instance at 256 objects. 21: a call without fault at 32 frames", and where an object
-- is raised "a full store gives 20"
abbrev pub halt_by : Option Stop → Status → Halt
halt_by None e = limit_halt e
halt_by (Some Store) e = halt.FullStore
halt_by (Some Stack) e = halt.FullStack
halt_by (Some Outside) e = halt.Outside

abbrev pub halt_of : Run → Halt
halt_of k = halt_by k.stop k.tally.status

-- "any pending object"
abbrev pub pending_of : Status → Option ℕ
pending_of Running = None
pending_of (Raised o) = Some o
pending_of Done = None
pending_of (Uncaught o) = Some o
pending_of (Failed e) = None

-- "An end, 20, 21, 22 and 24 leave the state after the steps made, and give their count and any pending object"
abbrev pub ran_to : Run → Run → Outcome
ran_to first last =
    outcome.Ran (halt_of last) (first.left - last.left) last.tally.depth last.tally.made (pending_of last.tally.status)
