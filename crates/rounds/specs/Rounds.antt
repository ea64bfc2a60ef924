-- The stepper's run in the lent slices. Nothing here needs to be believed to read a promise of the stepper. Definitions only.
use Rattle.std.specs.Prelude.{Bool, List, ℕ, suc}
use Rattle.instruction.specs.Word.{pick}
use Rattle.program.specs.Tables.{program_in}
use Rattle.shift.specs.declared.Run.{Run}
use Rattle.shift.specs.declared.Stay.{Stay}
use Rattle.shift.specs.Stay.{stay_of, site_of, goes_on, went_to, at_of, raised_at, is_running, runs_on}
use Rattle.drive.specs.Models.{Lent, Done, done, looped}
use Rattle.work.specs.Work.{performed}
use Rattle.turns.specs.Turns as turns
use Rattle.turns.specs.Turns.{unwind_done, executed}

-- one instruction of the frame, and those that stay in it
abbrev pub one_done : List ℕ → Lent → Stay → Done Stay
one_done t m k =
    done (went_to k (performed t m (site_of (program_in t) k)).result) (performed t m (site_of (program_in t) k)).memory

abbrev pub goes : List ℕ → Stay → Bool
goes t k = goes_on (program_in t) k

abbrev pub stay_done : List ℕ → Lent → Stay → Done Stay
stay_done t m k = looped goes one_done t k.left m k

-- where the top frame is
abbrev pub method_in : Lent → Run → ℕ
method_in m k = turns.method_in m (raised_at k)

abbrev pub address_in : Lent → Run → ℕ
address_in m k = turns.address_in m (raised_at k)

abbrev pub stay_in : List ℕ → Lent → Run → Done Stay
stay_in t m k = stay_done t m (stay_of k (method_in m k) (address_in m k))

-- the steps that stay in the top frame and one that does not, or a step with an object pending
unfoldable pub forth_done : List ℕ → Lent → Run → Done Run
forth_done t m k = executed t (stay_in t m k).memory (at_of (program_in t) k (stay_in t m k).result)

abbrev pub back_done : List ℕ → Lent → Run → Done Run
back_done t m k = unwind_done t m (raised_at k)

abbrev pub round_done : List ℕ → Lent → Run → Done Run
round_done t m k = pick (is_running k.tally.status) (forth_done t m k) (back_done t m k)

-- all of them
abbrev pub runs : List ℕ → Run → Bool
runs t k = runs_on k

abbrev pub turns_of : Run → ℕ
turns_of k = pick (runs_on k) (suc k.left) 0

abbrev pub run_done : List ℕ → Lent → Run → Done Run
run_done t m k = looped runs round_done t (turns_of k) m k
