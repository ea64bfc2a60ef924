-- The stepper in the lent slices. Nothing here needs to be believed to read a promise of the stepper. Definitions only.
use Rattle.std.specs.Prelude.{List, ℕ, length, replicate, Result, Ok, Err}
use Rattle.reader.specs.Read.{read_program, tables_after}
use Rattle.bounded.specs.declared.Outcome.{Outcome}
use Rattle.cells.specs.Cells.{zero_value, zero_frame, zero_object}
use Rattle.store.specs.Store.{filled}
use Rattle.shift.specs.declared.Run.{Run}
use Rattle.drive.specs.Models.{Lent, lent, Done, done}
use Rattle.rounds.specs.Rounds.{run_done}
use Rattle.begun.specs.declared.NotBegun.{NotBegun}
use Rattle.begun.specs.Begun.{begun_by, outcome_of, ran_to}

-- the slices made zero, as far as a state reaches: "unused frames, objects, cells, statics and registers are zero"
abbrev pub zeroed : Lent → Lent
zeroed m =
    lent (filled 32 zero_frame m.frames) (filled 256 zero_object m.objects) (filled 16 zero_value m.statics)

unfoldable pub start_done : List ℕ → Lent → Run → Done Run
start_done t m first = run_done t (zeroed m) first

-- how a text begins, and the tables then
abbrev pub beginning : List ℕ → ℕ → Lent → Result Run NotBegun
beginning text n m =
    begun_by (read_program text) n (length m.frames) (length m.objects) (length m.statics)

abbrev pub tables : List ℕ → List ℕ
tables text = tables_after (read_program text) (replicate 768 0)

-- where a run begins it is made; else the slices are as they were
abbrev pub step_by : List ℕ → Lent → Result Run NotBegun → Done Outcome
step_by t m (Ok first) = done (ran_to first (start_done t m first).result) (start_done t m first).memory
step_by t m (Err e) = done (outcome_of e) m

unfoldable pub step_done : List ℕ → ℕ → Lent → Done Outcome
step_done text n m = step_by (tables text) m (beginning text n m)
