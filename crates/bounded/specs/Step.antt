-- What `step` answers, and what lent memory then holds. Definitions only.
use Rattle.std.specs.Prelude.{Bool, ◌&&◌, List, [], ◌∷◌, ℕ, leb, length, Option, Some, None}
use Rattle.instruction.specs.Word.{pick}
use Rattle.reader.specs.Read.{Reading, refused, taken, read_program, tables_after}
use Rattle.machine.specs.State.{Status, running, raised, done, uncaught, failed}
use Rattle.memory.specs.Memory.{frames_of, objects_of, statics_of}
use Rattle.turn.specs.Stop.{halt_number}
use Rattle.bounded.specs.declared.Outcome.{Outcome}
use Rattle.bounded.specs.declared.Outcome.TheVariants.{Refused, Short, Ran}
use Rattle.bounded.specs.Bounded.{Stopped, bounded}

-- a text is refused, memory falls short, or the program ran
pub data Stepping : Type 0 where
  turned_down : (number line : ℕ) → Stepping
  short : Stepping
  ran : Stopped → Stepping

-- "23: fewer than 32 frames, 256 objects of 16 cells or 16 statics lent to the stepper": a frame has 19 words, an object 17
abbrev pub enough : ℕ → ℕ → ℕ → Bool
enough frames objects statics = leb 608 frames && (leb 4352 objects && leb 16 statics)

-- 23 comes "after all of the above"
abbrev pub stepping_by : Reading → ℕ → Bool → Stepping
stepping_by (refused number line) n room = turned_down number line
stepping_by (taken p) n room = pick room (ran (bounded p n)) short

-- what becomes of a text, n, and so many words lent
unfoldable pub stepping : List ℕ → ℕ → List ℕ → List ℕ → List ℕ → Stepping
stepping text n frames objects statics =
    stepping_by (read_program text) n (enough (length frames) (length objects) (length statics))

-- "give their count and any pending object"
abbrev pub pending_in : Status → List ℕ
pending_in running = []
pending_in (raised o) = o ∷ []
pending_in done = []
pending_in (uncaught o) = o ∷ []
pending_in (failed e) = []

-- its number, and its values: a line, or the steps made, how many frames are open, how many objects are made, and the
-- pending object if there is one
abbrev pub stepping_number : Stepping → ℕ
stepping_number (turned_down number line) = number
stepping_number short = 23
stepping_number (ran x) = halt_number x.halt

abbrev pub stopped_values : Stopped → List ℕ
stopped_values x = x.count ∷ length x.state.frames ∷ length x.state.objects ∷ pending_in x.state.status

abbrev pub stepping_values : Stepping → List ℕ
stepping_values (turned_down number line) = line ∷ []
stepping_values short = []
stepping_values (ran x) = stopped_values x

-- lent memory after it: untouched where a text is refused or memory falls short, else the state
abbrev pub frames_after : Stepping → List ℕ → List ℕ
frames_after (turned_down number line) before = before
frames_after short before = before
frames_after (ran x) before = frames_of x.state before

abbrev pub objects_after : Stepping → List ℕ → List ℕ
objects_after (turned_down number line) before = before
objects_after short before = before
objects_after (ran x) before = objects_of x.state before

abbrev pub statics_after : Stepping → List ℕ → List ℕ
statics_after (turned_down number line) before = before
statics_after short before = before
statics_after (ran x) before = statics_of x.state before

-- tables for the program that are lent beside it: untouched likewise, else they hold the program
abbrev pub tables_left : Stepping → Reading → List ℕ → List ℕ
tables_left (turned_down number line) read before = before
tables_left short read before = before
tables_left (ran x) read before = tables_after read before

-- document 01's number of each answer, and its values
abbrev pub number_of : Outcome → ℕ
number_of (Refused number line) = number
number_of Short = 23
number_of (Ran halt steps frames objects pending) = halt_number halt

abbrev pub pending_values : Option ℕ → List ℕ
pending_values None = []
pending_values (Some o) = o ∷ []

abbrev pub values_of : Outcome → List ℕ
values_of (Refused number line) = line ∷ []
values_of Short = []
values_of (Ran halt steps frames objects pending) = steps ∷ frames ∷ objects ∷ pending_values pending
