-- What the tool prints and tells for the text of a panel that is run for n steps. Definitions only.
use Rattle.std.specs.Prelude.{List, ℕ}
use Rattle.reader.specs.Read.{Reading, refused, taken, read_program}
use Rattle.machine.specs.State.{top}
use Rattle.bounded.specs.Bounded.{Stopped, bounded}
use Rattle.report.specs.Printed.{refused_line}
use Rattle.report.specs.Run.{stopped_text}
use Rattle.words.specs.Told.{refused_text, halt_told}

-- why the run stopped and its state, or the refusal; the tool lends all the memory that a run may need, so that 23 cannot be
abbrev pub run_said_of : Reading → ℕ → List ℕ
run_said_of (refused number line) n = refused_line number line
run_said_of (taken p) n = stopped_text p (bounded p n)

unfoldable pub run_said : List ℕ → ℕ → List ℕ
run_said panel n = run_said_of (read_program panel) n

-- why it stopped, with the place of the top frame
abbrev pub stopped_told : List ℕ → Stopped → List ℕ
stopped_told table x =
    halt_told table x.halt (top x.state.frames).method (top x.state.frames).address

-- and in the words of a table
abbrev pub run_told_of : List ℕ → Reading → ℕ → List ℕ
run_told_of table (refused number line) n = refused_text table number line
run_told_of table (taken p) n = stopped_told table (bounded p n)

unfoldable pub run_told_for : List ℕ → List ℕ → ℕ → List ℕ
run_told_for table panel n = run_told_of table (read_program panel) n
