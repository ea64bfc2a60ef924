-- What the tool prints of a run: why it stopped, and the state that it left. Definitions only.
use Rattle.std.specs.Prelude.{List, [], ◌∷◌, ◌++◌, ℕ}
use Rattle.page.specs.Digits.{two, eight}
use Rattle.program.specs.Program.{Program}
use Rattle.machine.specs.State.{fault_number}
use Rattle.turn.specs.declared.Halt.{Halt}
use Rattle.turn.specs.declared.Halt.TheVariants.{Done, Uncaught, Faulted, FullStore, FullStack, StepsMade, Outside}
use Rattle.turn.specs.Stop.{halt_number}
use Rattle.bounded.specs.declared.Outcome.{Outcome}
use Rattle.bounded.specs.declared.Outcome.TheVariants.{Refused, Short, Ran}
use Rattle.bounded.specs.Bounded.{Stopped}
use Rattle.bounded.specs.Step.{pending_in, pending_values}
use Rattle.rows.specs.State.{state_text}
use Rattle.rows.specs.Rows.{state_rows}
use Rattle.report.specs.Printed.{refused_line}

-- `done `, `uncaught `, `fault `, `stopped `
abbrev pub done_word : List ℕ
done_word = 100 ∷ 111 ∷ 110 ∷ 101 ∷ 32 ∷ []

abbrev pub uncaught_word : List ℕ
uncaught_word = 117 ∷ 110 ∷ 99 ∷ 97 ∷ 117 ∷ 103 ∷ 104 ∷ 116 ∷ 32 ∷ []

abbrev pub fault_word : List ℕ
fault_word = 102 ∷ 97 ∷ 117 ∷ 108 ∷ 116 ∷ 32 ∷ []

abbrev pub stopped_word : List ℕ
stopped_word = 115 ∷ 116 ∷ 111 ∷ 112 ∷ 112 ∷ 101 ∷ 100 ∷ 32 ∷ []

-- the pending object, two digits, where there is one
abbrev pub pending_text : List ℕ → List ℕ
pending_text [] = []
pending_text (o ∷ none) = 32 ∷ two o

-- the steps made, eight digits, the pending object, and the line end
abbrev pub count_text : ℕ → List ℕ → List ℕ
count_text steps pending = eight steps ++ pending_text pending ++ 10 ∷ []

-- a number, two digits, before them
abbrev pub numbered_text : List ℕ → ℕ → ℕ → List ℕ → List ℕ
numbered_text word number steps pending = word ++ two number ++ 32 ∷ count_text steps pending

-- `done SSSSSSSS`, `uncaught SSSSSSSS PP`, `fault FF SSSSSSSS`, or `stopped NN SSSSSSSS` with document 01's number
abbrev pub halt_text : Halt → ℕ → List ℕ → List ℕ
halt_text Done steps pending = done_word ++ count_text steps pending
halt_text Uncaught steps pending = uncaught_word ++ count_text steps pending
halt_text (Faulted e) steps pending = numbered_text fault_word (fault_number e) steps pending
halt_text FullStore steps pending = numbered_text stopped_word (halt_number FullStore) steps pending
halt_text FullStack steps pending = numbered_text stopped_word (halt_number FullStack) steps pending
halt_text StepsMade steps pending = numbered_text stopped_word (halt_number StepsMade) steps pending
halt_text Outside steps pending = numbered_text stopped_word (halt_number Outside) steps pending

-- a run that stopped
abbrev pub stopped_text : Program → Stopped → List ℕ
stopped_text p x = halt_text x.halt x.count (pending_in x.state.status) ++ state_text p x.state

-- an outcome, and lent memory
abbrev pub printed_run : Outcome → Program → List ℕ → List ℕ → List ℕ → List ℕ
printed_run (Refused number line) p frames objects statics = refused_line number line
printed_run Short p frames objects statics = refused_line 23 0
printed_run (Ran halt steps depth made pending) p frames objects statics =
    halt_text halt steps (pending_values pending) ++ state_rows p frames depth objects made statics
