-- What a verdict, and what became of a run, is in words: a line for people, with numbers in decimal. Nothing is said of what is
-- accepted, done or uncaught. Definitions only.
use Rattle.std.specs.Prelude.{cond as pick, List, [], ◌∷◌, ◌++◌, ℕ, eqb}
use Rattle.page.specs.Digits.{decimal}
use Rattle.machine.specs.State.{fault_number}
use Rattle.turn.specs.declared.Halt.{Halt}
use Rattle.turn.specs.declared.Halt.TheVariants.{Done, Uncaught, Faulted, FullStore, FullStack, StepsMade, Outside}
use Rattle.turn.specs.Stop.{halt_number}
use Rattle.bounded.specs.declared.Outcome.{Outcome}
use Rattle.bounded.specs.declared.Outcome.TheVariants as outcome
use Rattle.verdict.specs.declared.Verdict.{Verdict}
use Rattle.verdict.specs.declared.Verdict.TheVariants.{Accepted, Violated, Refused, Short}
use Rattle.words.specs.Words.{rule_kind, number_kind, fault_kind, words_for}

-- `rule `, `line `, `fault `, `stop `
abbrev pub rule_label : List ℕ
rule_label = 114 ∷ 117 ∷ 108 ∷ 101 ∷ 32 ∷ []

abbrev pub line_label : List ℕ
line_label = 108 ∷ 105 ∷ 110 ∷ 101 ∷ 32 ∷ []

abbrev pub fault_label : List ℕ
fault_label = 102 ∷ 97 ∷ 117 ∷ 108 ∷ 116 ∷ 32 ∷ []

abbrev pub stop_label : List ℕ
stop_label = 115 ∷ 116 ∷ 111 ∷ 112 ∷ 32 ∷ []

-- `; method M, address A`, and the line end
abbrev pub place_text : ℕ → ℕ → List ℕ
place_text method address =
    (59 ∷ 32 ∷ 109 ∷ 101 ∷ 116 ∷ 104 ∷ 111 ∷ 100 ∷ 32 ∷ [])
    ++ decimal method
    ++ (44 ∷ 32 ∷ 97 ∷ 100 ∷ 100 ∷ 114 ∷ 101 ∷ 115 ∷ 115 ∷ 32 ∷ [])
    ++ decimal address
    ++ 10 ∷ []

-- a label, a number and `: `
abbrev pub label_text : List ℕ → ℕ → List ℕ
label_text label shown = label ++ decimal shown ++ 58 ∷ 32 ∷ []

-- `rule 7: what a callee returns is not in the result after the call; method 0, address 0`
abbrev pub placed_text : List ℕ → List ℕ → ℕ → ℕ → ℕ → ℕ → List ℕ
placed_text table label kind number method address =
    label_text label number ++ words_for table kind number ++ place_text method address

-- `line 5: a field value that is not allowed`; line 0 is that of no line
abbrev pub line_text : ℕ → List ℕ
line_text line = pick (eqb line 0) [] (label_text line_label line)

abbrev pub refused_text : List ℕ → ℕ → ℕ → List ℕ
refused_text table number line = line_text line ++ words_for table number_kind number ++ 10 ∷ []

-- a verdict
abbrev pub told : List ℕ → Verdict → List ℕ
told table (Accepted count) = []
told table (Violated rule method address) = placed_text table rule_label rule_kind rule method address
told table (Refused number line) = refused_text table number line
told table Short = refused_text table 23 0

-- why a run stopped, at the place where its top frame is
abbrev pub halt_told : List ℕ → Halt → ℕ → ℕ → List ℕ
halt_told table Done method address = []
halt_told table Uncaught method address = []
halt_told table (Faulted e) method address = placed_text table fault_label fault_kind (fault_number e) method address
halt_told table FullStore method address = placed_text table stop_label number_kind (halt_number FullStore) method address
halt_told table FullStack method address = placed_text table stop_label number_kind (halt_number FullStack) method address
halt_told table StepsMade method address = placed_text table stop_label number_kind (halt_number StepsMade) method address
halt_told table Outside method address = placed_text table stop_label number_kind (halt_number Outside) method address

-- what became of a text that was stepped
abbrev pub run_told : List ℕ → Outcome → ℕ → ℕ → List ℕ
run_told table (outcome.Refused number line) method address = refused_text table number line
run_told table outcome.Short method address = refused_text table 23 0
run_told table (outcome.Ran halt steps frames objects pending) method address = halt_told table halt method address
