-- The words of readings, verdicts and outcomes in six words lent, and none in four, by computation; the numbers of all halts stand
-- in crates/turn/proofs/Stops.antt. Assumes nothing.
use mathlib.Core.Path.{◌≡◌, refl}
use mathlib.Core.List.{List, [], ◌∷◌, map}
use Prim.Native.Nat.{ℕ}
use Rattle.std.specs.Prelude.{Some, None}
use Rattle.program.specs.Program.{no_program}
use Rattle.reader.specs.Read.{Reading, refused, taken, reading_number, reading_values}
use Rattle.machine.specs.declared.Fault.TheVariants.{NumberAsObject, NotThrowable}
use Rattle.turn.specs.declared.Halt.TheVariants.{Done, Uncaught, Faulted, StepsMade}
use Rattle.bounded.specs.declared.Outcome.{Outcome}
use Rattle.bounded.specs.declared.Outcome.TheVariants.{Refused, Short, Ran}
use Rattle.bounded.specs.Step.{number_of, values_of}
use Rattle.verdict.specs.declared.Verdict.{Verdict}
use Rattle.verdict.specs.Numbers.{number_of as verdict_number, values_of as verdict_values}
use Rattle.verdict.proofs.Examples.{verdicts}
use Rattle.answer.specs.Words.{answered, verdict_answered}

abbrev six : List ℕ
six = 7 ∷ 7 ∷ 7 ∷ 7 ∷ 7 ∷ 7 ∷ []

abbrev four : List ℕ
four = 7 ∷ 7 ∷ 7 ∷ 7 ∷ []

-- ---- hudzmoke_read: number and line
abbrev read : List ℕ → Reading → List ℕ
read before x = verdict_answered (reading_number x) (reading_values x) before

-- a program; one over 65,536 bytes; a last instruction that falls through, at line 4
read_right :
    map (read six) (taken no_program ∷ refused 1 0 ∷ refused 6 4 ∷ [])
    ≡ (0 ∷ 0 ∷ 0 ∷ 0 ∷ 0 ∷ 7 ∷ []) ∷ (1 ∷ 0 ∷ 0 ∷ 0 ∷ 0 ∷ 7 ∷ []) ∷ (6 ∷ 4 ∷ 0 ∷ 0 ∷ 0 ∷ 7 ∷ []) ∷ []
read_right = refl

-- ---- hudzmoke_check: the count of calls; rule, method, address; number and line; 23
abbrev checked : List ℕ → Verdict → List ℕ
checked before v = verdict_answered (verdict_number v) (verdict_values v) before

checked_right :
    map (checked six) verdicts
    ≡ (34 ∷ 2 ∷ 0 ∷ 0 ∷ 0 ∷ 7 ∷ []) ∷ (35 ∷ 10 ∷ 3 ∷ 31 ∷ 0 ∷ 7 ∷ []) ∷ (12 ∷ 6 ∷ 0 ∷ 0 ∷ 0 ∷ 7 ∷ []) ∷ (23 ∷ 0 ∷ 0 ∷ 0 ∷ 0 ∷ 7 ∷ [])
    ∷ []
checked_right = refl

-- ---- hudzmoke_step: steps, the pending object and 1, frames, objects; number and line; 23
abbrev stepped : List ℕ → Outcome → List ℕ
stepped before o = answered (number_of o) (values_of o) before

outcomes : List Outcome
outcomes =
    Ran Done 3 0 5 None
    ∷ Ran Uncaught 4 0 2 (Some 1)
    ∷ Ran StepsMade 9 6 8 (Some 0)
    ∷ Ran (Faulted NumberAsObject) 1 2 3 None
    ∷ Ran (Faulted NotThrowable) 1 2 3 None
    ∷ Refused 5 2
    ∷ Short
    ∷ []

stepped_right :
    map (stepped six) outcomes
    ≡ (32 ∷ 3 ∷ 0 ∷ 0 ∷ 5 ∷ 7 ∷ [])
    ∷ (33 ∷ 4 ∷ 2 ∷ 0 ∷ 2 ∷ 7 ∷ [])
    ∷ (22 ∷ 9 ∷ 1 ∷ 6 ∷ 8 ∷ 7 ∷ [])
    ∷ (42 ∷ 1 ∷ 0 ∷ 2 ∷ 3 ∷ 7 ∷ [])
    ∷ (47 ∷ 1 ∷ 0 ∷ 2 ∷ 3 ∷ 7 ∷ [])
    ∷ (5 ∷ 2 ∷ 0 ∷ 0 ∷ 0 ∷ 7 ∷ [])
    ∷ (23 ∷ 0 ∷ 0 ∷ 0 ∷ 0 ∷ 7 ∷ [])
    ∷ []
unfolding outcomes
stepped_right = refl

-- ---- fewer than five words lent: none is written
none_read : read four (refused 6 4) ≡ four
none_read = refl

none_checked : map (checked four) verdicts ≡ four ∷ four ∷ four ∷ four ∷ []
none_checked = refl

none_stepped : stepped four (Ran StepsMade 9 6 8 (Some 0)) ≡ four
none_stepped = refl
