-- What is printed of some verdicts and runs, by computation. Bytes: 48 is '0', 97 'a', 32 the space, 10 the line end. Assumes nothing.
use mathlib.Core.Path.{◌≡◌, refl}
use mathlib.Core.List.{[], ◌∷◌, ◌++◌}
use Rattle.verdict.specs.declared.Verdict.TheVariants.{Accepted, Violated, Refused, Short}
use Rattle.page.specs.Digits.{digit_of}
use Rattle.program.specs.Program.{Program}
use Rattle.machine.specs.declared.Fault.TheVariants.{ObjectAsNumber}
use Rattle.turn.specs.declared.Halt.TheVariants.{Done, Uncaught, Faulted, FullStore, FullStack, StepsMade, Outside}
use Rattle.bounded.specs.declared.Outcome.TheVariants as outcome
use Rattle.report.specs.Run.{stopped_word, halt_text, printed_run}
use Rattle.report.specs.Printed.{call_lines, accepted_word, violated_word, refused_word, printed}

-- the sample: `accepted` and `00 00 01`
sample : printed (Accepted 1) (0 ∷ 0 ∷ 1 ∷ [])
    ≡ 97 ∷ 99 ∷ 99 ∷ 101 ∷ 112 ∷ 116 ∷ 101 ∷ 100 ∷ 10 ∷ 48 ∷ 48 ∷ 32 ∷ 48 ∷ 48 ∷ 32 ∷ 48 ∷ 49 ∷ 10 ∷ []
unfolding call_lines digit_of
sample = refl

-- two calls, a byte each that needs both digits; a call past the end of memory is zeros
calls : printed (Accepted 3) (15 ∷ 31 ∷ 0 ∷ 255 ∷ 10 ∷ 9 ∷ [])
    ≡ accepted_word ++ 48 ∷ 102 ∷ 32 ∷ 49 ∷ 102 ∷ 32 ∷ 48 ∷ 48 ∷ 10
    ∷ 102 ∷ 102 ∷ 32 ∷ 48 ∷ 97 ∷ 32 ∷ 48 ∷ 57 ∷ 10
    ∷ 48 ∷ 48 ∷ 32 ∷ 48 ∷ 48 ∷ 32 ∷ 48 ∷ 48 ∷ 10 ∷ []
unfolding call_lines digit_of
calls = refl

no_call : printed (Accepted 0) (7 ∷ []) ≡ accepted_word
unfolding call_lines
no_call = refl

-- `violated 07 00 00`
result_made_zero : printed (Violated 7 0 0) []
    ≡ 118 ∷ 105 ∷ 111 ∷ 108 ∷ 97 ∷ 116 ∷ 101 ∷ 100 ∷ 32 ∷ 48 ∷ 55 ∷ 32 ∷ 48 ∷ 48 ∷ 32 ∷ 48 ∷ 48 ∷ 10 ∷ []
unfolding digit_of
result_made_zero = refl

-- "the number 10 below prints as 0a": `violated 0a 01 1f`
rule_ten : printed (Violated 10 1 31) []
    ≡ violated_word ++ 48 ∷ 97 ∷ 32 ∷ 48 ∷ 49 ∷ 32 ∷ 49 ∷ 102 ∷ 10 ∷ []
unfolding digit_of
rule_ten = refl

-- `refused 0d 00000005`
bit_not_allowed : printed (Refused 13 5) []
    ≡ 114 ∷ 101 ∷ 102 ∷ 117 ∷ 115 ∷ 101 ∷ 100 ∷ 32 ∷ 48 ∷ 100 ∷ 32
    ∷ 48 ∷ 48 ∷ 48 ∷ 48 ∷ 48 ∷ 48 ∷ 48 ∷ 53 ∷ 10 ∷ []
unfolding digit_of
bit_not_allowed = refl

-- each of the eight digits, the high one first: line 19088743 is 01234567
all_eight : printed (Refused 4 19088743) []
    ≡ refused_word ++ 48 ∷ 52 ∷ 32 ∷ 48 ∷ 49 ∷ 50 ∷ 51 ∷ 52 ∷ 53 ∷ 54 ∷ 55 ∷ 10 ∷ []
unfolding digit_of
all_eight = refl

-- `refused 17 00000000`
too_little_memory : printed Short []
    ≡ refused_word ++ 49 ∷ 55 ∷ 32 ∷ 48 ∷ 48 ∷ 48 ∷ 48 ∷ 48 ∷ 48 ∷ 48 ∷ 48 ∷ 10 ∷ []
unfolding digit_of
too_little_memory = refl

-- `done 00000003`; `fault 03 00000001`; `uncaught 0000000a 00`; `stopped 16 00000008 ff`, with an object pending
three_steps : halt_text Done 3 [] ≡ 100 ∷ 111 ∷ 110 ∷ 101 ∷ 32 ∷ 48 ∷ 48 ∷ 48 ∷ 48 ∷ 48 ∷ 48 ∷ 48 ∷ 51 ∷ 10 ∷ []
unfolding digit_of
three_steps = refl

not_a_number : halt_text (Faulted ObjectAsNumber) 1 []
    ≡ 102 ∷ 97 ∷ 117 ∷ 108 ∷ 116 ∷ 32 ∷ 48 ∷ 51 ∷ 32 ∷ 48 ∷ 48 ∷ 48 ∷ 48 ∷ 48 ∷ 48 ∷ 48 ∷ 49 ∷ 10 ∷ []
unfolding digit_of
not_a_number = refl

nobody_catches : halt_text Uncaught 10 (0 ∷ [])
    ≡ 117 ∷ 110 ∷ 99 ∷ 97 ∷ 117 ∷ 103 ∷ 104 ∷ 116 ∷ 32 ∷ 48 ∷ 48 ∷ 48 ∷ 48 ∷ 48 ∷ 48 ∷ 48 ∷ 97 ∷ 32 ∷ 48 ∷ 48 ∷ 10 ∷ []
unfolding digit_of
nobody_catches = refl

still_pending : halt_text StepsMade 8 (255 ∷ [])
    ≡ 115 ∷ 116 ∷ 111 ∷ 112 ∷ 112 ∷ 101 ∷ 100 ∷ 32 ∷ 49 ∷ 54 ∷ 32 ∷ 48 ∷ 48 ∷ 48 ∷ 48 ∷ 48 ∷ 48 ∷ 48 ∷ 56 ∷ 32 ∷ 102 ∷ 102 ∷ 10 ∷ []
unfolding digit_of
still_pending = refl

-- `stopped 14 ..`, `stopped 15 ..`, `stopped 18 ..`
full_store : halt_text FullStore 0 [] ≡ stopped_word ++ 49 ∷ 52 ∷ 32 ∷ 48 ∷ 48 ∷ 48 ∷ 48 ∷ 48 ∷ 48 ∷ 48 ∷ 48 ∷ 10 ∷ []
unfolding digit_of
full_store = refl

full_stack : halt_text FullStack 0 [] ≡ stopped_word ++ 49 ∷ 53 ∷ 32 ∷ 48 ∷ 48 ∷ 48 ∷ 48 ∷ 48 ∷ 48 ∷ 48 ∷ 48 ∷ 10 ∷ []
unfolding digit_of
full_stack = refl

outside : halt_text Outside 0 [] ≡ stopped_word ++ 49 ∷ 56 ∷ 32 ∷ 48 ∷ 48 ∷ 48 ∷ 48 ∷ 48 ∷ 48 ∷ 48 ∷ 48 ∷ 10 ∷ []
unfolding digit_of
outside = refl

-- a refusal of a run prints as one of a verdict
run_refused : (p : Program) → printed_run (outcome.Refused 5 3) p [] [] [] ≡ printed (Refused 5 3) []
run_refused p = refl
