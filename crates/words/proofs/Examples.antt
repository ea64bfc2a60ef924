-- What some verdicts and halts are in words, by computation, with a table of five entries. Bytes: 48 is '0', 97 'a', 32 the space, 10
-- the line end. Assumes nothing.
use mathlib.Core.Path.{◌≡◌, refl}
use mathlib.Core.List.{List, [], ◌∷◌}
use Prim.Native.Nat.{ℕ}
use lib.ListN.{length, replicate}
use Rattle.page.specs.Digits.{decimal_by}
use Rattle.machine.specs.declared.Fault.TheVariants.{FieldNotHad}
use Rattle.turn.specs.declared.Halt.TheVariants.{Done, Faulted, StepsMade}
use Rattle.verdict.specs.declared.Verdict.TheVariants.{Accepted, Violated, Refused, Short}
use Rattle.words.specs.Words.{rule_kind, number_kind, fault_kind, has_key, after_key, line_by, words_for}
use Rattle.words.specs.Told.{told, halt_told}

-- a line end, and the lines `r07 no`, `r10 up`, `n05 bad`, `n22 end`, `f05 off`, each with its line end
abbrev table : List ℕ
table =
    10
    ∷ 114 ∷ 48 ∷ 55 ∷ 32 ∷ 110 ∷ 111 ∷ 10
    ∷ 114 ∷ 49 ∷ 48 ∷ 32 ∷ 117 ∷ 112 ∷ 10
    ∷ 110 ∷ 48 ∷ 53 ∷ 32 ∷ 98 ∷ 97 ∷ 100 ∷ 10
    ∷ 110 ∷ 50 ∷ 50 ∷ 32 ∷ 101 ∷ 110 ∷ 100 ∷ 10
    ∷ 102 ∷ 48 ∷ 53 ∷ 32 ∷ 111 ∷ 102 ∷ 102 ∷ 10
    ∷ []

-- the words of entries: `no`; kinds are kept apart, `bad` and `off`
present : words_for table rule_kind 7 ≡ 110 ∷ 111 ∷ []
unfolding has_key after_key line_by
present = refl

present_number : words_for table number_kind 5 ≡ 98 ∷ 97 ∷ 100 ∷ []
unfolding has_key after_key line_by
present_number = refl

present_fault : words_for table fault_kind 5 ≡ 111 ∷ 102 ∷ 102 ∷ []
unfolding has_key after_key line_by
present_fault = refl

-- a number that the table does not have
absent : words_for table rule_kind 5 ≡ []
unfolding has_key after_key line_by
absent = refl

-- of a line of 101 bytes, 100 are words
cut : length (words_for (10 ∷ 114 ∷ 48 ∷ 55 ∷ 32 ∷ replicate 101 120) rule_kind 7) ≡ 100
unfolding has_key after_key line_by
cut = refl

accepted : told table (Accepted 3) ≡ []
accepted = refl

-- `rule 7: no; method 0, address 0`
result_not_in : told table (Violated 7 0 0)
    ≡ 114 ∷ 117 ∷ 108 ∷ 101 ∷ 32 ∷ 55 ∷ 58 ∷ 32
    ∷ 110 ∷ 111
    ∷ 59 ∷ 32 ∷ 109 ∷ 101 ∷ 116 ∷ 104 ∷ 111 ∷ 100 ∷ 32 ∷ 48
    ∷ 44 ∷ 32 ∷ 97 ∷ 100 ∷ 100 ∷ 114 ∷ 101 ∷ 115 ∷ 115 ∷ 32 ∷ 48
    ∷ 10 ∷ []
unfolding has_key after_key line_by decimal_by
result_not_in = refl

-- numbers of two and three digits: `rule 10: up; method 12, address 255`
rule_ten : told table (Violated 10 12 255)
    ≡ 114 ∷ 117 ∷ 108 ∷ 101 ∷ 32 ∷ 49 ∷ 48 ∷ 58 ∷ 32
    ∷ 117 ∷ 112
    ∷ 59 ∷ 32 ∷ 109 ∷ 101 ∷ 116 ∷ 104 ∷ 111 ∷ 100 ∷ 32 ∷ 49 ∷ 50
    ∷ 44 ∷ 32 ∷ 97 ∷ 100 ∷ 100 ∷ 114 ∷ 101 ∷ 115 ∷ 115 ∷ 32 ∷ 50 ∷ 53 ∷ 53
    ∷ 10 ∷ []
unfolding has_key after_key line_by decimal_by
rule_ten = refl

-- `line 5: bad`
refused_line_lem : told table (Refused 5 5)
    ≡ 108 ∷ 105 ∷ 110 ∷ 101 ∷ 32 ∷ 53 ∷ 58 ∷ 32
    ∷ 98 ∷ 97 ∷ 100
    ∷ 10 ∷ []
unfolding has_key after_key line_by decimal_by
refused_line_lem = refl

-- `bad`
refused_no_line : told table (Refused 5 0) ≡ 98 ∷ 97 ∷ 100 ∷ 10 ∷ []
unfolding has_key after_key line_by decimal_by
refused_no_line = refl

-- the table has no words for too little memory: a line end
short_no_words : told table Short ≡ 10 ∷ []
unfolding has_key after_key line_by decimal_by
short_no_words = refl

-- `fault 5: off; method 1, address 30`
faulted : halt_told table (Faulted FieldNotHad) 1 30
    ≡ 102 ∷ 97 ∷ 117 ∷ 108 ∷ 116 ∷ 32 ∷ 53 ∷ 58 ∷ 32
    ∷ 111 ∷ 102 ∷ 102
    ∷ 59 ∷ 32 ∷ 109 ∷ 101 ∷ 116 ∷ 104 ∷ 111 ∷ 100 ∷ 32 ∷ 49
    ∷ 44 ∷ 32 ∷ 97 ∷ 100 ∷ 100 ∷ 114 ∷ 101 ∷ 115 ∷ 115 ∷ 32 ∷ 51 ∷ 48
    ∷ 10 ∷ []
unfolding has_key after_key line_by decimal_by
faulted = refl

-- `stop 22: end; method 1, address 30`
steps_made : halt_told table StepsMade 1 30
    ≡ 115 ∷ 116 ∷ 111 ∷ 112 ∷ 32 ∷ 50 ∷ 50 ∷ 58 ∷ 32
    ∷ 101 ∷ 110 ∷ 100
    ∷ 59 ∷ 32 ∷ 109 ∷ 101 ∷ 116 ∷ 104 ∷ 111 ∷ 100 ∷ 32 ∷ 49
    ∷ 44 ∷ 32 ∷ 97 ∷ 100 ∷ 100 ∷ 114 ∷ 101 ∷ 115 ∷ 115 ∷ 32 ∷ 51 ∷ 48
    ∷ 10 ∷ []
unfolding has_key after_key line_by decimal_by
steps_made = refl

finished : halt_told table Done 1 30 ≡ []
finished = refl
