-- What a verdict, and what became of a run, is in words has at most 200 bytes, with every table. Assumes nothing.
use mathlib.Core.Bool.{Bool, true, false, cond as pick}
use mathlib.Core.List.{List, [], ◌∷◌, ◌++◌}
use Prim.Native.Nat.{ℕ, zero, suc, ◌≤◌, ◌/◌, ◌%◌, ◌+◌}
use native.Mathlib.Omega.{arith}
use lib.Dec.{eqb, ltb}
use lib.ListN.{length, length-append}
use Rattle.page.specs.Digits.{decimal_by}
use Rattle.machine.specs.State.{fault_number}
use Rattle.turn.specs.declared.Halt.{Halt}
use Rattle.turn.specs.declared.Halt.TheVariants.{Done, Uncaught, Faulted, FullStore, FullStack, StepsMade, Outside}
use Rattle.bounded.specs.declared.Outcome.{Outcome}
use Rattle.bounded.specs.declared.Outcome.TheVariants as outcome
use Rattle.verdict.specs.declared.Verdict.{Verdict}
use Rattle.verdict.specs.declared.Verdict.TheVariants.{Accepted, Violated, Refused, Short}
use Rattle.words.specs.Words.{rule_kind, number_kind, fault_kind, after_key, line_by, words_for}
use Rattle.words.specs.Told.{rule_label, line_label, fault_label, stop_label, place_text, label_text, placed_text, line_text, refused_text, told, halt_told, run_told}

-- one of two lists
length_pick : (n : ℕ) (t : Bool) (xs ys : List ℕ) → length xs ≤ n → length ys ≤ n → length (pick t xs ys) ≤ n
length_pick n true xs ys h g = h
length_pick n false xs ys h g = g

decimal_length : (k n : ℕ) → length (decimal_by k n) ≤ k
unfolding decimal_by
decimal_length zero n = omega arith
decimal_length (suc k) n =
    length_pick (suc k) (ltb n 10) ((48 + n) ∷ []) (decimal_by k (n / 10) ++ ((48 + n % 10) ∷ [])) (omega arith)
    (simp length-append (omega (arith, decimal_length k (n / 10))))

line_length : (k : ℕ) (xs : List ℕ) → length (line_by k xs) ≤ k
unfolding line_by
line_length zero xs = omega arith
line_length (suc k) [] = omega arith
line_length (suc k) (x ∷ xs) = length_pick (suc k) (eqb x 10) [] (x ∷ line_by k xs) (omega arith) (omega (arith, line_length k xs))

-- the parts
words_length : (table : List ℕ) (kind number : ℕ) → length (words_for table kind number) ≤ 100
words_length table kind number = line_length 100 (after_key kind number table)

label_length : (label : List ℕ) (shown : ℕ) → length (label_text label shown) ≤ length label + 22
label_length label shown = simp length-append (omega (arith, decimal_length 20 shown))

place_length : (method address : ℕ) → length (place_text method address) ≤ 60
place_length method address = simp length-append (omega (arith, decimal_length 20 method, decimal_length 20 address))

placed_length : (table label : List ℕ) (kind number method address : ℕ) → length label ≤ 6
    → length (placed_text table label kind number method address) ≤ 200
placed_length table label kind number method address h =
    omega (arith, length-append (label_text label number ++ words_for table kind number) (place_text method address), length-append (label_text label number) (words_for table kind number), label_length label number, words_length table kind number, place_length method address)

line_text_length : (line : ℕ) → length (line_text line) ≤ 27
line_text_length line = length_pick 27 (eqb line 0) [] (label_text line_label line) (omega arith) (label_length line_label line)

refused_length : (table : List ℕ) (number line : ℕ) → length (refused_text table number line) ≤ 200
refused_length table number line =
    omega (arith, length-append (line_text line ++ words_for table number_kind number) (10 ∷ []), length-append (line_text line) (words_for table number_kind number), line_text_length line, words_length table number_kind number)

pub told_short : (table : List ℕ) (v : Verdict) → length (told table v) ≤ 200
told_short table (Accepted count) = omega arith
told_short table (Violated rule method address) = placed_length table rule_label rule_kind rule method address (omega arith)
told_short table (Refused number line) = refused_length table number line
told_short table Short = refused_length table 23 0

halt_short : (table : List ℕ) (halt : Halt) (method address : ℕ) → length (halt_told table halt method address) ≤ 200
halt_short table Done method address = omega arith
halt_short table Uncaught method address = omega arith
halt_short table (Faulted f) method address = placed_length table fault_label fault_kind (fault_number f) method address (omega arith)
halt_short table FullStore method address = placed_length table stop_label number_kind 20 method address (omega arith)
halt_short table FullStack method address = placed_length table stop_label number_kind 21 method address (omega arith)
halt_short table StepsMade method address = placed_length table stop_label number_kind 22 method address (omega arith)
halt_short table Outside method address = placed_length table stop_label number_kind 24 method address (omega arith)

pub run_short : (table : List ℕ) (o : Outcome) (method address : ℕ) → length (run_told table o method address) ≤ 200
run_short table (outcome.Refused number line) method address = refused_length table number line
run_short table outcome.Short method address = refused_length table 23 0
run_short table (outcome.Ran halt steps frames objects pending) method address = halt_short table halt method address
