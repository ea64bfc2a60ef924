-- Document 01's number of each verdict, and its values. Definitions only.
use Rattle.std.specs.Prelude.{List, [], ◌∷◌, ℕ}
use Rattle.verdict.specs.declared.Verdict.{Verdict}
use Rattle.verdict.specs.declared.Verdict.TheVariants.{Accepted, Violated, Refused, Short}

-- a refusal has its own; document 01 gives none to the two others, so that these are left free
abbrev pub number_of : Verdict → ℕ
number_of (Accepted count) = 34
number_of (Violated rule method address) = 35
number_of (Refused number line) = number
number_of Short = 23

-- "Acceptance gives its count of entries"; the rule, "lowest method, address, rule", as it is printed; "number and line"; 23 has
-- no line
abbrev pub values_of : Verdict → List ℕ
values_of (Accepted count) = count ∷ []
values_of (Violated rule method address) = rule ∷ method ∷ address ∷ []
values_of (Refused number line) = line ∷ []
values_of Short = []
