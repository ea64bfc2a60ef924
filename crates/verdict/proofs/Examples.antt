-- Numbers and values of verdicts, by computation. Assumes nothing.
use mathlib.Core.Path.{◌≡◌, refl}
use mathlib.Core.List.{List, [], ◌∷◌, map}
use Rattle.verdict.specs.declared.Verdict.{Verdict}
use Rattle.verdict.specs.declared.Verdict.TheVariants.{Accepted, Violated, Refused, Short}
use Rattle.verdict.specs.Numbers.{number_of, values_of}

-- two calls listed; rule 10 broken at method 3, address 31; the claim's line 6 is not the frame due; too little memory
abbrev pub verdicts : List Verdict
verdicts = Accepted 2 ∷ Violated 10 3 31 ∷ Refused 12 6 ∷ Short ∷ []

numbers : map number_of verdicts ≡ 34 ∷ 35 ∷ 12 ∷ 23 ∷ []
numbers = refl

-- rule, method, address in their order; a line; 23 has no line
values : map values_of verdicts ≡ (2 ∷ []) ∷ (10 ∷ 3 ∷ 31 ∷ []) ∷ (6 ∷ []) ∷ [] ∷ []
values = refl
