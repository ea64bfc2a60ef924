-- A table of words is complete: each of document 01's rules, numbers and faults has words, and none of them is cut; "faults 1, 4 and 8
-- cease" (document 02, note 2). Definitions only.
use Rattle.std.specs.Prelude.{Bool, true, ◌&&◌, List, [], ◌∷◌, ℕ, ltb, length}
use Rattle.words.specs.Words.{rule_kind, number_kind, fault_kind, words_for}

-- the rules; the numbers of refusals for the input and for the state; the faults
abbrev pub rules : List ℕ
rules = 0 ∷ 1 ∷ 2 ∷ 3 ∷ 4 ∷ 5 ∷ 6 ∷ 7 ∷ 8 ∷ 9 ∷ 10 ∷ []

abbrev pub numbers : List ℕ
numbers = 1 ∷ 2 ∷ 3 ∷ 4 ∷ 5 ∷ 6 ∷ 9 ∷ 10 ∷ 11 ∷ 12 ∷ 13 ∷ 20 ∷ 21 ∷ 22 ∷ 23 ∷ 24 ∷ []

abbrev pub faults : List ℕ
faults = 2 ∷ 3 ∷ 5 ∷ 6 ∷ 7 ∷ []

-- there are words, and fewer than the 100 bytes at which they are cut
abbrev pub fitting : List ℕ → Bool
fitting words = ltb 0 (length words) && ltb (length words) 100

unfoldable pub all_fitting : List ℕ → ℕ → List ℕ → Bool
all_fitting table kind [] = true
all_fitting table kind (number ∷ more) = fitting (words_for table kind number) && all_fitting table kind more

unfoldable pub complete : List ℕ → Bool
complete table = all_fitting table rule_kind rules && (all_fitting table number_kind numbers && all_fitting table fault_kind faults)
