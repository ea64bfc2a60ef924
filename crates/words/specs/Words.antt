-- How a table of words is read. It is a text: an entry is a line that begins with the letter of its kind, its number in two decimal
-- digits and a space; its words go on to the line's end. A line end stands before the first entry too. Definitions only.
use Rattle.std.specs.Prelude.{Bool, ◌&&◌, cond as pick, List, [], ◌∷◌, ℕ, zero, suc, ◌+◌, ◌/◌, ◌%◌, eqb, get_or, drop}

-- the kinds: `r` the rules, `n` document 01's numbers of refusals and stops, `f` the faults
abbrev pub rule_kind : ℕ
rule_kind = 114

abbrev pub number_kind : ℕ
number_kind = 110

abbrev pub fault_kind : ℕ
fault_kind = 102

-- an entry begins here: a line end, its kind, its number, a space
unfoldable pub has_key : ℕ → ℕ → List ℕ → Bool
has_key kind number xs =
    eqb (get_or xs 0 0) 10
    && (eqb (get_or xs 1 0) kind
    && (eqb (get_or xs 2 0) (48 + number / 10 % 10) && (eqb (get_or xs 3 0) (48 + number % 10) && eqb (get_or xs 4 0) 32)))

-- what follows the first entry's beginning; nothing where there is no such entry
unfoldable pub after_key : ℕ → ℕ → List ℕ → List ℕ
after_key kind number [] = []
after_key kind number (x ∷ xs) = pick (has_key kind number (x ∷ xs)) (drop 5 (x ∷ xs)) (after_key kind number xs)

-- up to the line's end, at most k bytes
unfoldable pub line_by : ℕ → List ℕ → List ℕ
line_by zero xs = []
line_by (suc k) [] = []
line_by (suc k) (x ∷ xs) = pick (eqb x 10) [] (x ∷ line_by k xs)

-- the words of a kind and number, at most 100 bytes
abbrev pub words_for : List ℕ → ℕ → ℕ → List ℕ
words_for table kind number = line_by 100 (after_key kind number table)
