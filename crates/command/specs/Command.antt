-- What the words of the tool's command line ask. Bytes: 48 is '0'. Definitions only.
use Rattle.std.specs.Prelude.{Bool, true, false, ◌&&◌, ◌||◌, cond as pick, List, [], ◌∷◌, ℕ, ◌+◌, ◌*◌, ◌-◌, min, eqb, ltb, leb, Option, Some, None}
use Rattle.std.specs.Str.{bytes_eq}
use Rattle.command.specs.declared.Command.{Command}
use Rattle.command.specs.declared.Command.TheVariants.{Plain, Check, Step, Claim, Help, Unknown}

-- `check`, `step`, `claim`, `help`, `--help`, `-h`
abbrev pub check_word : List ℕ
check_word = 99 ∷ 104 ∷ 101 ∷ 99 ∷ 107 ∷ []

abbrev pub step_word : List ℕ
step_word = 115 ∷ 116 ∷ 101 ∷ 112 ∷ []

abbrev pub claim_word : List ℕ
claim_word = 99 ∷ 108 ∷ 97 ∷ 105 ∷ 109 ∷ []

abbrev pub help_word : List ℕ
help_word = 104 ∷ 101 ∷ 108 ∷ 112 ∷ []

abbrev pub long_help_word : List ℕ
long_help_word = 45 ∷ 45 ∷ 104 ∷ 101 ∷ 108 ∷ 112 ∷ []

abbrev pub short_help_word : List ℕ
short_help_word = 45 ∷ 104 ∷ []

-- a word that asks for help
abbrev pub asks_help : List ℕ → Bool
asks_help word = bytes_eq word help_word || (bytes_eq word long_help_word || bytes_eq word short_help_word)

-- a decimal digit
abbrev pub is_digit : ℕ → Bool
is_digit b = leb 48 b && ltb b 58

-- whether all bytes are digits, and the number that they go on to say after a number
unfoldable pub all_digits : List ℕ → Bool
all_digits [] = true
all_digits (b ∷ bs) = is_digit b && all_digits bs

unfoldable pub value_from : ℕ → List ℕ → ℕ
value_from n [] = n
value_from n (b ∷ bs) = value_from (10 * n + (b - 48)) bs

-- "n from 0 to 1,000,000 (more counts as that)": a number however many digits it has
abbrev pub count_of : List ℕ → Option ℕ
count_of [] = None
count_of (b ∷ bs) = pick (all_digits (b ∷ bs)) (Some (min (value_from 0 (b ∷ bs)) 1000000)) None

-- `step N` and `step N PANEL`
abbrev pub step_for : Option ℕ → Bool → Command
step_for (Some n) named = Step n named
step_for None named = Unknown

-- `claim [PANEL]`; `help`, `--help` or `-h`; anything else
abbrev pub other_for : ℕ → List ℕ → Command
other_for count first =
    pick (bytes_eq first claim_word)
    (pick (eqb count 1) (Claim false) (pick (eqb count 2) (Claim true) Unknown))
    (pick (asks_help first) (pick (eqb count 1) Help Unknown) Unknown)

-- so many words, of which these are the first two: no word; `check PANEL CLAIM`; `step N [PANEL]`; another
abbrev pub command_for : ℕ → List ℕ → List ℕ → Command
command_for count first second =
    pick (eqb count 0) Plain
    (pick (bytes_eq first check_word) (pick (eqb count 3) Check Unknown)
    (pick (bytes_eq first step_word)
    (pick (eqb count 2) (step_for (count_of second) false) (pick (eqb count 3) (step_for (count_of second) true) Unknown))
    (other_for count first)))
