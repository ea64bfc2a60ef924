-- What some command lines ask, by computation. Bytes: 45 is '-', 48 to 57 are the digits. Assumes nothing.
use mathlib.Core.Path.{◌≡◌, refl}
use mathlib.Core.Bool.{true, false}
use mathlib.Core.List.{[], ◌∷◌}
use Rattle.std.specs.Prelude.{Some, None}
use Rattle.command.specs.declared.Command.TheVariants.{Plain, Check, Step, Claim, Help, Unknown}
use Rattle.command.specs.Command.{check_word, step_word, claim_word, help_word, long_help_word, short_help_word}
use Rattle.command.specs.Command.{all_digits, value_from, count_of, command_for}

-- no word; `check A B`; `check A`; `help`; `help A`
none : command_for 0 [] [] ≡ Plain
none = refl

check_two : command_for 3 check_word (65 ∷ []) ≡ Check
check_two = refl

check_one : command_for 2 check_word (65 ∷ []) ≡ Unknown
check_one = refl

help : command_for 1 help_word [] ≡ Help
help = refl

help_more : command_for 2 help_word (65 ∷ []) ≡ Unknown
help_more = refl

-- `--help`; `-h`; `--help A`; `-h A`
long_help : command_for 1 long_help_word [] ≡ Help
long_help = refl

short_help : command_for 1 short_help_word [] ≡ Help
short_help = refl

long_help_more : command_for 2 long_help_word (65 ∷ []) ≡ Unknown
long_help_more = refl

short_help_more : command_for 2 short_help_word (65 ∷ []) ≡ Unknown
short_help_more = refl

-- `-help`, `--hel` and `h` are no commands
one_dash : command_for 1 (45 ∷ 104 ∷ 101 ∷ 108 ∷ 112 ∷ []) [] ≡ Unknown
one_dash = refl

cut_help : command_for 1 (45 ∷ 45 ∷ 104 ∷ 101 ∷ 108 ∷ []) [] ≡ Unknown
cut_help = refl

no_dash : command_for 1 (104 ∷ []) [] ≡ Unknown
no_dash = refl

-- `chec`, `checks` and `Check` are no commands
cut : command_for 3 (99 ∷ 104 ∷ 101 ∷ 99 ∷ []) [] ≡ Unknown
cut = refl

longer : command_for 3 (99 ∷ 104 ∷ 101 ∷ 99 ∷ 107 ∷ 115 ∷ []) [] ≡ Unknown
longer = refl

capital : command_for 3 (67 ∷ 104 ∷ 101 ∷ 99 ∷ 107 ∷ []) [] ≡ Unknown
capital = refl

-- `step 25`; `step 25 A`; `step`; `step 25 A B`
step_here : command_for 2 step_word (50 ∷ 53 ∷ []) ≡ Step 25 false
unfolding all_digits value_from
step_here = refl

step_named : command_for 3 step_word (50 ∷ 53 ∷ []) ≡ Step 25 true
unfolding all_digits value_from
step_named = refl

step_alone : command_for 1 step_word [] ≡ Unknown
step_alone = refl

step_more : command_for 4 step_word (50 ∷ 53 ∷ []) ≡ Unknown
step_more = refl

-- `claim`; `claim A`; `claim A B`; `claims`
claim_here : command_for 1 claim_word [] ≡ Claim false
claim_here = refl

claim_named : command_for 2 claim_word (65 ∷ []) ≡ Claim true
claim_named = refl

claim_more : command_for 3 claim_word (65 ∷ []) ≡ Unknown
claim_more = refl

claims : command_for 1 (99 ∷ 108 ∷ 97 ∷ 105 ∷ 109 ∷ 115 ∷ []) [] ≡ Unknown
claims = refl

-- the word 0; leading zeros; 1000001; more digits than 64 bits hold; no digit; `-1`; `2a`
zero_steps : count_of (48 ∷ []) ≡ Some 0
unfolding all_digits value_from
zero_steps = refl

zeros_first : count_of (48 ∷ 48 ∷ 48 ∷ 55 ∷ []) ≡ Some 7
unfolding all_digits value_from
zeros_first = refl

past_million : count_of (49 ∷ 48 ∷ 48 ∷ 48 ∷ 48 ∷ 48 ∷ 49 ∷ []) ≡ Some 1000000
unfolding all_digits value_from
past_million = refl

many_digits : count_of (57 ∷ 57 ∷ 57 ∷ 57 ∷ 57 ∷ 57 ∷ 57 ∷ 57 ∷ 57 ∷ 57 ∷ 57 ∷ 57 ∷ 57 ∷ 57 ∷ 57 ∷ 57 ∷ 57 ∷ 57 ∷ 57 ∷ 57 ∷ 57 ∷ 57 ∷ []) ≡ Some 1000000
unfolding all_digits value_from
many_digits = refl

empty : count_of [] ≡ None
empty = refl

sign : count_of (45 ∷ 49 ∷ []) ≡ None
unfolding all_digits
sign = refl

letter : count_of (50 ∷ 97 ∷ []) ≡ None
unfolding all_digits
letter = refl
