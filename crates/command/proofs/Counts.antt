-- A number read digit by digit, at most 1,000,000. Assumes nothing.
use mathlib.Core.Path.{◌≡◌, refl, sym, ap, ◌∙◌}
use mathlib.Core.Bool.{Bool, true, false, ◌&&◌, cond as pick}
use mathlib.Core.List.{List, [], ◌∷◌}
use Prim.Native.Nat.{ℕ, ◌+◌, ◌*◌, ◌-◌, min, ◌≤◌, ◌<◌}
use native.Mathlib.Numerals.{add-one}
use native.Mathlib.Nat.{min-eq_left}
use native.Mathlib.Omega.{arith}
use lib.ListN.{length, get_or, drop, drop_of_length-le}
use lib.Seq.{drop-cons}
use lib.Dec.{leb, leb-suc-suc}
use Rattle.std.specs.Prelude.{Option, Some, None}
use Rattle.std.specs.Char.{is_ascii_digit}
use Rattle.command.specs.Command.{is_digit, all_digits, value_from, count_of}

-- how many steps the digits ask for that follow a number
pub steps_from : ℕ → List ℕ → Option ℕ
steps_from n xs = pick (all_digits xs) (Some (min (value_from n xs) 1000000)) None

-- a number above 1,000,000 counts as that, whatever digits follow
capped_alike : (xs : List ℕ) (m n : ℕ) → min m 1000000 ≡ min n 1000000 → min (value_from m xs) 1000000 ≡ min (value_from n xs) 1000000
unfolding value_from
capped_alike [] m n e = e
capped_alike (b ∷ bs) m n e = capped_alike bs (10 * m + (b - 48)) (10 * n + (b - 48)) (omega arith)

from_capped : (xs : List ℕ) (n : ℕ) → steps_from n xs ≡ steps_from (min n 1000000) xs
unfolding steps_from
from_capped xs n =
    ap (λ (k : ℕ). pick (all_digits xs) (Some k) None) (capped_alike xs n (min n 1000000) (omega arith))

-- one digit more, and another byte
from_digit : (b n : ℕ) (bs : List ℕ) → is_digit b ≡ true → steps_from n (b ∷ bs) ≡ steps_from (10 * n + (b - 48)) bs
unfolding steps_from all_digits value_from
from_digit b n bs t = rw t

from_other : (b n : ℕ) (bs : List ℕ) → is_digit b ≡ false → steps_from n (b ∷ bs) ≡ None
unfolding steps_from all_digits
from_other b n bs t = rw t

-- std's test of a digit
pub ascii_digit : (b : ℕ) → is_ascii_digit b ≡ is_digit b
ascii_digit b = ap (λ (t : Bool). leb 48 b && t) (sym (leb-suc-suc b 57))

module _ (xs : List ℕ) (i n : ℕ) (h : i < length xs) where
  pub digit_more : is_ascii_digit (get_or xs i 0) ≡ true → steps_from n (drop i xs) ≡ steps_from (min (10 * n + (get_or xs i 0 - 48)) 1000000) (drop (i + 1) xs)
  digit_more t =
      rw (drop-cons xs i 0 h, add-one)
      (from_digit (get_or xs i 0) n _ (sym (ascii_digit (get_or xs i 0)) ∙ t) ∙ from_capped _ (10 * n + (get_or xs i 0 - 48)))

  pub digit_none : is_ascii_digit (get_or xs i 0) ≡ false → steps_from n (drop i xs) ≡ None
  digit_none t = rw (drop-cons xs i 0 h) (from_other (get_or xs i 0) n _ (sym (ascii_digit (get_or xs i 0)) ∙ t))

-- no digit more
pub digits_end : (xs : List ℕ) (i n : ℕ) → n ≤ 1000000 → length xs ≤ i → steps_from n (drop i xs) ≡ Some n
unfolding steps_from all_digits value_from
digits_end xs i n small h = rw (drop_of_length-le xs h) (ap Some (min-eq_left small))

-- a word
pub count_is : (xs : List ℕ) → 0 < length xs → steps_from 0 xs ≡ count_of xs
unfolding steps_from
count_is [] h = absurd (omega arith)
count_is (x ∷ xs) h = refl
