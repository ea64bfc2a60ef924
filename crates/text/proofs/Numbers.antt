-- The number that digits say: its bound, and one digit more. Assumes nothing.
use mathlib.Core.Path.{◌≡◌, refl}
use mathlib.Core.List.{List, [], ◌∷◌, ◌++◌}
use Prim.Native.Nat.{ℕ, ◌+◌, ◌*◌, ◌-◌, ◌%◌, ◌≤◌, ◌<◌, ◌^◌, min}
use native.Mathlib.Nat.{pow-succ', mul-le-mul_right, mul_assoc, pow-le-pow_right, min-eq_left, min-eq_right}
use native.Mathlib.Numerals.{add-one}
use native.Mathlib.Omega.{arith}
use lib.ListN.{length, take, drop, get_or, length-take, length-drop}
use lib.Dec.{leb}
use lib.Seq.{get_or-drop, take-suc, take_all, take-length}
use borrow.Author.Tests.{leb-true, leb-false}
use Rattle.text.proofs.Cases.{by_test}
use Rattle.text.specs.Hex.{digit_of, number_from, number_of, digits_at}

-- digits after n say a number below (n + 1) times 16 to the number of digits
from_bound : (n : ℕ) (ds : List ℕ) → number_from n ds < (n + 1) * 16 ^ length ds
unfolding number_from
from_bound n [] = omega arith
from_bound n (d ∷ ds) =
    let m : ℕ = n * 16 + digit_of d % 16 in
    let step : (m + 1) * 16 ^ length ds ≤ (n + 1) * 16 * 16 ^ length ds = mul-le-mul_right (16 ^ length ds) (omega arith) in
    rw (pow-succ', ← mul_assoc) (omega (arith, from_bound m ds))

-- n digits say a number below 16 to the n
pub number_bound : (ds : List ℕ) → number_of ds < 16 ^ length ds
number_bound ds = omega (arith, from_bound 0 ds)

-- so do at most n
pub number_below : (ds : List ℕ) (n : ℕ) → number_of (take n ds) < 16 ^ n
number_below ds n =
    let few : length (take n ds) ≤ n = rw length-take (omega arith) in
    let below : 16 ^ length (take n ds) ≤ 16 ^ n = pow-le-pow_right (omega arith) few in
    omega (arith, number_bound (take n ds))

-- a digit at the end
from_snoc : (n : ℕ) (ds : List ℕ) (d : ℕ) → number_from n (ds ++ (d ∷ [])) ≡ number_from n ds * 16 + digit_of d % 16
unfolding number_from
from_snoc n [] d = refl
from_snoc n (x ∷ ds) d = from_snoc (n * 16 + digit_of x % 16) ds d

-- digits past the end are none
take_least : (n : ℕ) (s : List ℕ) → take (min n (length s)) s ≡ take n s
take_least n s =
    by_test
    (leb n (length s))
    (λ t. let l : n ≤ length s = leb-true n (length s) t in rw (min-eq_left l))
    (λ t. let l : length s ≤ n = omega (arith, leb-false n (length s) t) in
    rw (min-eq_right l, take-length s, take_all n s))

-- The number of the first i digits at a place of a text.
module _ (s : List ℕ) (at i : ℕ) where
  -- one digit more
  pub number_more : at + i < length s
      → number_of (take (i + 1) (drop at s)) ≡ number_of (take i (drop at s)) * 16 + digit_of (get_or s (at + i) 0) % 16
  number_more l =
      let inside : i < length (drop at s) = simp length-drop (omega arith) in
      rw (← get_or-drop at s i 0, add-one i, take-suc (drop at s) i 0)
      (from_snoc 0 (take i (drop at s)) (get_or (drop at s) i 0))

  -- while i is below 16, one digit more fits in 64 bits
  pub number_room : i < 16 → number_of (take i (drop at s)) * 16 + 15 < 2 ^ 64
  number_room l =
      let few : i ≤ 15 = omega arith in
      let below : 16 ^ i ≤ 16 ^ 15 = pow-le-pow_right (omega arith) few in
      omega (arith, number_below (drop at s) i)

  -- all that the text has of `count` digits, at most 16
  pub number_whole : (count : ℕ) → i ≡ min (min count 16) (length s - at)
      → number_of (take i (drop at s)) ≡ number_of (digits_at s at count)
  number_whole count e = rw (e, ← length-drop at s, take_least)
