-- A number's decimal digits: one below ten, else those in front and the last. Assumes nothing.
use mathlib.Core.Path.{◌≡◌, ap}
use mathlib.Core.List.{List, [], ◌∷◌, ◌++◌}
use Prim.Native.Nat.{ℕ, zero, suc, ◌+◌, ◌/◌, ◌%◌, ◌≤◌, ◌<◌, ◌^◌}
use native.Mathlib.Omega.{arith}
use lib.Dec.{ltb}
use borrow.Author.Tests.{lt-ltb, le-ltb}
use Rattle.text.proofs.Cases.{by_test}
use Rattle.page.specs.Digits.{decimal_by, decimal}

-- one more digit that is asked for changes nothing where there are enough
enough : (k n : ℕ) → n < 10 ^ suc k → decimal_by (suc (suc k)) n ≡ decimal_by (suc k) n
unfolding decimal_by
enough zero n h = let few : n < 10 = h in rw (lt-ltb n 10 few)
enough (suc k) n h =
    by_test (ltb n 10)
    (λ t. rw t)
    (λ t. rw t (ap (λ (xs : List ℕ). xs ++ ((48 + n % 10) ∷ [])) (enough k (n / 10) (omega arith))))

one_digit : (k n : ℕ) → n < 10 → (48 + n % 10) ∷ [] ≡ decimal_by (suc k) n
unfolding decimal_by
one_digit k n less = let same : n % 10 ≡ n = omega arith in rw (lt-ltb n 10 less, same)

one_more : (k n : ℕ) → 10 ≤ n → n / 10 < 10 ^ suc k → decimal_by (suc (suc k)) (n / 10) ++ ((48 + n % 10) ∷ []) ≡ decimal_by (suc (suc k)) n
unfolding decimal_by
one_more k n more few = rw (le-ltb n 10 more) (ap (λ (xs : List ℕ). xs ++ ((48 + n % 10) ∷ [])) (enough k (n / 10) few))

-- of a number of 64 bits
pub digits_last : (n : ℕ) → n < 10 → (48 + n % 10) ∷ [] ≡ decimal n
digits_last n less = one_digit 19 n less

pub digits_more : (n : ℕ) → 10 ≤ n → n < 2 ^ 64 → decimal (n / 10) ++ ((48 + n % 10) ∷ []) ≡ decimal n
digits_more n more fits = one_more 18 n more (omega arith)
