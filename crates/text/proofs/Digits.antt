-- Digits and other bytes: the tests of a digit as one equation, a list of digits with one more, and the run that starts with
-- digits. Assumes nothing.
use mathlib.Core.Path.{◌≡◌, refl, sym, ◌∙◌}
use Rattle.std.specs.List.{fold, prefix_len}
use mathlib.Core.Bool.{Bool, true, ◌&&◌, ◌||◌, and_assoc, and-true, and-false}
use mathlib.Core.List.{List, [], ◌∷◌, ◌++◌}
use Prim.Native.Nat.{ℕ, zero, suc, ◌+◌, ◌-◌, ◌<◌, ◌≤◌}
use native.Mathlib.Numerals.{add-one}
use native.Mathlib.Omega.{arith}
use lib.ListN.{length, take, drop, get_or, length-drop}
use lib.Seq.{drop-drop, get_or-drop, take-suc, take-add}
use lib.Dec.{ltb, leb}
use borrow.Author.Tests.{lt-ltb, le-leb, lt-leb, ltb-true, ltb-false}
use Rattle.text.specs.Hex.{digit_of, all_digits}
use Rattle.text.specs.Run.{digit_run}
use Rattle.text.proofs.Cases.{by_test, never, both_true}

-- a byte is a digit if it lies in one of two ranges
pub digit_ranges : (b : ℕ) → (leb 48 b && ltb b 58) || (leb 97 b && ltb b 103) ≡ ltb (digit_of b) 16
unfolding digit_of
digit_ranges b =
    by_test
    (ltb b 48)
    (λ t. let l = ltb-true b 48 t in
    simp (t, lt-leb 48 b l, lt-leb 97 b (omega arith)))
    (λ t. by_test
    (ltb b 58)
    (λ u. simp (t, u, le-leb 48 b (ltb-false b 48 t), lt-ltb (b - 48) 16 (omega (arith, ltb-true b 58 u))))
    (λ u. by_test
    (ltb b 97)
    (λ v. simp (t, u, v, lt-leb 97 b (ltb-true b 97 v), le-leb 48 b (ltb-false b 48 t)))
    (λ v. by_test
    (ltb b 103)
    (λ w. simp (t, u, v, w, le-leb 48 b (ltb-false b 48 t), le-leb 97 b (ltb-false b 97 v), lt-ltb (b - 87) 16 (omega (arith, ltb-true b 103 w))))
    (λ w. simp (t, u, v, w, and-false)))))

-- digits, and digits after them
digits_append : (ds es : List ℕ) → all_digits (ds ++ es) ≡ all_digits ds && all_digits es
unfolding all_digits
digits_append [] es = refl
digits_append (d ∷ ds) es = rw (digits_append ds es, and_assoc (ltb (digit_of d) 16) (all_digits ds) (all_digits es))

-- n digits at a place and n more: digits in each half
pub digits_halves : (s : List ℕ) (at n : ℕ) → all_digits (take (n + n) (drop at s)) ≡ true
    → (all_digits (take n (drop at s)) ≡ true) × (all_digits (take n (drop (at + n) s)) ≡ true)
digits_halves s at n d =
    let halves : take (n + n) (drop at s) ≡ take n (drop at s) ++ take n (drop (at + n) s) =
    rw (← drop-drop n at s) (take-add n n (drop at s)) in
    both_true (all_digits (take n (drop at s))) (all_digits (take n (drop (at + n) s)))
    (sym (digits_append (take n (drop at s)) (take n (drop (at + n) s))) ∙ rw halves at d)

-- the digits inside the first d
digits_within : (i n d : ℕ) (xs : List ℕ) → i + n ≤ d → all_digits (take d xs) ≡ true → all_digits (take n (drop i xs)) ≡ true
unfolding all_digits
digits_within i zero d xs l h = refl
digits_within zero (suc n) zero xs l h = absurd (omega arith)
digits_within zero (suc n) (suc d) [] l h = refl
digits_within zero (suc n) (suc d) (x ∷ xs) l h =
    let b = both_true (ltb (digit_of x) 16) (all_digits (take d xs)) h in
    rw (b.0, digits_within zero n d xs (omega arith) b.1)
digits_within (suc i) (suc n) zero xs l h = absurd (omega arith)
digits_within (suc i) (suc n) (suc d) [] l h = refl
digits_within (suc i) (suc n) (suc d) (x ∷ xs) l h =
    digits_within i (suc n) d xs (omega arith) (both_true (ltb (digit_of x) 16) (all_digits (take d xs)) h).1

-- d digits at a place: n of them from the i-th on
pub digits_inside : (s : List ℕ) (at d i n : ℕ) → i + n ≤ d → all_digits (take d (drop at s)) ≡ true
    → all_digits (take n (drop (at + i) s)) ≡ true
digits_inside s at d i n l h = rw (← drop-drop i at s) (digits_within i n d (drop at s) l h)

-- a digit at the end
digits_snoc : (ds : List ℕ) (d : ℕ) → all_digits (ds ++ (d ∷ [])) ≡ all_digits ds && ltb (digit_of d) 16
unfolding all_digits
digits_snoc [] d = simp and-true
digits_snoc (x ∷ ds) d = rw (digits_snoc ds d, and_assoc (ltb (digit_of x) 16) (all_digits ds) (ltb (digit_of d) 16))

-- one byte more of those at a place
pub digits_more : (s : List ℕ) (at i : ℕ) → at + i < length s
    → all_digits (take (i + 1) (drop at s)) ≡ all_digits (take i (drop at s)) && ltb (digit_of (get_or s (at + i) 0)) 16
digits_more s at i l =
    let inside : i < length (drop at s) = simp length-drop (omega arith) in
    rw (← get_or-drop at s i 0, add-one i, take-suc (drop at s) i 0)
    (digits_snoc (take i (drop at s)) (get_or (drop at s) i 0))

-- a run that starts with n digits has them, and the run after them
run_from : (n : ℕ) (s : List ℕ) → n ≤ length s → all_digits (take n s) ≡ true → digit_run s ≡ n + digit_run (drop n s)
unfolding all_digits digit_run
run_from zero s l d = omega arith
run_from (suc n) [] l d = absurd (omega arith)
run_from (suc n) (b ∷ s) l d =
    by_test
    (ltb (digit_of b) 16)
    (λ t. rw t (omega (arith, run_from n s (omega arith) (simp t at d))))
    (λ t. never (cc (simp t at d)))

-- the run at i, where n digits stand, ends where the one after them does
pub run_past : (s : List ℕ) (i n : ℕ) → n ≤ length s - i → all_digits (take n (drop i s)) ≡ true
    → i + digit_run (drop i s) ≡ i + n + digit_run (drop (i + n) s)
run_past s i n l d =
    rw (← drop-drop n i s) (omega (arith, run_from n (drop i s) (rw (length-drop i s) l) d))

-- digits, tested one after another
pub tested : (a : Bool) (bs : List ℕ) → fold (λ all b. all && ltb (digit_of b) 16) a bs ≡ a && all_digits bs
unfolding all_digits
tested a [] = simp and-true
tested a (b ∷ bs) = tested (a && ltb (digit_of b) 16) bs ∙ and_assoc a (ltb (digit_of b) 16) (all_digits bs)

-- the digits in front
pub run_front : (s : List ℕ) → prefix_len (λ b. ltb (digit_of b) 16) s ≡ digit_run s
unfolding digit_run
run_front [] = refl
run_front (b ∷ s) =
    by_test
    (ltb (digit_of b) 16)
    (λ t. rw t (omega (arith, run_front s)))
    (λ t. rw t refl)
