-- `all` and `any` over a range of numbers, whose closure computes a test: the test of every number, or of some. Assumes nothing.
use mathlib.Core.Path.{◌≡◌, refl, ap, ◌∙◌}
use mathlib.Core.Bool.{Bool, true, false, ◌&&◌, ◌||◌}
use mathlib.Core.List.{List}
use Prim.Native.Nat.{ℕ, zero, suc, ◌+◌, ◌-◌}
use native.Mathlib.Omega.{arith}
use denote.Param.Members.{Mut}
use Rattle.std.specs.declared.ops.Range.{Range}
use Rattle.std.specs.Prelude.{Option}
use Rattle.std.specs.Fn.{Called}
use Rattle.std.specs.Iterator.{YieldsThen}
use Rattle.std.specs.List.{FoldsTo, range_with_len, list_all, list_any}
use Rattle.std.specs.Option.{MatchOption}
use Rattle.std.proofs.iter.Yields.{nat_range_steps}
use Rattle.std.proofs.lemmas.Iterator.{YieldsList-from_range}
use Rattle.std.proofs.lemmas.Iterator.Search.{all_from_yields_List, any_from_yields_List}
use Rattle.mask.specs.Mask.{every}
use Rattle.mask.proofs.Laws.{every_same}
use Rattle.flow.specs.Flows.{some}

some_same : (n : ℕ) (f g : ℕ → Bool) → ((k : ℕ) → f k ≡ g k) → some n f ≡ some n g
some_same zero f g h = refl
some_same (suc n) f g h = rw (h zero, some_same n (λ k. f (suc k)) (λ k. g (suc k)) (λ k. h (suc k)))

-- the tests of the numbers in a list, which are those from one on
all_from : (n a : ℕ) (test : ℕ → Bool) → list_all test (range_with_len a n) ≡ every n (λ i. test (a + i))
all_from zero a test = refl
all_from (suc n) a test =
    ap (◌&&◌ (test a)) (all_from n (a + 1) test ∙ every_same n _ _ (λ i l. ap test (omega arith)))
    ∙ ap (λ (k : ℕ). test k && every n (λ i. test (a + suc i))) (omega arith)

any_from : (n a : ℕ) (test : ℕ → Bool) → list_any test (range_with_len a n) ≡ some n (λ i. test (a + i))
any_from zero a test = refl
any_from (suc n) a test =
    ap (◌||◌ (test a)) (any_from n (a + 1) test ∙ some_same n _ _ (λ i. ap test (omega arith)))
    ∙ ap (λ (k : ℕ). test k || some n (λ i. test (a + suc i))) (omega arith)

module _ {F : Type 0} {g : Mut F (ℕ × Unit {0}) Bool} {s : Range ℕ} (test : ℕ → Bool) (from end : ℕ) (u : Range ℕ) (f : F) (r : Bool)
    (is : s ≡ record { start = from; end = end })
    (answers : (x : ℕ) (b : Bool) (q : F) → Called g f (x, tt) b q → (q ≡ f) × (b ≡ test x)) where
  pub all_between : (xs : List ℕ) × (o : Option ℕ) × (j : F) × YieldsThen nat_range_steps s xs o u
      × FoldsTo (λ p x q. Called g p (x, tt) true q) f xs j
      × MatchOption o (r ≡ true) (λ x. (r ≡ false) × ((h : F) × Called g j (x, tt) false h))
      → r ≡ every (end - from) (λ i. test (from + i))
  all_between ran = all_from_yields_List test u f r ran (YieldsList-from_range from end (end - from) is refl) answers ∙ all_from (end - from) from test

  pub any_between : (xs : List ℕ) × (o : Option ℕ) × (j : F) × YieldsThen nat_range_steps s xs o u
      × FoldsTo (λ p x q. Called g p (x, tt) false q) f xs j
      × MatchOption o (r ≡ false) (λ x. (r ≡ true) × ((h : F) × Called g j (x, tt) true h))
      → r ≡ some (end - from) (λ i. test (from + i))
  any_between ran = any_from_yields_List test u f r ran (YieldsList-from_range from end (end - from) is refl) answers ∙ any_from (end - from) from test

-- from zero on
module _ {F : Type 0} {g : Mut F (ℕ × Unit {0}) Bool} {s : Range ℕ} (test : ℕ → Bool) (n : ℕ) (u : Range ℕ) (f : F) (r : Bool)
    (is : s ≡ record { start = 0; end = n })
    (answers : (x : ℕ) (b : Bool) (q : F) → Called g f (x, tt) b q → (q ≡ f) × (b ≡ test x)) where
  pub all_below : (xs : List ℕ) × (o : Option ℕ) × (j : F) × YieldsThen nat_range_steps s xs o u
      × FoldsTo (λ p x q. Called g p (x, tt) true q) f xs j
      × MatchOption o (r ≡ true) (λ x. (r ≡ false) × ((h : F) × Called g j (x, tt) false h))
      → r ≡ every n test
  all_below ran =
      all_between test 0 n u f r is answers ran
      ∙ ap (λ (k : ℕ). every k (λ i. test (0 + i))) (omega arith)
      ∙ every_same n (λ i. test (0 + i)) test (λ i l. ap test (omega arith))

  pub any_below : (xs : List ℕ) × (o : Option ℕ) × (j : F) × YieldsThen nat_range_steps s xs o u
      × FoldsTo (λ p x q. Called g p (x, tt) false q) f xs j
      × MatchOption o (r ≡ false) (λ x. (r ≡ true) × ((h : F) × Called g j (x, tt) true h))
      → r ≡ some n test
  any_below ran =
      any_between test 0 n u f r is answers ran
      ∙ ap (λ (k : ℕ). some k (λ i. test (0 + i))) (omega arith)
      ∙ some_same n (λ i. test (0 + i)) test (λ i. ap test (omega arith))
