-- Laws of a slice whose first elements are given by their places: its length, what is read, written and filled. Assumes nothing.
use mathlib.Core.Path.{◌≡◌, refl, sym, ap, ◌∙◌}
use mathlib.Core.List.{List, ◌∷◌}
use Prim.Native.Nat.{ℕ, zero, suc, ◌≤◌, ◌<◌}
use native.Mathlib.Omega.{arith}
use lib.Dec.{ltb}
use lib.ListN.{length, get_or, set, replicate, get_or-eq_default}
use lib.Seq.{set_out}
use borrow.Author.Tests.{ltb-true, ltb-false, lt-ltb, le-ltb}
use Rattle.text.proofs.Cases.{by_test}
use Rattle.instruction.specs.Word.{pick}
use Rattle.program.specs.Lists.{tab}
use Rattle.program.proofs.Lists.{length_tab, getD_tab, tab_cong, tab_getD}
use Rattle.program.proofs.Writes.{set_tab}
use Rattle.store.specs.Store.{filled}
use Rattle.laid.specs.Passed.{laid}

module _ {A : Type 0} where
  -- one value at every place
  pub tab_same : (n : ℕ) (f : ℕ → A) (c : A) → ((i : ℕ) → i < n → f i ≡ c) → tab n f ≡ replicate n c
  tab_same n f c e = tab_cong n f (λ i. c) e ∙ alike n
    where
      alike : (n : ℕ) → tab n (λ i. c) ≡ replicate n c
      alike zero = refl
      alike (suc n) = ap (λ (xs : List A). c ∷ xs) (alike n)

  -- nothing stands, and nothing is written, at the greatest number that 64 bits hold
  pub read_nowhere : (xs : List A) (d : A) → length xs ≤ 18446744073709551615 → get_or xs 18446744073709551615 d ≡ d
  read_nowhere xs d l = get_or-eq_default xs d l

  pub put_nowhere : (xs : List A) (c : A) → length xs ≤ 18446744073709551615 → set xs 18446744073709551615 c ≡ xs
  put_nowhere xs c l = set_out xs 18446744073709551615 c l

-- ---- the first k elements given by their places

module _ {A : Type 0} (k : ℕ) (before : List A) (d : A) where
  pub laid_length : (g : ℕ → A) → length (laid k g before d) ≡ length before
  laid_length g = length_tab (length before) (λ i. pick (ltb i k) (g i) (get_or before i d))

  pub laid_same : (g h : ℕ → A) → ((i : ℕ) → i < k → g i ≡ h i) → laid k g before d ≡ laid k h before d
  laid_same g h e =
      tab_cong (length before) (λ i. pick (ltb i k) (g i) (get_or before i d)) (λ i. pick (ltb i k) (h i) (get_or before i d))
      (λ i l. by_test (ltb i k) (λ t. rw t (e i (ltb-true i k t))) (λ t. rw t refl))

  pub laid_read : (g : ℕ → A) (i : ℕ) (e : A) → i < k → k ≤ length before → get_or (laid k g before d) i e ≡ g i
  laid_read g i e l enough =
      getD_tab (length before) (λ i. pick (ltb i k) (g i) (get_or before i d)) i e (omega arith) ∙ rw (lt-ltb i k l) refl

  -- a write at place i, where the two differ
  pub laid_put : (g h : ℕ → A) (i : ℕ) (v : A) → i < k → k ≤ length before → h i ≡ v → ((j : ℕ) → j < k → (j ≡ i → ⊥) → h j ≡ g j)
      → set (laid k g before d) i v ≡ laid k h before d
  laid_put g h i v l enough e others =
      set_tab (length before) (λ i. pick (ltb i k) (g i) (get_or before i d)) i v (λ i. pick (ltb i k) (h i) (get_or before i d)) (rw (lt-ltb i k l) e)
      (λ j b n. by_test (ltb j k) (λ t. rw t (others j (ltb-true j k t) n)) (λ t. rw t refl))
      (omega arith)

-- a slice whose first n elements are one
pub laid_filled : {A : Type 0} (n : ℕ) (c : A) (before : List A) (d : A) → n ≤ length before → filled n c before ≡ laid n (λ i. c) before d
unfolding filled
laid_filled zero c before d l =
    sym
    (tab_cong (length before) (λ i. pick (ltb i 0) c (get_or before i d)) (λ i. get_or before i d) (λ i b. rw (le-ltb i 0 (omega arith)) refl)
    ∙ tab_getD before d)
laid_filled (suc n) c before d l =
    ap (λ xs. set xs n c) (laid_filled n c before d (omega arith))
    ∙ set_tab (length before) (λ i. pick (ltb i n) c (get_or before i d)) n c (λ i. pick (ltb i (suc n)) c (get_or before i d))
    (rw (lt-ltb n (suc n) (omega arith)) refl)
    (λ j b o. at j o)
    (omega arith)
  where
    at : (j : ℕ) → (j ≡ n → ⊥) → pick (ltb j (suc n)) c (get_or before j d) ≡ pick (ltb j n) c (get_or before j d)
    at j o =
        by_test (ltb j n)
        (λ t. rw (t, lt-ltb j (suc n) (omega (arith, ltb-true j n t))) refl)
        (λ t. rw (t, le-ltb j (suc n) (omega (arith, ltb-false j n t, o))) refl)
