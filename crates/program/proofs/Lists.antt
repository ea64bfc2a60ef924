-- Laws of lists by index, of reversed lists, of the first and the last number that pass a test. Assumes nothing.
use mathlib.Core.Path.{◌≡◌, refl, sym, ap, ◌∙◌}
use mathlib.Core.Bool.{Bool, true, false}
use mathlib.Core.List.{List, [], ◌∷◌, ◌++◌, reverse, reverse-cons}
use Prim.Native.Nat.{ℕ, zero, suc, ◌+◌, ◌-◌, ◌≤◌, ◌<◌, zero-le}
use native.Mathlib.Nat.{not-suc-le-zero, le_of_suc-le-suc, add-zero}
use native.Mathlib.Omega.{arith}
use lib.ListN.{length, get_or, length-reverse, get_or-append}
use lib.Seq.{get_or-append_seam}
use native.Mathlib.Decide.{ℕ_discrete}
use Rattle.std.specs.Prelude.{Option, Some, None, MatchOption}
use Rattle.std.proofs.lemmas.Option.{none-some}
use Rattle.instruction.specs.Word.{pick}
use Rattle.program.specs.Lists.{tab, first, last}
use Rattle.program.specs.Program.{from_last}

module _ {A : Type 0} where
  pub length_tab : (n : ℕ) (f : ℕ → A) → length (tab n f) ≡ n
  length_tab zero f = refl
  length_tab (suc n) f = ap suc (length_tab n (λ k. f (suc k)))

  -- element i, where there is one
  pub getD_tab : (n : ℕ) (f : ℕ → A) (i : ℕ) (d : A) → i < n → get_or (tab n f) i d ≡ f i
  getD_tab zero f i d l = absurd (not-suc-le-zero l)
  getD_tab (suc n) f zero d l = refl
  getD_tab (suc n) f (suc i) d l = getD_tab n (λ k. f (suc k)) i d (le_of_suc-le-suc l)

  -- past the end
  pub getD_tab_out : (n : ℕ) (f : ℕ → A) (i : ℕ) (d : A) → n ≤ i → get_or (tab n f) i d ≡ d
  getD_tab_out zero f i d l = refl
  getD_tab_out (suc n) f zero d l = absurd (not-suc-le-zero l)
  getD_tab_out (suc n) f (suc i) d l = getD_tab_out n (λ k. f (suc k)) i d (le_of_suc-le-suc l)

  -- two that agree below n
  pub tab_cong : (n : ℕ) (f g : ℕ → A) → ((i : ℕ) → i < n → f i ≡ g i) → tab n f ≡ tab n g
  tab_cong zero f g h = refl
  tab_cong (suc n) f g h =
      let e : f zero ≡ g zero = h zero (omega arith) in
      let r : tab n (λ k. f (suc k)) ≡ tab n (λ k. g (suc k)) = tab_cong n (λ k. f (suc k)) (λ k. g (suc k)) (λ i l. h (suc i) (omega arith)) in
      cc

  -- a list, index by index
  pub tab_getD : (xs : List A) (d : A) → tab (length xs) (λ i. get_or xs i d) ≡ xs
  tab_getD [] d = refl
  tab_getD (x ∷ xs) d = ap (λ (l : List A). x ∷ l) (tab_getD xs d)

  -- the part from i on begins with f i
  pub tab_from : (n i : ℕ) (f : ℕ → A) → i < n → tab (n - i) (λ k. f (i + k)) ≡ f i ∷ tab (n - (i + 1)) (λ k. f (i + 1 + k))
  tab_from n i f l = from (n - i) (n - (i + 1)) (omega arith)
    where
      from : (a b : ℕ) → a ≡ suc b → tab a (λ k. f (i + k)) ≡ f i ∷ tab b (λ k. f (i + 1 + k))
      from a b e =
          rw (e, add-zero)
          (ap (λ (l : List A). f i ∷ l) (tab_cong b (λ k. f (i + suc k)) (λ k. f (i + 1 + k)) (λ k h. ap f (omega arith))))

  -- element i of a reversed list is counted from the last
  pub get_d_reverse : (xs : List A) (i : ℕ) (d : A) → i < length xs → get_or (reverse xs) i d ≡ get_or xs (from_last (length xs) i) d
  get_d_reverse [] i d l = absurd (not-suc-le-zero l)
  get_d_reverse (x ∷ xs) i d l =
      ap (λ (ys : List A). get_or ys i d) (reverse-cons x xs) ∙ by (ℕ_discrete i (length xs)) (get_d_reverse xs i d)
    where
      by : Dec (i ≡ length xs) → (i < length xs → get_or (reverse xs) i d ≡ get_or xs (from_last (length xs) i) d)
          → get_or (reverse xs ++ (x ∷ [])) i d ≡ get_or (x ∷ xs) (from_last (suc (length xs)) i) d
      by (yes e) further =
          let z : from_last (suc (length xs)) i ≡ 0 = omega arith in
          rw (z, e, ← length-reverse xs) (get_or-append_seam (reverse xs) x [] d)
      by (no differs) further =
          let less : i < length xs = omega arith in
          let z : from_last (suc (length xs)) i ≡ suc (from_last (length xs) i) = omega arith in
          rw z (get_or-append (reverse xs) (x ∷ []) d i (rw (length-reverse xs) less) ∙ further less)

-- the first that passes, where none before it does
pub first_stop : (n : ℕ) (test : ℕ → Bool) (i : ℕ) → i < n → ((k : ℕ) → k < i → test k ≡ false) → test i ≡ true → first n test ≡ Some i
first_stop zero test i l before e = absurd (not-suc-le-zero l)
first_stop (suc n) test zero l before e = rw e
first_stop (suc n) test (suc i) l before e =
    let here : test zero ≡ false = before zero (omega arith) in
    rw (here, first_stop n (λ k. test (suc k)) i (le_of_suc-le-suc l) (λ k h. before (suc k) (omega arith)) e)

-- none passes
pub first_none : (n : ℕ) (test : ℕ → Bool) → ((k : ℕ) → k < n → test k ≡ false) → first n test ≡ None
first_none zero test before = refl
first_none (suc n) test before =
    let here : test zero ≡ false = before zero (omega arith) in
    rw (here, first_none n (λ k. test (suc k)) (λ k h. before (suc k) (omega arith)))

-- the last that passes, where none after it does
pub last_stop : (n : ℕ) (test : ℕ → Bool) (i : ℕ) → i < n → ((k : ℕ) → i < k → k < n → test k ≡ false) → test i ≡ true
    → last n test ≡ Some i
last_stop zero test i l after e = absurd (not-suc-le-zero l)
last_stop (suc n) test i l after e =
    by (ℕ_discrete i n) (λ less. last_stop n test i less (λ k h b. after k h (omega arith)) e)
  where
    by : Dec (i ≡ n) → (i < n → last n test ≡ Some i) → last (suc n) test ≡ Some i
    by (yes same) further = rw (← same, e)
    by (no differs) further =
        let there : test n ≡ false = after n (omega arith) (omega arith) in
        rw there (further (omega arith))

-- none passes
pub last_none : (n : ℕ) (test : ℕ → Bool) → ((k : ℕ) → k < n → test k ≡ false) → last n test ≡ None
last_none zero test fails = refl
last_none (suc n) test fails =
    let there : test n ≡ false = fails n (omega arith) in
    rw there (last_none n test (λ k h. fails k (omega arith)))

-- where one is found, it passes and none after it does; where none is found, none passes
pub record Last (n : ℕ) (test : ℕ → Bool) (i : ℕ) : Type 0 where
  pub within : i < n
  pub passes : test i ≡ true
  pub after : (k : ℕ) → i < k → k < n → test k ≡ false

pub last_some : (n : ℕ) (test : ℕ → Bool) (i : ℕ) → last n test ≡ Some i → Last n test i
last_some zero test i e = absurd (none-some i e)
last_some (suc n) test i e = by (test n) refl (last_some n test i) e
  where
    by : (t : Bool) → test n ≡ t → (last n test ≡ Some i → Last n test i) → pick t (Some n) (last n test) ≡ Some i
        → Last (suc n) test i
    by true q before f =
        let same : n ≡ i = cc in
        record { within = omega arith; passes = rw (← same) q; after = λ k l b. absurd (omega arith) }
    by false q before f =
        let r = before f in
        record {
          within = omega (arith, r.within);
          passes = r.passes;
          after = λ k l b. later k l b (ℕ_discrete k n);
        }
      where
        later : (k : ℕ) → i < k → k < suc n → Dec (k ≡ n) → test k ≡ false
        later k l b (yes same) = rw same q
        later k l b (no differs) = (before f).after k l (omega arith)

pub last_nothing : (n : ℕ) (test : ℕ → Bool) → last n test ≡ None → (k : ℕ) → k < n → test k ≡ false
last_nothing zero test e k l = absurd (not-suc-le-zero l)
last_nothing (suc n) test e k l = by (test n) refl e (λ f b. last_nothing n test f k b) (ℕ_discrete k n)
  where
    by : (t : Bool) → test n ≡ t → pick t (Some n) (last n test) ≡ None → (last n test ≡ None → k < n → test k ≡ false)
        → Dec (k ≡ n) → test k ≡ false
    by true q f before d = absurd (none-some n (sym f))
    by false q f before (yes same) = rw same q
    by false q f before (no differs) = before f (omega arith)

-- what `find` answers over 0 .. n
pub first_found : (n : ℕ) (test : ℕ → Bool) (r : Option ℕ)
    → MatchOption r ((k : ℕ) → 0 ≤ k → k < n → test k ≡ false)
    (λ i. (0 ≤ i) × (i < n) × (test i ≡ true) × ((k : ℕ) → 0 ≤ k → k < i → test k ≡ false))
    → r ≡ first n test
first_found n test None fails = sym (first_none n test (λ k l. fails k zero-le l))
first_found n test (Some i) (z, l, e, before) = sym (first_stop n test i l (λ k h. before k zero-le h) e)
