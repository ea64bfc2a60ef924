-- Laws of the first marked line: one mark, an append, where it stands at most, and lists by index from an index on. Assumes
-- nothing.
use mathlib.Core.Path.{◌≡◌, refl, sym, ap, ◌∙◌}
use mathlib.Core.Bool.{Bool, true, false}
use mathlib.Core.List.{List, [], ◌∷◌, ◌++◌}
use Prim.Native.Nat.{ℕ, zero, suc, ◌+◌, ◌-◌, ◌≤◌, ◌<◌}
use native.Mathlib.Nat.{add-zero}
use native.Mathlib.Omega.{arith}
use borrow.Author.Tests.{eqb-false, eq-eqb, ne_eqb}
use lib.Dec.{eqb}
use lib.ListN.{length}
use Rattle.program.specs.Lists.{tab, joined}
use Rattle.program.proofs.Lists.{tab_cong, tab_from}
use Rattle.marks.specs.declared.Stop.{Stop}
use Rattle.marks.specs.Marks.{stop, first_mark}

-- ---- one mark

module _ (mark : ℕ) (rest : List ℕ) (line : ℕ) where
  pub unmarked : mark ≡ 0 → first_mark (mark ∷ rest) line ≡ first_mark rest (line + 1)
  unfolding first_mark
  unmarked e = rw (eq-eqb mark 0 e)

  pub marked : (mark ≡ 0 → ⊥) → first_mark (mark ∷ rest) line ≡ stop mark line
  unfolding first_mark
  marked differs = rw (ne_eqb mark 0 differs)

-- ---- an append

-- without a mark in the first part
pub append_unmarked : (xs ys : List ℕ) (line : ℕ) → (first_mark xs line).number ≡ 0 → first_mark (xs ++ ys) line ≡ first_mark ys (first_mark xs line).line
unfolding first_mark
append_unmarked [] ys line e = refl
append_unmarked (x ∷ xs) ys line e = by (eqb x 0) refl (append_unmarked xs ys (line + 1))
  where
    by : (t : Bool) → eqb x 0 ≡ t → ((first_mark xs (line + 1)).number ≡ 0 → first_mark (xs ++ ys) (line + 1) ≡ first_mark ys (first_mark xs (line + 1)).line) → first_mark (x ∷ (xs ++ ys)) line ≡ first_mark ys (first_mark (x ∷ xs) line).line
    by true q after = rw q (after (rw q at e))
    by false q after = absurd (eqb-false x 0 q (rw q at e))

-- with one
pub append_marked : (xs ys : List ℕ) (line : ℕ) → ((first_mark xs line).number ≡ 0 → ⊥) → first_mark (xs ++ ys) line ≡ first_mark xs line
unfolding first_mark
append_marked [] ys line differs = absurd (differs refl)
append_marked (x ∷ xs) ys line differs = by (eqb x 0) refl (append_marked xs ys (line + 1))
  where
    by : (t : Bool) → eqb x 0 ≡ t → (((first_mark xs (line + 1)).number ≡ 0 → ⊥) → first_mark (xs ++ ys) (line + 1) ≡ first_mark xs (line + 1)) → first_mark (x ∷ (xs ++ ys)) line ≡ first_mark (x ∷ xs) line
    by true q after = rw q (after (rw q at differs))
    by false q after = rw q

-- a walk over the first part stopped at s
module _ (xs ys : List ℕ) (line : ℕ) (s : Stop) (e : s ≡ first_mark xs line) where
  pub stop_here : (s.number ≡ 0 → ⊥) → s ≡ first_mark (xs ++ ys) line
  stop_here differs = e ∙ sym (append_marked xs ys line (rw e at differs))

  pub go_on : s.number ≡ 0 → first_mark ys s.line ≡ first_mark (xs ++ ys) line
  go_on z = rw e (sym (append_unmarked xs ys line (rw e at z)))

-- ---- where it stands at most

pub line_limit : (xs : List ℕ) (line : ℕ) → (first_mark xs line).line ≤ line + length xs
unfolding first_mark
line_limit [] line = omega arith
line_limit (x ∷ xs) line = by (eqb x 0) refl (line_limit xs (line + 1))
  where
    by : (t : Bool) → eqb x 0 ≡ t → (first_mark xs (line + 1)).line ≤ line + 1 + length xs → (first_mark (x ∷ xs) line).line ≤ line + suc (length xs)
    by true q after = rw q (omega arith)
    by false q after = rw q (omega arith)

-- ---- marks by index

pub no_marks : (n line : ℕ) → (first_mark (tab n (λ k. 0)) line).number ≡ 0
unfolding first_mark
no_marks zero line = refl
no_marks (suc n) line = no_marks n (line + 1)

-- the first mark from i on, of f 0, f 1, .., f (n - 1)
pub mark_from : ℕ → (ℕ → ℕ) → ℕ → ℕ → Stop
mark_from n f line i = first_mark (tab (n - i) (λ k. f (i + k))) (line + i)

module _ (n : ℕ) (f : ℕ → ℕ) (line : ℕ) where
  pub mark_start : first_mark (tab n f) line ≡ mark_from n f line 0
  unfolding mark_from
  mark_start =
      let all : n - 0 ≡ n = omega arith in
      rw (all, add-zero) (ap (λ (l : List ℕ). first_mark l line) (tab_cong n f (λ k. f (0 + k)) (λ k h. ap f (omega arith))))

  module _ (i : ℕ) (l : i < n) where
    pub mark_next : f i ≡ 0 → mark_from n f line i ≡ mark_from n f line (i + 1)
    unfolding mark_from
    mark_next e =
        let rest = tab (n - (i + 1)) (λ k. f (i + 1 + k)) in
        rw (tab_from n i f l) (unmarked (f i) rest (line + i) e ∙ ap (first_mark rest) (omega arith))

    pub mark_here : (f i ≡ 0 → ⊥) → mark_from n f line i ≡ stop (f i) (line + i)
    unfolding mark_from
    mark_here differs =
        rw (tab_from n i f l) (marked (f i) (tab (n - (i + 1)) (λ k. f (i + 1 + k))) (line + i) differs)

  pub mark_end : (i : ℕ) → i ≡ n → mark_from n f line i ≡ stop 0 (line + n)
  unfolding mark_from first_mark
  mark_end i e =
      let none : n - i ≡ 0 = omega arith in
      rw (none, e)

-- ---- lists by index

joined_cong : (n : ℕ) (f g : ℕ → List ℕ) → ((i : ℕ) → i < n → f i ≡ g i) → joined n f ≡ joined n g
joined_cong zero f g h = refl
joined_cong (suc n) f g h =
    let e : f zero ≡ g zero = h zero (omega arith) in
    let r : joined n (λ k. f (suc k)) ≡ joined n (λ k. g (suc k)) = joined_cong n (λ k. f (suc k)) (λ k. g (suc k)) (λ i l. h (suc i) (omega arith)) in
    cc

-- f i ++ .. ++ f (n - 1)
pub joined_from : ℕ → (ℕ → List ℕ) → ℕ → List ℕ
joined_from n f i = joined (n - i) (λ k. f (i + k))

module _ (n : ℕ) (f : ℕ → List ℕ) where
  pub joined_start : joined n f ≡ joined_from n f 0
  unfolding joined_from
  joined_start =
      let all : n - 0 ≡ n = omega arith in
      rw all (joined_cong n f (λ k. f (0 + k)) (λ k h. ap f (omega arith)))

  joined_next : (i : ℕ) → i < n → joined_from n f i ≡ f i ++ joined_from n f (i + 1)
  unfolding joined_from
  joined_next i l = from (n - i) (n - (i + 1)) (omega arith)
    where
      from : (a b : ℕ) → a ≡ suc b → joined a (λ k. f (i + k)) ≡ f i ++ joined b (λ k. f (i + 1 + k))
      from a b e =
          rw (e, add-zero)
          (ap (λ (l : List ℕ). f i ++ l) (joined_cong b (λ k. f (i + suc k)) (λ k. f (i + 1 + k)) (λ k h. ap f (omega arith))))

  -- a walk over f i stopped at s
  module _ (i line : ℕ) (l : i < n) (s : Stop) (e : s ≡ first_mark (f i) line) where
    pub joined_here : (s.number ≡ 0 → ⊥) → s ≡ first_mark (joined_from n f i) line
    joined_here differs = rw (joined_next i l) (stop_here (f i) (joined_from n f (i + 1)) line s e differs)

    pub joined_on : s.number ≡ 0 → first_mark (joined_from n f i) line ≡ first_mark (joined_from n f (i + 1)) s.line
    joined_on z = rw (joined_next i l) (sym (go_on (f i) (joined_from n f (i + 1)) line s e z))

  pub joined_end : (i line : ℕ) → n ≤ i → first_mark (joined_from n f i) line ≡ stop 0 line
  unfolding joined_from first_mark
  joined_end i line l =
      let none : n - i ≡ 0 = omega arith in
      rw none
