-- The way upward from a class: as the class number falls at each step, any number of steps that is not less than it gives the
-- same answer, so that one step may be taken at a time. Assumes nothing.
use mathlib.Core.Path.{◌≡◌, refl, sym, ap, ◌∙◌}
use mathlib.Core.Bool.{Bool, true, false, ◌&&◌, ◌||◌}
use Prim.Native.Nat.{ℕ, zero, suc, ◌≤◌, ◌<◌, zero-le}
use native.Mathlib.Omega.{arith}
use lib.Dec.{eqb, ltb}
use borrow.Author.Tests.{ltb-true, lt-ltb, le-ltb, eqb-true, eqb-false, eq-eqb, ne_eqb}
use Rattle.std.specs.Prelude.{Option, Some, None}
use Rattle.std.specs.Option.{option_or}
use Rattle.instruction.specs.Word.{pick}
use Rattle.program.specs.Program.{Program, superclass}
use Rattle.search.specs.Search.{below_in, below, method_in, callee_in, virtual_callee}

-- an answer by steps: `own c rest` at class c, where the rest is the answer from above, or `none` where the way ends
module _ {A : Type 0} (up : ℕ → ℕ) (own : ℕ → A → A) (none : A) (answer : ℕ → ℕ → A)
    (start : (c : ℕ) → answer zero c ≡ own c none)
    (more : (n c : ℕ) → answer (suc n) c ≡ own c (pick (ltb (up c) c) (answer n (up c)) none)) where
  same_above : (m n c : ℕ) (t : Bool) → ltb (up c) c ≡ t → (up c < c → answer m (up c) ≡ answer n (up c)) → pick t (answer m (up c)) none ≡ pick t (answer n (up c)) none
  same_above m n c true e h = h (ltb-true (up c) c e)
  same_above m n c false e h = refl

  -- at class 0 the way ends
  at_zero : (n : ℕ) → answer (suc n) zero ≡ answer zero zero
  at_zero n = rw (more n zero, le-ltb (up zero) zero zero-le) (sym (start zero))

  same : (m n c : ℕ) → c ≤ m → c ≤ n → answer m c ≡ answer n c
  same zero zero c l k = refl
  same zero (suc n) zero l k = sym (at_zero n)
  same zero (suc n) (suc c) l k = absurd (omega arith)
  same (suc m) zero zero l k = at_zero m
  same (suc m) zero (suc c) l k = absurd (omega arith)
  same (suc m) (suc n) c l k =
      more m c
      ∙ ap (own c) (same_above m n c (ltb (up c) c) refl (λ h. same m n (up c) (omega arith) (omega arith)))
      ∙ sym (more n c)

  -- with as many steps as the class number
  one_step : (c : ℕ) → answer c c ≡ own c (pick (ltb (up c) c) (answer (up c) (up c)) none)
  one_step zero = rw (le-ltb (up zero) zero zero-le) (start zero)
  one_step (suc c) =
      more c (suc c)
      ∙ ap (own (suc c)) (same_above c (up (suc c)) (suc c) (ltb (up (suc c)) (suc c)) refl (λ h. same c (up (suc c)) (up (suc c)) (omega arith) (omega arith)))

or_false : (b : Bool) → b ≡ b || false
or_false true = refl
or_false false = refl

and_pick : (b c : Bool) → b && c ≡ pick b c false
and_pick true c = refl
and_pick false c = refl

or_missing : (r : Option ℕ) → r ≡ option_or r None
or_missing (Some m) = refl
or_missing None = refl

and_unless : (b c : Bool) → (b ≡ true → c ≡ false) → b && c ≡ false
and_unless true c h = h refl
and_unless false c h = refl

module _ (p : Program) where
  -- no class is below one of a greater number
  less_in : (n c top : ℕ) → c < top → below_in n p c top ≡ false
  unfolding below_in
  less_in zero c top l = ne_eqb c top (omega arith)
  less_in (suc n) c top l =
      rw (ne_eqb c top (omega arith))
      (and_unless (ltb (superclass p c) c) (below_in n p (superclass p c) top)
      (λ t. less_in n (superclass p c) top (omega (arith, ltb-true (superclass p c) c t))))

  pub below_less : (c top : ℕ) → c < top → below p c top ≡ false
  below_less c top l = less_in c c top l

  module _ (c top : ℕ) where
    pub below_step : below p c top ≡ eqb c top || pick (ltb (superclass p c) c) (below p (superclass p c) top) false
    unfolding below_in
    below_step =
        one_step (superclass p) (λ k r. eqb k top || r) false (λ n k. below_in n p k top) (λ k. or_false (eqb k top))
        (λ n k. ap (λ (b : Bool). eqb k top || b) (and_pick (ltb (superclass p k) k) (below_in n p (superclass p k) top)))
        c

    -- a class is below itself
    pub below_self : c ≡ top → below p c top ≡ true
    below_self same = rw (below_step, eq-eqb c top same)

    -- so that of a number that is not greater only it is
    none_lower : (b : Bool) → eqb c top ≡ b → c ≤ top → b ≡ below p c top
    none_lower true e l = sym (below_self (eqb-true c top e))
    none_lower false e l = sym (below_less c top (omega (arith, l, eqb-false c top e)))

    pub below_lower : c ≤ top → eqb c top ≡ below p c top
    below_lower l = none_lower (eqb c top) refl l

    -- another, of superclass s
    module _ (other : c ≡ top → ⊥) (s : ℕ) (e : s ≡ superclass p c) where
      pub below_above : s < c → below p c top ≡ below p s top
      below_above l = rw (e, below_step, ne_eqb c top other, lt-ltb (superclass p c) c (rw e at l))

      pub below_end : c ≤ s → below p c top ≡ false
      below_end l = rw (below_step, ne_eqb c top other, le-ltb (superclass p c) c (rw e at l))

  module _ (c name count : ℕ) where
    pub callee_step : virtual_callee p c name count ≡ option_or (method_in p c name count) (pick (ltb (superclass p c) c) (virtual_callee p (superclass p c) name count) None)
    unfolding callee_in
    callee_step =
        one_step (superclass p) (λ k r. option_or (method_in p k name count) r) None (λ n k. callee_in n p k name count)
        (λ k. or_missing (method_in p k name count))
        (λ n k. refl)
        c

    -- class c itself has one
    pub callee_own : (m : ℕ) → method_in p c name count ≡ Some m → virtual_callee p c name count ≡ Some m
    callee_own m e = rw (callee_step, e)

    -- it has none, and its superclass is s
    module _ (missing : method_in p c name count ≡ None) (s : ℕ) (e : s ≡ superclass p c) where
      pub callee_above : s < c → virtual_callee p c name count ≡ virtual_callee p s name count
      callee_above l = rw (e, callee_step, missing, lt-ltb (superclass p c) c (rw e at l))

      pub callee_end : c ≤ s → virtual_callee p c name count ≡ None
      callee_end l = rw (callee_step, missing, le-ltb (superclass p c) c (rw e at l))
