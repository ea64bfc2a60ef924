-- The classes in a mask that lead to a method, as a set. Assumes nothing.
use mathlib.Core.Path.{◌≡◌, refl, sym, ◌∙◌}
use mathlib.Core.Bool.{Bool, true, false, false≢true, not, ◌&&◌, ◌||◌}
use Prim.Native.Nat.{ℕ, ◌<◌}
use lib.Dec.{ltb}
use borrow.Author.Tests.{lt-ltb, ltb-true}
use Rattle.text.proofs.Cases.{by_test}
use Rattle.instruction.proofs.Flags.{both_true, if_use, if_true}
use Rattle.mask.specs.declared.Mask.{Mask}
use Rattle.mask.specs.Mask.{has, every, is_empty, subset}
use Rattle.mask.proofs.Laws.{same_test, every_at, every_all, empty_subset, subset_at, subset_all}
use Rattle.mask.proofs.Sets.{no_bit}
use Rattle.program.specs.Program.{Program, class_count, method_count}
use Rattle.search.specs.Search.{virtual_callee}
use Rattle.machine.proofs.Found.{callee_fits}
use Rattle.flow.specs.Flows.{some, is_found}
use Rattle.flow.proofs.Callees.{some_at, some_one, found_is}
use Rattle.slots.specs.Layout.{mask_of}
use Rattle.sets.specs.Sets.{leads_to}

-- ---- the set of the numbers below n that pass a test
module _ (n : ℕ) (r : Mask) (test : ℕ → Bool) (bits : (k : ℕ) → has r k ≡ ltb k n && test k) where
  pub set_within : (into : Mask) → subset r into ≡ every n (λ k. not (test k) || has into k)
  set_within into =
      same_test (subset r into) (every n (λ k. not (test k) || has into k))
      (λ e. every_all n (λ k. not (test k) || has into k)
      (λ k l. if_true (test k) (has into k)
      (λ t. subset_at r into e k (bits k ∙ rw (t, lt-ltb k n l)))))
      (λ e. subset_all r into
      (λ k h.
      let (l, t) = both_true (ltb k n) (test k) (sym (bits k) ∙ h) in
      if_use (test k) (has into k) (every_at n (λ k. not (test k) || has into k) e k (ltb-true k n l)) t))

  set_none : subset r (mask_of 0) ≡ true → some n test ≡ false
  set_none e =
      by_test (some n test)
      (λ t.
      let (k, l, h) = some_one n test t in
      absurd (false≢true (sym (no_bit k) ∙ subset_at r (mask_of 0) e k (bits k ∙ rw (h, lt-ltb k n l)))))
      (λ t. t)

  set_some : subset r (mask_of 0) ≡ false → some n test ≡ true
  set_some e =
      by_test (some n test)
      (λ t. t)
      (λ t.
      absurd
      (false≢true
      (sym e
      ∙ subset_all r (mask_of 0)
      (λ k h.
      let (l, g) = both_true (ltb k n) (test k) (sym (bits k) ∙ h) in
      absurd (false≢true (sym t ∙ some_at n test k (ltb-true k n l) g))))))

pub swap_first : (a b c : Bool) → a && (b && c) ≡ b && (a && c)
swap_first true b c = refl
swap_first false true c = refl
swap_first false false c = refl

module _ (p : Program) (mask : Mask) (name count q : ℕ) where
  -- class k in the mask leads to method q
  abbrev pub to : ℕ → Bool
  to k = has mask k && is_found (virtual_callee p k name count) q

  module _ (r : Mask) (bits : (k : ℕ) → has r k ≡ ltb k (class_count p) && to k) where
    pub none_lead : subset r (mask_of 0) ≡ true → leads_to p mask name count q ≡ false
    unfolding leads_to
    none_lead none = set_none (class_count p) r to bits none

    pub one_leads : subset r (mask_of 0) ≡ false → leads_to p mask name count q ≡ true
    unfolding leads_to
    one_leads one = set_some (class_count p) r to bits one

    -- the set is empty just where none does
    pub not_empty_leads : not (is_empty r) ≡ leads_to p mask name count q
    not_empty_leads =
        by_test (subset r (mask_of 0))
        (λ t. rw (empty_subset r (mask_of 0) no_bit, t) (sym (none_lead t)))
        (λ t. rw (empty_subset r (mask_of 0) no_bit, t) (sym (one_leads t)))

  -- only methods of the program are led to
  pub leads_few : leads_to p mask name count q ≡ true → q < method_count p
  unfolding leads_to
  leads_few e =
      let (k, l, t) = some_one (class_count p) to e in
      (callee_fits p name count q k (found_is (virtual_callee p k name count) q (both_true (has mask k) (is_found (virtual_callee p k name count) q) t).1)).0
