-- The classes in a mask that are at or below a class, and those that have a field. Assumes nothing.
use mathlib.Core.Path.{◌≡◌, sym, ap, ◌∙◌}
use mathlib.Core.Bool.{false, ◌&&◌}
use Prim.Native.Nat.{ℕ, ◌≤◌, ◌<◌}
use native.Mathlib.Omega.{arith}
use lib.Dec.{ltb}
use lib.ListN.{get_or-eq_default}
use borrow.Author.Tests.{ltb-true, ltb-false}
use Rattle.text.proofs.Cases.{by_test}
use Rattle.mask.specs.declared.Mask.{Mask}
use Rattle.mask.specs.Mask.{has}
use Rattle.program.specs.Program.{Program, class_count, field_count, field_class}
use Rattle.search.specs.Search.{below, has_field}
use Rattle.search.proofs.Searches.{has_field_in, has_field_out}
use Rattle.search.proofs.Upward.{below_less}

module _ (p : Program) (few : class_count p ≤ 60) (k x : ℕ) where
  -- a field that the program does not have is of class 255
  no_class_lem : field_count p ≤ x → k < class_count p → below p k (field_class p x) ≡ false
  no_class_lem out l =
      let far : field_class p x ≡ 255 = get_or-eq_default p.fields 255 out in
      below_less p k (field_class p x) (omega (arith, far))

  -- a class has a field where it is at or below the field's class
  pub having : ltb k (class_count p) && below p k (field_class p x) ≡ ltb k (class_count p) && has_field p k x
  having =
      by_test (ltb x (field_count p))
      (λ t. ap (◌&&◌ (ltb k (class_count p))) (sym (has_field_in p k x (ltb-true x (field_count p) t))))
      (λ t.
      by_test (ltb k (class_count p))
      (λ h.
      let out : field_count p ≤ x = ltb-false x (field_count p) t in
      ap (◌&&◌ (ltb k (class_count p))) (no_class_lem out (ltb-true k (class_count p) h) ∙ sym (has_field_out p k x out)))
      (λ h. rw h))

-- a mask of those in another that are in a set: of the classes at or below a class, and of a field's class
module _ (p : Program) (mask own set : Mask) (bits : (k : ℕ) → has set k ≡ has mask k && has own k) (c : ℕ)
    (at_or_below : (k : ℕ) → has own k ≡ ltb k (class_count p) && below p k c) (k : ℕ) where
  pub below_in_lem : has set k ≡ has mask k && (ltb k (class_count p) && below p k c)
  below_in_lem = bits k ∙ ap (◌&&◌ (has mask k)) (at_or_below k)

  pub having_in : (few : class_count p ≤ 60) (x : ℕ) → c ≡ field_class p x
      → has set k ≡ has mask k && (ltb k (class_count p) && has_field p k x)
  having_in few x is =
      below_in_lem
      ∙ ap (λ (i : ℕ). has mask k && (ltb k (class_count p) && below p k i)) is
      ∙ ap (◌&&◌ (has mask k)) (having p few k x)
