-- Casts that fail: a class in a mask is not at or below the class named. Assumes nothing.
use mathlib.Core.Path.{◌≡◌, refl, sym, ◌∙◌}
use mathlib.Core.Bool.{Bool, true, false, false≢true, not, ◌&&◌}
use Prim.Native.Nat.{ℕ, ◌<◌}
use lib.Dec.{ltb}
use borrow.Author.Tests.{lt-ltb, ltb-true}
use Rattle.instruction.proofs.Flags.{both_true}
use Rattle.mask.specs.declared.Mask.{Mask}
use Rattle.mask.specs.Mask.{has, subset}
use Rattle.mask.proofs.Laws.{subset_at}
use Rattle.mask.proofs.Sets.{no_bit, subset_fails}
use Rattle.program.specs.Program.{Program, class_count}
use Rattle.search.specs.Search.{below}
use Rattle.flow.proofs.Callees.{some_at, some_one}
use Rattle.slots.specs.Layout.{mask_of}
use Rattle.sets.specs.Sets.{fails_cast}

-- ---- by a class
module _ (p : Program) (mask : Mask) (k : ℕ) where
  abbrev fails : ℕ → Bool
  fails j = has mask j && not (below p j k)

  pub fails_at : (j : ℕ) → j < class_count p → has mask j ≡ true → not (below p j k) ≡ true → fails_cast p mask k ≡ true
  unfolding fails_cast
  fails_at j l h b = some_at (class_count p) fails j l (rw (h, b))

  pub fails_one : fails_cast p mask k ≡ true → (j : ℕ) × (j < class_count p) × (has mask j ≡ true) × (not (below p j k) ≡ true)
  unfolding fails_cast
  fails_one e =
      let (j, l, g) = some_one (class_count p) fails e in
      let (h, b) = both_true (has mask j) (not (below p j k)) g in
      (j, l, h, b)

-- ---- by the set of the classes in a mask that are not at or below a class
pub left_out : (a l b : Bool) → (a && l) && not (l && b) ≡ a && (l && not b)
left_out true true b = refl
left_out true false b = refl
left_out false l b = refl

-- the set of the classes that fail it is empty just where none does
module _ (p : Program) (mask others : Mask) (k : ℕ)
    (bits : (j : ℕ) → has others j ≡ has mask j && (ltb j (class_count p) && not (below p j k))) where
  none_fails : subset others (mask_of 0) ≡ true → (t : Bool) → fails_cast p mask k ≡ t → t ≡ false
  none_fails e true f =
      let (j, l, h, b) = fails_one p mask k f in
      absurd (false≢true (sym (no_bit j) ∙ subset_at others (mask_of 0) e j (bits j ∙ rw (h, lt-ltb j (class_count p) l, b))))
  none_fails e false f = refl

  by : (t : Bool) → subset others (mask_of 0) ≡ t → not t ≡ fails_cast p mask k
  by true e = sym (none_fails e (fails_cast p mask k) refl)
  by false e =
      let (j, h, _) = subset_fails others (mask_of 0) e in
      let (a, rest) = both_true (has mask j) (ltb j (class_count p) && not (below p j k)) (sym (bits j) ∙ h) in
      let (l, b) = both_true (ltb j (class_count p)) (not (below p j k)) rest in
      sym (fails_at p mask k j (ltb-true j (class_count p) l) a b)

  pub others_fail : not (subset others (mask_of 0)) ≡ fails_cast p mask k
  others_fail = by (subset others (mask_of 0)) refl
