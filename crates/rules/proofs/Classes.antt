-- A test of each class in a mask that passes a guard, made of each class in their set. Assumes nothing.
use mathlib.Core.Path.{◌≡◌, sym, ◌∙◌}
use mathlib.Core.Bool.{Bool, not, ◌&&◌, ◌||◌}
use Prim.Native.Nat.{ℕ, ◌≤◌}
use native.Mathlib.Omega.{arith}
use lib.Dec.{ltb}
use borrow.Author.Tests.{lt-ltb, ltb-true}
use Rattle.instruction.proofs.Flags.{both_true, if_use, if_true}
use Rattle.mask.specs.declared.Mask.{Mask}
use Rattle.mask.specs.Mask.{has, every, subset}
use Rattle.mask.proofs.Laws.{same_test, every_at, every_all}
use Rattle.classes.specs.Fields.{each_of}

-- the set has the numbers below n that are in the mask and pass the guard
module _ (n : ℕ) (set mask : Mask) (guard : ℕ → Bool) (bits : (k : ℕ) → has set k ≡ has mask k && (ltb k n && guard k)) where
  abbrev in_set : (ℕ → Bool) → ℕ → Bool
  in_set test k = not (has set k) || test k

  abbrev guarded : (ℕ → Bool) → ℕ → Bool
  guarded test k = not (has mask k) || (not (guard k) || test k)

  each_guarded : (m : ℕ) → n ≤ m → (test : ℕ → Bool) → every m (in_set test) ≡ every n (guarded test)
  each_guarded m few test =
      same_test (every m (in_set test)) (every n (guarded test))
      (λ e. every_all n (guarded test)
      (λ k l. if_true (has mask k) (not (guard k) || test k)
      (λ h. if_true (guard k) (test k)
      (λ g. if_use (has set k) (test k) (every_at m (in_set test) e k (omega arith)) (bits k ∙ rw (h, lt-ltb k n l, g))))))
      (λ e. every_all m (in_set test)
      (λ k less. if_true (has set k) (test k)
      (λ s.
      let (h, rest) = both_true (has mask k) (ltb k n && guard k) (sym (bits k) ∙ s) in
      let (l, g) = both_true (ltb k n) (guard k) rest in
      let asked = if_use (has mask k) (not (guard k) || test k) (every_at n (guarded test) e k (ltb-true k n l)) h in
      if_use (guard k) (test k) asked g)))

  module _ (few : n ≤ 60) where
    pub of_each : (test : ℕ → Bool) → each_of set test ≡ every n (λ k. not (has mask k) || (not (guard k) || test k))
    unfolding each_of
    of_each test = each_guarded 60 few test

    pub of_subset : (into : Mask) → subset set into ≡ every n (λ k. not (has mask k) || (not (guard k) || has into k))
    unfolding subset
    of_subset into = each_guarded 64 (omega arith) (has into)
