-- Slots without a bit: every slot of the words of a claim with no bit, and every slot past the last word. Assumes nothing.
use mathlib.Core.Path.{◌≡◌}
use mathlib.Core.Bool.{true, false}
use mathlib.Core.List.{List}
use Prim.Native.Nat.{ℕ, ◌≤◌, ◌<◌}
use native.Mathlib.Omega.{arith}
use lib.Dec.{ltb}
use lib.ListN.{length, get_or, length-replicate, get_or-replicate, get_or-eq_default}
use borrow.Author.Tests.{ltb-true, ltb-false}
use Rattle.text.proofs.Cases.{by_test, never}
use Rattle.mask.specs.Mask.{has}
use Rattle.mask.proofs.Sets.{no_bit}
use Rattle.flow.specs.Claim.{Slot}
use Rattle.slots.specs.Layout.{claim_size, place_of, claim_in, no_masks}

-- ---- the words of a claim with no bit
pub none_size : length no_masks ≡ claim_size
unfolding no_masks
none_size = length-replicate {A = ℕ} claim_size 0

none_inside : (i : ℕ) → i < claim_size → get_or no_masks i 0 ≡ 0
unfolding no_masks
none_inside i l = get_or-replicate {A = ℕ} claim_size i 0 0 l

pub none_zero : (i : ℕ) → get_or no_masks i 0 ≡ 0
none_zero i =
    by_test (ltb i claim_size)
    (λ t. none_inside i (ltb-true i claim_size t))
    (λ t. get_or-eq_default no_masks 0 (omega (arith, none_size, ltb-false i claim_size t)))

pub none_has : (s : Slot) (k : ℕ) → has (claim_in no_masks s) k ≡ false
unfolding claim_in
none_has s k = rw (none_zero (place_of s)) (no_bit k)

-- ---- a slot past the last word
module _ (ws : List ℕ) (size : length ws ≡ claim_size) (s : Slot) (k : ℕ) where
  pub past_has : claim_size ≤ place_of s → has (claim_in ws s) k ≡ false
  unfolding claim_in
  past_has l =
      let past : length ws ≤ place_of s = omega arith in
      rw (get_or-eq_default ws 0 past) (no_bit k)

  -- so that a slot with a bit lies inside the words
  pub bit_inside : has (claim_in ws s) k ≡ true → place_of s < claim_size
  bit_inside e =
      by_test (ltb (place_of s) claim_size)
      (λ t. ltb-true (place_of s) claim_size t)
      (λ t. never (cc (past_has (ltb-false (place_of s) claim_size t))))
