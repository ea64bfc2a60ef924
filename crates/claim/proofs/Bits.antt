-- The masks of the claim with all allowed bits. Assumes nothing.
use mathlib.Core.Path.{◌≡◌, sym, ◌∙◌}
use mathlib.Core.Bool.{false}
use Prim.Native.Nat.{ℕ, ◌≤◌}
use native.Mathlib.Omega.{arith}
use lib.Dec.{ltb}
use borrow.Author.Tests.{ltb-true, ltb-false, le-ltb, ne_eqb}
use Rattle.text.proofs.Cases.{by_test}
use Rattle.mask.specs.Mask.{zero_bit, other_bit, has}
use Rattle.mask.proofs.Laws.{past_has}
use Rattle.mask.proofs.Sets.{where_has}
use Rattle.program.specs.Program.{Program, class_count}
use Rattle.flow.specs.Claim.{Slot, register_at, result_at, field_of, static_of, returned_by, leaving}
use Rattle.claim.specs.Allowed.{value_bit, allowed, full_claim}

module _ (p : Program) (few : class_count p ≤ 60) where
  -- no bit past the last is allowed
  past_value : (k : ℕ) → 64 ≤ k → value_bit p k ≡ false
  past_value k l = rw (le-ltb k (class_count p) (omega arith), ne_eqb k zero_bit (omega arith), ne_eqb k other_bit (omega arith))

  past_allowed : (s : Slot) (k : ℕ) → 64 ≤ k → allowed p s k ≡ false
  past_allowed (register_at m pc r) k l = past_value k l
  past_allowed (result_at m pc) k l = past_value k l
  past_allowed (field_of c x) k l = past_value k l
  past_allowed (static_of x) k l = past_value k l
  past_allowed (returned_by m) k l = past_value k l
  past_allowed (leaving m) k l = le-ltb k (class_count p) (omega arith)

  -- its masks have exactly the allowed bits
  pub full_has : (s : Slot) (k : ℕ) → has (full_claim p s) k ≡ allowed p s k
  unfolding full_claim
  full_has s k =
      by_test (ltb k 64)
      (λ t. where_has (allowed p s) k (ltb-true k 64 t))
      (λ t. past_has _ k (ltb-false k 64 t) ∙ sym (past_allowed s k (ltb-false k 64 t)))
