-- A claim that has risen, and how many bits it may still get. Definitions only, and none that a reader of the public promise has to
-- believe.
use Rattle.std.specs.Prelude.{◌≡◌, ℕ, zero, suc, ◌+◌}
use Rattle.instruction.specs.Word.{pick}
use Rattle.mask.specs.Mask.{has}
use Rattle.program.specs.Program.{Program}
use Rattle.flow.specs.Claim.{Claim}
use Rattle.flow.specs.Rules.{rules_at}
use Rattle.flow.specs.Verdict.{accepted, verdict}
use Rattle.slots.specs.Layout.{slot_at}
use Rattle.order.specs.Order.{Below}
use Rattle.order.specs.Raised.{Goes, all_of}

-- claim d is claim c raised, by the rules at address pc of method m at least, and still below every accepted claim that c is below
pub record Risen (p : Program) (m pc : ℕ) (c d : Claim) : Type 0 where
  pub grows : Below c d
  pub asked : Goes c d (all_of (rules_at p m pc))
  pub under : (e : Claim) → verdict p e ≡ accepted → Below c e → Below d e

-- the same of no address in particular: what the order of the work may do
pub record Upward (p : Program) (c d : Claim) : Type 0 where
  pub grows : Below c d
  pub under : (e : Claim) → verdict p e ≡ accepted → Below c e → Below d e

-- g 0 + g 1 + .. + g (n - 1)
unfoldable pub total : ℕ → (ℕ → ℕ) → ℕ
total zero g = 0
total (suc n) g = g n + total n g

-- how many bits are not in the masks
unfoldable pub room : Claim → ℕ
room c = total 9712 (λ i. total 64 (λ k. pick (has (c (slot_at i)) k) 0 1))
