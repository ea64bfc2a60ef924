-- The least claim by its definition is the least accepted claim: every well-formed program has one, and one only. Assumes nothing.
use mathlib.Core.Path.{◌≡◌, refl}
use mathlib.Core.List.{List}
use Prim.Native.Nat.{ℕ, zero, suc, ◌<◌, ◌≤◌}
use native.Mathlib.Omega.{arith}
use lib.ListN.{length}
use Rattle.program.specs.Program.{Program}
use Rattle.mask.specs.Mask.{has}
use Rattle.reader.specs.Formed.{Formed}
use Rattle.flow.specs.Claim.{Slot, Claim}
use Rattle.flow.specs.Verdict.{Verdict, accepted, violated, verdict}
use Rattle.flow.proofs.Verdicts.{violated_first}
use Rattle.slots.specs.Layout.{claim_size, claim_in, no_masks}
use Rattle.claim.specs.Allowed.{full_claim}
use Rattle.claim.proofs.FullClaim.{full_accepted}
use Rattle.claim.proofs.NoBits.{none_size}
use Rattle.order.specs.Order.{Below, Least}
use Rattle.order.proofs.Common.{least_unique}
use Rattle.fixpoint.specs.Risen.{room}
use Rattle.fixpoint.specs.LeastOf.{once_raised, unless, least_by, least_words}
use Rattle.fixpoint.proofs.Room.{room_most}
use Rattle.fixpoint.proofs.Rises.{none_below, risen_less}
use Rattle.fixpoint.proofs.Once.{once_size, once_under, once_risen}

-- ---- again and again
module _ (p : Program) (formed : Formed p) where
  abbrev Under : List ℕ → Type 0
  Under ws = (e : Claim) → verdict p e ≡ accepted → Below (claim_in ws) e

  less_room : (ws : List ℕ) → length ws ≡ claim_size → Under ws → (i m pc : ℕ) → verdict p (claim_in ws) ≡ violated i m pc
      → room (claim_in (once_raised p ws)) < room (claim_in ws)
  less_room ws size under i m pc e =
      let first = violated_first p (claim_in ws) i m pc e in
      risen_less p i m pc ws (once_raised p ws) (once_size p formed ws) e
      (once_risen p formed ws size (under (full_claim p) (full_accepted p formed)) m pc first.method first.address)

  -- no room left: nothing is broken
  full : (ws : List ℕ) → length ws ≡ claim_size → Under ws → room (claim_in ws) ≤ zero → (v : Verdict) → verdict p (claim_in ws) ≡ v
      → verdict p (claim_in ws) ≡ accepted
  full ws size under few accepted e = e
  full ws size under few (violated i m pc) e = absurd (omega (arith, less_room ws size under i m pc e))

  by_verdict : (ws rest : List ℕ) → Under ws → (v : Verdict) → verdict p (claim_in ws) ≡ v
      → ((i m pc : ℕ) → verdict p (claim_in ws) ≡ violated i m pc → Least p (claim_in rest)) → Least p (claim_in (unless v ws rest))
  by_verdict ws rest under accepted e later = record { accepting = e; below = under }
  by_verdict ws rest under (violated i m pc) e later = later i m pc e

  least_from : (n : ℕ) (ws : List ℕ) → length ws ≡ claim_size → Under ws → room (claim_in ws) ≤ n → Least p (claim_in (least_by n p ws))
  unfolding least_by
  least_from zero ws size under few = record { accepting = full ws size under few (verdict p (claim_in ws)) refl; below = under }
  least_from (suc n) ws size under few =
      by_verdict ws (least_by n p (once_raised p ws)) under (verdict p (claim_in ws)) refl
      (λ i m pc e.
      let less = less_room ws size under i m pc e in
      least_from n (once_raised p ws) (once_size p formed ws) (λ d a. once_under p formed ws size d a (under d a)) (omega (arith, less)))

-- ---- every well-formed program has a least claim, and this is it
pub least_words_lem : (p : Program) → Formed p → Least p (claim_in (least_words p))
unfolding least_words
least_words_lem p formed = least_from p formed 621568 no_masks none_size (λ e a. none_below e) (room_most (claim_in no_masks))

-- and any other least claim has its bits
pub least_same : (p : Program) → Formed p → (c : Claim) → Least p c → (s : Slot) (k : ℕ) → has (c s) k ≡ has (claim_in (least_words p) s) k
least_same p formed c least = least_unique p c (claim_in (least_words p)) least (least_words_lem p formed)
