-- `raise::rows::join_words`: what its loops keep.
use mathlib.Core.Path.{◌≡◌}
use Prim.Native.Nat.{ℕ}
use lib.ListN.{length}
use Rattle.flow.specs.Claim.{Slot}
use Rattle.flow.specs.Flows.{each}
use Rattle.slots.specs.Layout.{claim_size, claim_in}
use Rattle.order.specs.Raised.{Raised}
use Rattle.raise.specs.Inside.{Consecutive, each_into}
use Rattle.raise.proofs.rows.join_words.Given as goal

-- the claim is raised by the flows of the words before the next one
abbrev pub invariant-loop-r : goal.invariant-loop-r
invariant-loop-r l =
    record {
      size : length l.w ≡ claim_size;
      raised : (s t : ℕ → Slot) → Consecutive s l.from l.n → Consecutive t l.into l.n
          → Raised (each l.r (each_into s t)) (claim_in l.initial.w) (claim_in l.w);
    }
