-- What the checker says of the text that is written: it accepts it, whole, and each of its masks is a subset of that mask in every claim
-- text that the checker accepts for the program. Assumes nothing.
use mathlib.Core.Path.{◌≡◌, refl}
use mathlib.Core.List.{List}
use Prim.Native.Nat.{ℕ, ◌≤◌}
use lib.Dec.{ltb}
use borrow.Author.Tests.{le-ltb}
use Rattle.text.proofs.Cases.{by_test, never}
use Rattle.program.specs.Program.{Program}
use Rattle.machine.specs.History.{Made}
use Rattle.flow.specs.Claim.{Claim}
use Rattle.flow.specs.Verdict.{Verdict, accepted, violated, verdict}
use Rattle.flow.specs.Calls.{call_list}
use Rattle.slots.specs.Layout.{claim_in}
use Rattle.claim.specs.ReadClaim.{taken as claim_taken, read_claim}
use Rattle.order.specs.Order.{Below}
use Rattle.checker.specs.Check.{short, kept, decided, judged, checking}
use Rattle.writer.specs.Claimed.{LeastFor}

-- the checker accepts it, with any memory that it takes
pub checks : (program claim : List ℕ) (l : LeastFor program claim) (size : ℕ) → 24576 ≤ size
    → checking program claim size ≡ kept (call_list l.p (claim_in l.masks))
unfolding checking
checks program claim l size enough =
    rw (l.program_read, l.claim_read, le-ltb size 24576 enough, l.least.accepting)

-- a claim that the rules accept is one that the verdict accepts
decided_kept : (p : Program) (c : Claim) (calls : List Made) (v : Verdict) → decided p c v ≡ kept calls → v ≡ accepted
decided_kept p c calls accepted e = refl
decided_kept p c calls (violated rule method address) e = never (cc)

judged_kept : (p : Program) (c : Claim) (size : ℕ) (calls : List Made) → judged p c size ≡ kept calls → verdict p c ≡ accepted
judged_kept p c size calls e =
    by_test (ltb size 24576)
    (λ t. let none : short ≡ kept calls = rw t at e in never (cc))
    (λ t. decided_kept p c calls (verdict p c) (rw t at e))

-- no accepted claim text has less
pub below_checked : (program claim other : List ℕ) (l : LeastFor program claim) (masks : List ℕ) (size : ℕ) (calls : List Made)
    → read_claim l.p other ≡ claim_taken masks → checking program other size ≡ kept calls
    → Below (claim_in l.masks) (claim_in masks)
unfolding checking
below_checked program claim other l masks size calls read e =
    l.least.below (claim_in masks) (judged_kept l.p (claim_in masks) size calls (rw (l.program_read, read) at e))
