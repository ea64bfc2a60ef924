-- `transfer::site::Site::come_back` meets its contract. Assumes nothing.
use Prim.Native.Nat.{suc}
use native.Mathlib.Numerals.{add-one}
use Rattle.flow.specs.Claim.{result_at, returned_by}
use Rattle.flow.specs.Flows.{◌⊆◌, ◌&◌}
use Rattle.flow.specs.Rules.{leaving_classes, into_handler, into_leaving}
use Rattle.slots.specs.Layout.{claim_in}
use Rattle.order.proofs.Raising.{raised_both, raised_into}
use Rattle.raise.proofs.Places.{own_inside}
use Rattle.transfer.proofs.Stored.{leaving_raised}
use Rattle.transfer.specs.Site.{program_of}
use Rattle.transfer.proofs.site.Site.come_back.Goals as goal

pub returns : goal.returns
returns c =
    record {
      raised = λ formed lm lp.
          let a = c.args in
          let s = a.self.now in
          let p = program_of s in
          let from = returned_by a.q in
          let into = result_at s.method (suc s.address) in
          let joined = rw (add-one s.address, c.mask-value.ensures.value) at c.join.ensures.joined in
          raised_both (from ⊆ into)
          (leaving_classes p s.method s.address a.q (into_handler p s.method s.address)
          & leaving_classes p s.method s.address a.q (into_leaving p s.method s.address))
          _
          _
          _
          (raised_into from into (claim_in a.w.now) _ (joined (own_inside p formed into (lm, lp))))
          (leaving_raised p s.method s.address a.q _ _ (rw c.mask-out.ensures.value at (c.raised_by.ensures.raised formed lm)));
    }
