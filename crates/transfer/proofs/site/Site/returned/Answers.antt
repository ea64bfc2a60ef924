-- `transfer::site::Site::returned` meets its contract. Assumes nothing.
use Rattle.flow.specs.Claim.{register_at, returned_by}
use Rattle.flow.specs.Flows.{◌⊆◌}
use Rattle.slots.specs.Layout.{claim_in}
use Rattle.order.proofs.Raising.{raised_into}
use Rattle.raise.proofs.Places.{own_inside}
use Rattle.transfer.proofs.Stored.{raised_last}
use Rattle.transfer.specs.Site.{program_of}
use Rattle.transfer.proofs.site.Site.returned.Goals as goal

pub returns : goal.returns
returns c =
    record {
      raised = λ formed lm.
          let a = c.args in
          let s = a.self.now in
          let here = register_at s.method s.address a.from in
          let into = returned_by s.method in
          raised_last (here ⊆ into) _ _
          (raised_into here into (claim_in a.w.now) _
          (rw c.mask-value.ensures.value at (c.join.ensures.joined (own_inside (program_of s) formed into lm))));
    }
