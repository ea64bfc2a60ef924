-- `transfer::site::Site::result_read` meets its contract. Assumes nothing.
use Prim.Native.Nat.{suc}
use Rattle.flow.specs.Claim.{register_at, result_at}
use Rattle.flow.specs.Flows.{◌⊆◌}
use Rattle.slots.specs.Layout.{claim_in}
use Rattle.transfer.proofs.Written.{gives_mask}
use Rattle.transfer.proofs.site.Site.result_read.Goals as goal

pub returns : goal.returns
returns c =
    let a = c.args in
    let s = a.self.now in
    let here = result_at s.method s.address in
    let after = register_at s.method (suc s.address) a.to in
    record { raised = c.written.ensures.raised (here ⊆ after) (rw c.mask-value.ensures.value (gives_mask here after (claim_in a.w.now))) }
