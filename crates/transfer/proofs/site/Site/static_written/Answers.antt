-- `transfer::site::Site::static_written` meets its contract. Assumes nothing.
use Prim.Native.Nat.{suc}
use Rattle.flow.specs.Claim.{register_at, static_of}
use Rattle.flow.specs.Flows.{◌⊆◌, ◌&◌}
use Rattle.flow.specs.Rules.{onward}
use Rattle.order.specs.Raised.{nothing}
use Rattle.order.proofs.Raising.{raised_both, raised_into}
use Rattle.raise.proofs.Places.{own_inside}
use Rattle.transfer.proofs.Stored.{raised_last}
use Rattle.transfer.specs.Site.{program_of}
use Rattle.transfer.proofs.site.Site.static_written.Goals as goal

pub returns : goal.returns
returns c =
    record {
      raised = λ there formed lm lp.
          let a = c.args in
          let s = a.self.now in
          let p = program_of s in
          let here = register_at s.method s.address a.from in
          let into = static_of a.place in
          raised_both (onward p s.method s.address (suc s.address)) (here ⊆ into & nothing) _ _ _
          (c.onward-new.ensures.raised formed lm lp)
          (raised_last (here ⊆ into) _ _
          (raised_into here into _ _ (rw c.mask-value.ensures.value at (c.join.ensures.joined (own_inside p formed into there)))));
    }
