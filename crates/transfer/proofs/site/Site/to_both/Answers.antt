-- `transfer::site::Site::to_both` meets its contract. Assumes nothing.
use Prim.Native.Nat.{suc}
use Rattle.flow.specs.Flows.{◌&◌}
use Rattle.flow.specs.Rules.{onward}
use Rattle.order.specs.Raised.{nothing}
use Rattle.order.proofs.Raising.{raised_both}
use Rattle.transfer.specs.Site.{program_of}
use Rattle.transfer.proofs.site.Site.to_both.Goals as goal

pub returns : goal.returns
returns c =
    record {
      raised = λ there formed lm lp.
          let a = c.args in
          let s = a.self.now in
          let p = program_of s in
          raised_both (onward p s.method s.address (suc s.address)) (onward p s.method s.address a.target & nothing) _ _ _
          (c.onward-new.ensures.raised formed lm lp) (c.to_target.ensures.raised formed lm there);
    }
