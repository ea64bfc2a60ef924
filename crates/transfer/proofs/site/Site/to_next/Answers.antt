-- `transfer::site::Site::to_next` meets its contract. Assumes nothing.
use Prim.Native.Nat.{suc}
use Rattle.flow.specs.Rules.{onward}
use Rattle.transfer.proofs.Stored.{raised_last}
use Rattle.transfer.specs.Site.{program_of}
use Rattle.transfer.proofs.site.Site.to_next.Goals as goal

pub returns : goal.returns
returns c =
    record {
      raised = λ formed lm lp.
          let a = c.args in
          let s = a.self.now in
          raised_last (onward (program_of s) s.method s.address (suc s.address)) _ _
          (c.onward.ensures.raised formed lm lp);
    }
