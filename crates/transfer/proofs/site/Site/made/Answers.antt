-- `transfer::site::Site::made` meets its contract. Assumes nothing.
use Prim.Native.Nat.{suc}
use Rattle.flow.specs.Claim.{register_at}
use Rattle.flow.specs.Flows.{◌∈◌}
use Rattle.slots.specs.Layout.{claim_in}
use Rattle.raise.proofs.MaskBits.{one_bit}
use Rattle.transfer.proofs.Written.{gives_bit}
use Rattle.transfer.proofs.site.Site.made.Goals as goal

pub returns : goal.returns
returns c =
    record {
      raised = λ few.
          let a = c.args in
          let s = a.self.now in
          let after = register_at s.method (suc s.address) a.to in
          c.written.ensures.raised (a.class ∈ after) (gives_bit a.class c.of.result after (claim_in a.w.now) (one_bit c.of.result a.class few c.of.ensures.bits));
    }
