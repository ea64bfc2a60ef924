-- `transfer::site::Site::numbers` meets its contract. Assumes nothing.
use Prim.Native.Nat.{suc}
use Rattle.flow.specs.Claim.{register_at}
use Rattle.flow.specs.Rules.{numbers_into}
use Rattle.slots.specs.Layout.{claim_in}
use Rattle.transfer.proofs.Written.{gives_numbers}
use Rattle.transfer.specs.Site.{program_of}
use Rattle.transfer.proofs.site.Site.numbers.Goals as goal

pub returns : goal.returns
returns c =
    let a = c.args in
    let s = a.self.now in
    record {
      raised = c.written.ensures.raised (numbers_into (program_of s) s.method s.address a.to)
          (gives_numbers c.both_numbers.result (register_at s.method (suc s.address) a.to) (claim_in a.w.now) c.both_numbers.ensures.bits);
    }
