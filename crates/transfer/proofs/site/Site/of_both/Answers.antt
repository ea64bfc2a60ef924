-- `transfer::site::Site::of_both` meets its contract. Assumes nothing.
use Prim.Native.Nat.{suc}
use Rattle.flow.specs.Claim.{register_at}
use Rattle.flow.specs.Flows.{numeric}
use Rattle.flow.specs.Rules.{numbers_into}
use Rattle.slots.specs.Layout.{claim_in}
use Rattle.transfer.proofs.Written.{gives_numeric}
use Rattle.transfer.specs.Site.{program_of}
use Rattle.transfer.proofs.site.Site.of_both.Goals as goal

pub returns : goal.returns
returns c =
    let a = c.args in
    let s = a.self.now in
    let left = register_at s.method s.address a.left in
    let right = register_at s.method s.address a.right in
    record {
      raised = c.written.ensures.raised (numeric left (numeric right (numbers_into (program_of s) s.method s.address a.to)))
          (gives_numeric left right (register_at s.method (suc s.address) a.to) c.of_numbers.result (claim_in a.w.now)
          (rw (c.mask-b.ensures.value, c.mask-a.ensures.value) at c.of_numbers.ensures.bits));
    }
