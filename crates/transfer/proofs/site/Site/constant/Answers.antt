-- `transfer::site::Site::constant` meets its contract. Assumes nothing.
use mir.Syntax.{w32}
use mir.ValLaws.{to_z-of_z}
use Prim.Native.Nat.{suc}
use Rattle.flow.specs.Claim.{register_at, number_bit}
use Rattle.flow.specs.Flows.{◌∈◌}
use Rattle.slots.specs.Layout.{claim_in}
use Rattle.transfer.proofs.Written.{gives_bit}
use Rattle.transfer.proofs.site.Site.constant.Goals as goal

pub returns : goal.returns
returns c =
    let a = c.args in
    let s = a.self.now in
    let after = register_at s.method (suc s.address) a.to in
    record {
      raised = c.written.ensures.raised (number_bit a.value ∈ after)
          (gives_bit (number_bit a.value) c.of_number.result after (claim_in a.w.now)
          (rw (to_z-of_z w32 a.value c.ranges.value) at c.of_number.ensures.bits));
    }
