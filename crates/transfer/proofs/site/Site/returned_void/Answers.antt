-- `transfer::site::Site::returned_void` meets its contract. Assumes nothing.
use native.Mathlib.Omega.{arith}
use Rattle.mask.specs.Mask.{zero_bit}
use Rattle.flow.specs.Claim.{returned_by}
use Rattle.flow.specs.Flows.{◌∈◌}
use Rattle.raise.proofs.Places.{own_inside}
use Rattle.raise.proofs.AtOnce.{raised_one}
use Rattle.transfer.proofs.Stored.{raised_last}
use Rattle.transfer.specs.Site.{program_of}
use Rattle.transfer.proofs.site.Site.returned_void.Goals as goal

pub returns : goal.returns
returns c =
    record {
      raised = λ formed lm.
          let a = c.args in
          let s = a.self.now in
          let into = returned_by s.method in
          raised_last (zero_bit ∈ into) _ _
          (raised_one zero_bit c.of.result into _ _ (omega arith) c.of.ensures.bits
          (c.join.ensures.joined (own_inside (program_of s) formed into lm)));
    }
