-- `transfer::site::Site::divided_by_zero` meets its contract. Assumes nothing.
use native.Mathlib.Omega.{arith}
use mathlib.Core.Path.{◌≡◌}
use mathlib.Core.Bool.{◌&&◌}
use Rattle.arithmetic.specs.Arithmetic.{divides}
use Rattle.mask.specs.Mask.{has}
use Rattle.flow.specs.Claim.{register_at}
use Rattle.slots.specs.Layout.{claim_in}
use Rattle.transfer.proofs.Raising.{zero_raised}
use Rattle.transfer.specs.Site.{program_of}
use Rattle.transfer.proofs.site.Site.divided_by_zero.Goals as goal
use Rattle.transfer.proofs.site.Site.divided_by_zero.Goals.{then-divides, else-divides}

pub returns : goal.returns
returns c =
    record {
      raised = λ formed lm.
          let a = c.args in
          let s = a.self.now in
          let p = program_of s in
          let cl = claim_in a.w.now in
          let here = has (cl (register_at s.method s.address a.divisor)) 62 in
          let zero : c.if-divides.by_zero ≡ divides a.operation && here =
          elim c.if-divides.branch [
            | then-divides w ↦ rw (w.by_zero-is, ← c.divides.ensures.value, w.if-divides.true, ← c.mask-mask.ensures.value) w.has-by_zero.ensures.value
            | else-divides w ↦ rw (w.by_zero-is, ← c.divides.ensures.value, w.if-divides.false)
          ] in
          zero_raised p s.method s.address cl _ c.if-divides.by_zero a.operation a.divisor zero (c.own_by.ensures.raised (omega arith) formed lm);
    }
