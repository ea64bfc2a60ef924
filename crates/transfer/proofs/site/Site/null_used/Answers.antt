-- `transfer::site::Site::null_used` meets its contract. Assumes nothing.
use native.Mathlib.Omega.{arith}
use mathlib.Core.Path.{◌≡◌, ap, ◌∙◌}
use Rattle.mask.specs.declared.Mask.{Mask}
use Rattle.mask.specs.Mask.{has}
use Rattle.flow.specs.Claim.{register_at}
use Rattle.slots.specs.Layout.{claim_in}
use Rattle.transfer.proofs.Raising.{null_raised}
use Rattle.transfer.specs.Site.{program_of}
use Rattle.transfer.proofs.site.Site.null_used.Goals as goal

pub returns : goal.returns
returns c =
    record {
      raised = λ formed lm.
          let a = c.args in
          let s = a.self.now in
          let p = program_of s in
          let cl = claim_in a.w.now in
          let is : c.has.result ≡ has (cl (register_at s.method s.address a.object)) 62 =
          c.has.ensures.value ∙ ap (λ (x : Mask). has x 62) c.mask-mask.ensures.value in
          null_raised p s.method s.address cl _ c.has.result a.object is (c.own_by.ensures.raised (omega arith) formed lm);
    }
