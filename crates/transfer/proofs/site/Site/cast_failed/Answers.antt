-- `transfer::site::Site::cast_failed` meets its contract. Assumes nothing.
use native.Mathlib.Omega.{arith}
use mathlib.Core.Path.{◌≡◌, ap, ◌∙◌}
use Rattle.mask.specs.declared.Mask.{Mask}
use Rattle.flow.specs.Claim.{register_at}
use Rattle.slots.specs.Layout.{claim_in}
use Rattle.sets.specs.Sets.{fails_cast}
use Rattle.transfer.proofs.Raising.{cast_raised}
use Rattle.transfer.specs.Site.{program_of}
use Rattle.transfer.proofs.site.Site.cast_failed.Goals as goal

pub returns : goal.returns
returns c =
    record {
      raised = λ formed lm.
          let a = c.args in
          let s = a.self.now in
          let p = program_of s in
          let cl = claim_in a.w.now in
          let is : c.fails_cast-fails.result ≡ fails_cast p (cl (register_at s.method s.address a.register)) a.class =
          c.fails_cast-fails.ensures.value ∙ ap (λ (x : Mask). fails_cast p x a.class) c.mask-mask.ensures.value in
          cast_raised p s.method s.address cl _ c.fails_cast-fails.result a.register a.class is (c.own_by.ensures.raised (omega arith) formed lm);
    }
