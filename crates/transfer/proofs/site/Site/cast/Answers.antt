-- `transfer::site::Site::cast` meets its contract. Assumes nothing.
use mathlib.Core.Path.{◌≡◌}
use mathlib.Core.Bool.{◌&&◌}
use Prim.Native.Nat.{ℕ}
use Rattle.mask.specs.Mask.{has}
use Rattle.flow.specs.Claim.{register_at}
use Rattle.flow.specs.Rules.{cast_into}
use Rattle.slots.specs.Layout.{claim_in}
use Rattle.raise.specs.Inside.{passes_cast}
use Rattle.transfer.proofs.Written.{gives_cast}
use Rattle.transfer.proofs.Raising.{raised_after}
use Rattle.transfer.specs.Site.{program_of}
use Rattle.transfer.proofs.site.Site.cast.Goals as goal

pub returns : goal.returns
returns c =
    record {
      raised = λ la formed lm lp.
          let a = c.args in
          let s = a.self.now in
          let p = program_of s in
          let cl = claim_in a.w.now in
          let bits : (k : ℕ) → has c.passing_by-value.result k ≡ has (cl (register_at s.method s.address a.register)) k && passes_cast p a.class k =
          rw c.mask-mask.ensures.value at c.passing_by-value.ensures.bits in
          raised_after _ _ _ _ _ _ _
          (c.written-new.ensures.raised (cast_into p s.method s.address a.register a.class)
          (gives_cast p s.method s.address a.register a.class c.passing_by-value.result cl bits)
          formed
          lm
          lp
          la)
          (c.cast_failed.ensures.raised formed lm);
    }
