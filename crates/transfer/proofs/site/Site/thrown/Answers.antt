-- `transfer::site::Site::thrown` meets its contract. Assumes nothing.
use mathlib.Core.Path.{◌≡◌, ◌∙◌}
use mathlib.Core.Bool.{◌&&◌}
use Prim.Native.Nat.{ℕ}
use lib.Dec.{ltb}
use Rattle.mask.specs.Mask.{has}
use Rattle.program.specs.Program.{class_count}
use Rattle.search.specs.Search.{below}
use Rattle.flow.specs.Claim.{register_at}
use Rattle.slots.specs.Layout.{claim_in}
use Rattle.transfer.proofs.Stored.{thrown_raised}
use Rattle.transfer.proofs.Raising.{raised_beside}
use Rattle.transfer.specs.Site.{program_of}
use Rattle.transfer.proofs.site.Site.thrown.Goals as goal

pub returns : goal.returns
returns c =
    record {
      raised = λ formed lm.
          let a = c.args in
          let s = a.self.now in
          let p = program_of s in
          let cl = claim_in a.w.now in
          let from = cl (register_at s.method s.address a.from) in
          let bits : (k : ℕ) → has c.common-throwable.result k ≡ has from k && (ltb k (class_count p) && below p k 1) =
          λ k. c.common-throwable.ensures.bits k ∙ rw (c.below.ensures.bits k, c.mask-mask.ensures.value) in
          raised_beside _ _ _ _ _ _ _
          (thrown_raised p s.method s.address a.from c.common-throwable.result cl _ bits (c.raised_by-new.ensures.raised formed lm))
          (c.null_used.ensures.raised formed lm);
    }
