-- `transfer::site::Site::field_read` meets its contract. Assumes nothing.
use mathlib.Core.Path.{◌≡◌}
use mathlib.Core.Bool.{◌&&◌}
use Prim.Native.Nat.{ℕ, suc}
use lib.Dec.{ltb}
use Rattle.mask.specs.Mask.{has}
use Rattle.program.specs.Program.{class_count}
use Rattle.program.proofs.Read.{classes_limit}
use Rattle.search.specs.Search.{has_field}
use Rattle.flow.specs.Claim.{register_at, field_of}
use Rattle.flow.specs.Flows.{◌⊆◌}
use Rattle.flow.specs.Rules.{classes_with_field}
use Rattle.slots.specs.Layout.{claim_in}
use Rattle.transfer.proofs.Written.{gives_fields}
use Rattle.transfer.proofs.Raising.{raised_after}
use Rattle.transfer.specs.Site.{program_of}
use Rattle.transfer.proofs.site.Site.field_read.Goals as goal

pub returns : goal.returns
returns c =
    record {
      raised = λ la formed lm lp.
          let a = c.args in
          let s = a.self.now in
          let p = program_of s in
          let cl = claim_in a.w.now in
          let after = register_at s.method (suc s.address) a.to in
          let object = cl (register_at s.method s.address a.object) in
          let bits : (k : ℕ) → has c.with_field-having.result k ≡ has object k && (ltb k (class_count p) && has_field p k a.field) =
          rw c.mask-mask.ensures.value at c.with_field-having.ensures.bits in
          raised_after _ _ _ _ _ _ _
          (c.written-new.ensures.raised (classes_with_field p s.method s.address a.object a.field (λ k. field_of k a.field ⊆ after))
          (gives_fields p s.method s.address a.object a.field (classes_limit s.sets.now.tables.now) c.with_field-having.result c.from_fields-value.result cl bits
          c.from_fields-value.ensures.bits
          after)
          formed
          lm
          lp
          la)
          (c.null_used.ensures.raised formed lm);
    }
