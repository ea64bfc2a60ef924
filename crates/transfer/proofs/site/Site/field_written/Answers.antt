-- `transfer::site::Site::field_written` meets its contract. Assumes nothing.
use mathlib.Core.Path.{◌≡◌}
use mathlib.Core.Bool.{true, ◌&&◌}
use Prim.Native.Nat.{ℕ, suc, ◌<◌}
use lib.Dec.{ltb}
use Rattle.mask.specs.Mask.{has}
use Rattle.program.specs.Program.{class_count}
use Rattle.program.proofs.Read.{classes_limit}
use Rattle.search.specs.Search.{has_field}
use Rattle.flow.specs.Claim.{register_at, field_of}
use Rattle.flow.specs.Flows.{◌⊆◌, ◌&◌}
use Rattle.flow.specs.Rules.{onward, classes_with_field}
use Rattle.flow.proofs.Calls.{field_exists}
use Rattle.slots.specs.Layout.{place_of, claim_size, claim_in}
use Rattle.order.specs.Raised.{nothing}
use Rattle.order.proofs.Raising.{raised_both}
use Rattle.raise.proofs.Places.{own_inside}
use Rattle.transfer.proofs.Stored.{raised_last, in_set, stored}
use Rattle.transfer.proofs.Raising.{raised_after}
use Rattle.transfer.specs.Site.{program_of}
use Rattle.transfer.proofs.site.Site.field_written.Goals as goal

pub returns : goal.returns
returns c =
    record {
      raised = λ formed lm lp.
          let a = c.args in
          let s = a.self.now in
          let p = program_of s in
          let here = register_at s.method s.address a.from in
          let f = classes_with_field p s.method s.address a.object a.field (λ k. here ⊆ field_of k a.field) in
          let cl = claim_in c.onward-new.new.w in
          let object = cl (register_at s.method s.address a.object) in
          let bits : (k : ℕ) → has c.with_field-having.result k ≡ has object k && (ltb k (class_count p) && has_field p k a.field) =
          rw c.mask-mask.ensures.value at c.with_field-having.ensures.bits in
          let inside : (k : ℕ) → has c.with_field-having.result k ≡ true → place_of (field_of k a.field) < claim_size = λ k held.
          let few = classes_limit s.sets.now.tables.now in
          let (g, l, own) = in_set p s.method s.address a.from a.object a.field few c.with_field-having.result cl cl bits k held in
          own_inside p formed (field_of k a.field) (l, field_exists p k a.field own, own) in
          raised_after _ _ _ _ _ _ _
          (raised_both (onward p s.method s.address (suc s.address)) (f & nothing) _ _ _
          (c.onward-new.ensures.raised formed lm lp)
          (raised_last f _ _
          (stored p s.method s.address a.from a.object a.field (classes_limit s.sets.now.tables.now) c.with_field-having.result cl _ bits
          (rw c.mask-value.ensures.value at (c.into_fields-stored.ensures.raised inside)))))
          (c.null_used.ensures.raised formed lm);
    }
