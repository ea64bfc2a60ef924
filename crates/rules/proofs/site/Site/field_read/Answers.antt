-- `rules::site::Site::field_read` meets its contract. Assumes nothing.
use mathlib.Core.Path.{ap, ◌∙◌}
use mathlib.Core.Bool.{Bool}
use Rattle.mask.specs.Mask.{subset}
use Rattle.program.specs.Program.{class_count}
use Rattle.program.proofs.Read.{classes_limit}
use Rattle.search.specs.Search.{has_field}
use Rattle.flow.specs.Claim.{field_of}
use Rattle.rules.specs.Broken.{written}
use Rattle.rules.specs.Site.{program_of, claim_of}
use Rattle.rules.proofs.Classes.{of_each}
use Rattle.rules.proofs.site.Site.field_read.Goals as goal

pub returns : goal.returns
returns c =
    let a = c.args in
    let s = a.self.now in
    let p = program_of s in
    let cl = claim_of s in
    record {
      value = c.written.ensures.value
          ∙ ap (λ (ok : Bool). written p cl s.method s.address a.to ok c.own.result)
          (c.from_fields-read.ensures.value
          ∙ of_each (class_count p) c.with_field-having.result c.register-objects.result (λ k. has_field p k a.field)
          c.with_field-having.ensures.bits
          (classes_limit s.sets.now.tables.now)
          (λ k. subset (cl (field_of k a.field)) c.next_register.result))
          ∙ rw (c.own.ensures.value, c.has.ensures.value, c.next_register.ensures.value, c.register-objects.ensures.value);
    }
