-- `rules::site::Site::field_written` meets its contract. Assumes nothing.
use mathlib.Core.Path.{sym, ◌∙◌}
use Rattle.mask.specs.Mask.{subset}
use Rattle.program.specs.Program.{class_count}
use Rattle.program.proofs.Read.{classes_limit}
use Rattle.search.specs.Search.{has_field}
use Rattle.flow.specs.Claim.{field_of}
use Rattle.rules.specs.Site.{program_of, claim_of}
use Rattle.rules.proofs.Classes.{of_each}
use Rattle.rules.proofs.site.Site.field_written.Goals as goal

pub returns-then-not-into_fields : goal.returns-then-not-into_fields
returns-then-not-into_fields c =
    let a = c.args in
    let s = a.self.now in
    let p = program_of s in
    let asked =
    of_each (class_count p) c.with_field-having.result c.register-objects.result (λ k. has_field p k a.field) c.with_field-having.ensures.bits
    (classes_limit s.sets.now.tables.now)
    (λ k. subset c.register.result (claim_of s (field_of k a.field))) in
    let fails = rw (c.register.ensures.value, c.register-objects.ensures.value) at (sym asked ∙ sym c.into_fields.ensures.value ∙ c.if-not-into_fields.true) in
    record { value = rw (← c.flows_on.ensures.value, c.if-not-flows_on.false, fails) }

pub returns : goal.returns
returns c =
    let a = c.args in
    let s = a.self.now in
    let p = program_of s in
    let asked =
    of_each (class_count p) c.with_field-having.result c.register-objects.result (λ k. has_field p k a.field) c.with_field-having.ensures.bits
    (classes_limit s.sets.now.tables.now)
    (λ k. subset c.register.result (claim_of s (field_of k a.field))) in
    let passes = rw (c.register.ensures.value, c.register-objects.ensures.value) at (sym asked ∙ sym c.into_fields.ensures.value ∙ c.if-not-into_fields.false) in
    record {
      value = rw (
        c.own.ensures.value,
        c.has.ensures.value,
        c.register-objects.ensures.value,
        ← c.flows_on.ensures.value,
        c.if-not-flows_on.false,
        passes,
      );
    }
