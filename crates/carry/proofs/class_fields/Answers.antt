-- `carry::class_fields` meets its contract. Assumes nothing.
use Rattle.std.proofs.Common.{ap, rules, tests}
use Rattle.mask.specs.Mask.{zero_bit}
use Rattle.program.specs.Tables.{program_in}
use Rattle.search.specs.Search.{has_field}
use Rattle.flow.specs.Claim.{field_of}
use Rattle.flow.specs.Flows.{◌∈◌, when, kept}
use Rattle.flow.proofs.Ranges.{all_below}
use Rattle.slots.specs.Layout.{claim_in}
use Rattle.carry.proofs.class_fields.Goals as goal

pub returns : goal.returns
returns c =
    let a = c.args in
    record {
      value = all_below (λ x. kept (claim_in a.w.now) (when (has_field (program_in a.t.now) a.k x) (zero_bit ∈ field_of a.k x))) _ _ _ c.all.result
          (ap (λ n. record { start = 0; end = n }) c.field_count-n.ensures.value)
          (λ x b q k. search (rules, tests))
          c.all.ensures.ran;
    }
