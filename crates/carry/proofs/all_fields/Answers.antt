-- `carry::all_fields` meets its contract. Assumes nothing.
use Rattle.std.proofs.Common.{rules, tests, ap}
use Rattle.program.specs.Tables.{program_in}
use Rattle.flow.specs.Flows.{kept}
use Rattle.flow.proofs.Ranges.{all_below}
use Rattle.slots.specs.Layout.{claim_in}
use Rattle.carry.specs.Carried.{class_fields}
use Rattle.carry.proofs.all_fields.Goals as goal

pub returns : goal.returns
returns c = record {
  value = all_below (λ k. kept (claim_in c.args.w.now) (class_fields (program_in c.args.t.now) k)) _ _ _ c.all.result
      (ap (λ n. record { start = 0; end = n }) c.class_count.ensures.value)
      (λ x b q k. search (rules, tests))
      c.all.ensures.ran;
}
