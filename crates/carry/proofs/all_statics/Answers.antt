-- `carry::all_statics` meets its contract. Assumes nothing.
use Rattle.std.proofs.Common.{rules, tests, ap}
use Rattle.mask.specs.Mask.{zero_bit}
use Rattle.flow.specs.Claim.{static_of}
use Rattle.flow.specs.Flows.{◌∈◌, kept}
use Rattle.slots.specs.Layout.{claim_in}
use Rattle.flow.proofs.Ranges.{all_below}
use Rattle.carry.proofs.all_statics.Goals as goal

pub returns : goal.returns
returns c = record {
  value = all_below (λ x. kept (claim_in c.args.w.now) (zero_bit ∈ static_of x)) _ _ _ c.all.result
      (ap (λ n. record { start = 0; end = n }) c.static_count.ensures.value)
      (λ x b q k. search (rules, tests))
      c.all.ensures.ran;
}
