-- `classes::from_fields` meets its contract. Assumes nothing.
use Rattle.std.proofs.Common.{refl, rules, tests, not, ◌||◌}
use Rattle.mask.specs.Mask.{has, subset}
use Rattle.flow.specs.Claim.{field_of}
use Rattle.flow.proofs.Ranges.{all_below}
use Rattle.slots.specs.Layout.{claim_in}
use Rattle.classes.specs.Fields.{each_of}
use Rattle.classes.proofs.from_fields.Goals as goal

pub returns : goal.returns
unfolding each_of
returns c = record {
  value = all_below (λ k. not (has c.args.set k) || subset (claim_in c.args.w.now (field_of k c.args.x)) c.args.into) 60 _ _ c.all.result
      refl
      (λ k b q h. search (rules, tests))
      c.all.ensures.ran;
}
