-- `carry::entry` meets its contract. Assumes nothing.
use Rattle.std.proofs.Common.{ap, rules, tests}
use Rattle.mask.specs.Mask.{zero_bit}
use Rattle.flow.specs.Claim.{register_at}
use Rattle.flow.specs.Flows.{◌∈◌, kept}
use Rattle.flow.proofs.Ranges.{all_below}
use Rattle.slots.specs.Layout.{claim_in}
use Rattle.carry.proofs.Tests.{and_passed, and_failed}
use Rattle.carry.proofs.entry.Goals as goal

pub returns-then-all : goal.returns-then-all
returns-then-all c =
    let a = c.args in
    let all = all_below (λ r. kept (claim_in a.w.now) (zero_bit ∈ register_at a.m 0 r)) _ _ _ c.all.result
    (ap (λ n. record { start = 0; end = n }) c.locals.ensures.value)
    (λ x b q k. search (rules, tests))
    c.all.ensures.ran in
    record { value = and_passed _ _ _ _ c.if-all.true all c.has_zero.ensures.value }

pub returns-else-all : goal.returns-else-all
returns-else-all c =
    let a = c.args in
    let all = all_below (λ r. kept (claim_in a.w.now) (zero_bit ∈ register_at a.m 0 r)) _ _ _ c.all.result
    (ap (λ n. record { start = 0; end = n }) c.locals.ensures.value)
    (λ x b q k. search (rules, tests))
    c.all.ensures.ran in
    record { value = rw (c.if-all.false) (and_failed _ _ _ c.if-all.false all) }
