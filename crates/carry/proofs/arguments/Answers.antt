-- `carry::arguments` meets its contract. Assumes nothing.
use Rattle.std.proofs.Common.{refl, rules, tests}
use Rattle.program.specs.Tables.{program_in}
use Rattle.flow.specs.Flows.{kept}
use Rattle.flow.specs.Rules.{argument_into}
use Rattle.flow.proofs.Ranges.{all_between}
use Rattle.slots.specs.Layout.{claim_in}
use Rattle.carry.proofs.arguments.Goals as goal

pub returns : goal.returns
returns c =
    let a = c.args in
    record {
      value = all_between (λ i. kept (claim_in a.w.now) (argument_into (program_in a.t.now) a.m a.pc a.first a.q i)) a.from a.count _ _ c.all.result
          refl
          (λ x b q k. search (rules, tests))
          c.all.ensures.ran;
    }
