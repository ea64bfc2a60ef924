-- `raise::rows::onward` meets its contract. Assumes nothing.
use Rattle.program.specs.Tables.{program_in}
use Rattle.flow.specs.Claim.{result_at}
use Rattle.flow.specs.Flows.{◌⊆◌}
use Rattle.flow.specs.Rules.{carried}
use Rattle.order.proofs.Raising.{raised_both, raised_into}
use Rattle.raise.proofs.Places.{own_inside}
use Rattle.raise.proofs.rows.onward.Goals as goal

pub returns : goal.returns
returns c =
    record {
      raised = λ formed lm lp.
          let a = c.args in
          let p = program_in a.t.now in
          let here = result_at a.m a.pc in
          let there = result_at a.m a.to in
          raised_both (carried p a.m a.pc a.to) (here ⊆ there) _ _ _
          (c.carry-new.ensures.raised formed lm lp)
          (raised_into here there _ _ (rw c.mask-mask.ensures.value at (c.join.ensures.joined (own_inside p formed there (lm, lp)))));
    }
