-- `raise::exceptions::take_into` meets its contract. Assumes nothing.
use mathlib.Core.Path.{sym, ◌∙◌}
use Rattle.program.specs.Tables.{program_in}
use Rattle.flow.specs.Claim.{result_at}
use Rattle.slots.specs.Layout.{claim_in}
use Rattle.raise.proofs.Places.{own_inside}
use Rattle.raise.proofs.AtOnce.{taken_none, taken_some}
use Rattle.raise.proofs.exceptions.take_into.Goals as goal

pub returns-then-is_empty : goal.returns-then-is_empty
returns-then-is_empty c =
    record {
      raised = λ formed lm lp.
          let a = c.args in
          taken_none (program_in a.t.now) a.m a.pc a.to a.mask (claim_in a.w.now)
          (sym c.is_empty.ensures.value ∙ c.if-is_empty.true);
    }

pub returns : goal.returns
returns c =
    record {
      raised = λ formed lm lp.
          let a = c.args in
          let p = program_in a.t.now in
          taken_some p a.m a.pc a.to a.mask _ _ _ (sym c.is_empty.ensures.value ∙ c.if-is_empty.false) (c.carry-new.ensures.raised formed lm lp)
          (c.join.ensures.joined (own_inside p formed (result_at a.m a.to) (lm, lp)));
    }
