-- `raise::exceptions::own_by` meets its contract. Assumes nothing.
use Rattle.program.specs.Tables.{program_in}
use Rattle.slots.specs.Layout.{claim_in}
use Rattle.raise.proofs.MaskBits.{one_bit}
use Rattle.raise.proofs.AtOnce.{own_raised, own_none}
use Rattle.raise.proofs.exceptions.own_by.Goals as goal

pub returns-then-may : goal.returns-then-may
returns-then-may c =
    record {
      raised = λ few formed lm.
          let a = c.args in
          own_raised (program_in a.sets.now.tables.now) a.m a.pc a.class a.may c.of.result (one_bit c.of.result a.class few c.of.ensures.bits)
          c.if-may.true
          _
          _
          (c.raised_by.ensures.raised formed lm);
    }

pub returns-else-may : goal.returns-else-may
returns-else-may c =
    record {
      raised = λ few formed lm.
          let a = c.args in
          own_none (program_in a.sets.now.tables.now) a.m a.pc a.class a.may c.if-may.false (claim_in a.w.now);
    }
