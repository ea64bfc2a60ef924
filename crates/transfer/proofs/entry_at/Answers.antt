-- `transfer::entry_at` meets its contract. Assumes nothing.
use borrow.Author.Tests.{eq-eqb, ne_eqb}
use Rattle.program.specs.Tables.{program_in}
use Rattle.flow.specs.Rules.{entry}
use Rattle.slots.specs.Layout.{claim_in}
use Rattle.order.proofs.Raising.{raised_when, left_when}
use Rattle.transfer.proofs.entry_at.Goals as goal

pub returns-then-pc-eq0 : goal.returns-then-pc-eq0
returns-then-pc-eq0 c =
    record {
      raised = λ formed lm.
          let a = c.args in
          raised_when _ (entry (program_in a.t.now) a.m) _ _ (eq-eqb a.pc 0 c.if-pc-eq0.true)
          (c.entry.ensures.raised formed lm);
    }

pub returns-else-pc-eq0 : goal.returns-else-pc-eq0
returns-else-pc-eq0 c =
    record {
      raised = λ formed lm.
          let a = c.args in
          left_when _ (entry (program_in a.t.now) a.m) (claim_in a.w.now) (ne_eqb a.pc 0 c.if-pc-eq0.false);
    }
