-- `raise::exceptions::raised_by` meets its contract: of no class nothing flows. Assumes nothing.
use mathlib.Core.Path.{sym, ◌∙◌}
use Rattle.program.specs.Tables.{program_in}
use Rattle.slots.specs.Layout.{claim_in}
use Rattle.raise.proofs.AtOnce.{none_raised}
use Rattle.raise.proofs.exceptions.raised_by.Goals as goal

pub returns-then-is_empty : goal.returns-then-is_empty
returns-then-is_empty c =
    record {
      raised = λ formed lm.
          let a = c.args in
          none_raised (program_in a.sets.now.tables.now) a.m a.pc a.mask (claim_in a.w.now)
          (sym c.is_empty.ensures.value ∙ c.if-is_empty.true);
    }

pub returns : goal.returns
returns c = record { raised = c.by_handler.ensures.raised }
