-- `worklist::go_on` meets its contract. Assumes nothing.
use Rattle.program.specs.Tables.{program_in}
use Rattle.fixpoint.proofs.Rises.{raised_risen, risen_then}
use Rattle.worklist.proofs.go_on.Goals as goal

pub returns : goal.returns
returns c =
    record {
      risen = λ formed lm lp.
          let a = c.args in
          let p = program_in a.sets.now.tables.now in
          let risen = raised_risen p a.m a.pc _ _ lm lp (c.raise_by.ensures.raised formed lm lp) in
          risen_then p a.m a.pc _ _ _ risen (c.work.ensures.upward formed);
    }
