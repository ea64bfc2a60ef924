-- `worklist::work` meets its contract. Assumes nothing.
use Rattle.fixpoint.proofs.Rises.{upward_same, upward_then}
use Rattle.worklist.proofs.work.Goals as goal

pub loop-turn-init : goal.loop-turn-init
loop-turn-init c = λ formed. upward_same _ _

pub returns-in_default : goal.returns-in_default
returns-in_default c =
    record { upward = λ formed. upward_then _ _ _ _ (c.loop-turn.invariant formed) (c.turn.ensures.upward formed) }

pub loop-turn-preserved : goal.loop-turn-preserved
loop-turn-preserved c = λ formed. upward_then _ _ _ _ (c.loop-turn.invariant formed) (c.turn.ensures.upward formed)

pub returns : goal.returns
returns c = record { upward = c.loop-turn.invariant }
