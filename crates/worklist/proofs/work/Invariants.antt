-- `worklist::work`: what its loops keep.
use Rattle.program.specs.Tables.{program_in}
use Rattle.reader.specs.Formed.{Formed}
use Rattle.slots.specs.Layout.{claim_in}
use Rattle.fixpoint.specs.Risen.{Upward}
use Rattle.worklist.proofs.work.Given as goal

-- the claim has risen, and is below every accepted claim that it was below
abbrev pub invariant-loop-turn : goal.invariant-loop-turn
invariant-loop-turn l =
    let p = program_in l.sets.tables.now in
    Formed p → Upward p (claim_in l.initial.w) (claim_in l.w)
