-- `worklist::fill_by`: what its loops keep.
use mathlib.Core.Path.{◌≡◌}
use Prim.Native.Nat.{◌+◌, ◌<◌}
use Rattle.program.specs.Tables.{program_in}
use Rattle.reader.specs.Formed.{Formed}
use Rattle.flow.specs.Claim.{Claim}
use Rattle.flow.specs.Verdict.{accepted, verdict}
use Rattle.slots.specs.Layout.{claim_in, no_masks}
use Rattle.order.specs.Order.{Below}
use Rattle.fixpoint.specs.Risen.{room}
use Rattle.worklist.proofs.fill_by.Given as goal

-- the masks are below those of every accepted claim, and fewer bits are missing than rounds are left
abbrev pub invariant-loop-round : goal.invariant-loop-round
invariant-loop-round l =
    Formed (program_in l.sets.tables.now) → l.initial.w ≡ no_masks
    → ((e : Claim) → verdict (program_in l.sets.tables.now) e ≡ accepted → Below (claim_in l.w) e) × (room (claim_in l.w) + l._round < 621569)
