-- `raise::start::fields_of`: what its loops keep.
use Prim.Native.Nat.{◌<◌}
use Rattle.program.specs.Program.{class_count}
use Rattle.program.specs.Tables.{program_in}
use Rattle.reader.specs.Formed.{Formed}
use Rattle.flow.specs.Flows.{each}
use Rattle.slots.specs.Layout.{claim_in}
use Rattle.order.specs.Raised.{Raised}
use Rattle.raise.specs.Inside.{zero_field}
use Rattle.raise.proofs.start.fields_of.Given as goal

abbrev pub invariant-loop-x : goal.invariant-loop-x
invariant-loop-x l =
    (Formed (program_in l.t) → l.k < class_count (program_in l.t)
    → Raised (each l.x (zero_field (program_in l.t) l.k)) (claim_in l.initial.w) (claim_in l.w))
