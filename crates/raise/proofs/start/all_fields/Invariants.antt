-- `raise::start::all_fields`: what its loops keep.
use Rattle.program.specs.Tables.{program_in}
use Rattle.reader.specs.Formed.{Formed}
use Rattle.flow.specs.Flows.{each}
use Rattle.slots.specs.Layout.{claim_in}
use Rattle.carry.specs.Carried.{class_fields}
use Rattle.order.specs.Raised.{Raised}
use Rattle.raise.proofs.start.all_fields.Given as goal

abbrev pub invariant-loop-k : goal.invariant-loop-k
invariant-loop-k l = (Formed (program_in l.t)
    → Raised (each l.k (class_fields (program_in l.t))) (claim_in l.initial.w) (claim_in l.w))
