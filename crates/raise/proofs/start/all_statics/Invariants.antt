-- `raise::start::all_statics`: what its loops keep.
use Prim.Native.Nat.{ℕ}
use Rattle.mask.specs.Mask.{zero_bit}
use Rattle.program.specs.Tables.{program_in}
use Rattle.reader.specs.Formed.{Formed}
use Rattle.flow.specs.Claim.{static_of}
use Rattle.flow.specs.Flows.{Flows, ◌∈◌, each}
use Rattle.slots.specs.Layout.{claim_in}
use Rattle.order.specs.Raised.{Raised}
use Rattle.raise.proofs.start.all_statics.Given as goal

abbrev pub zero_static : ℕ → Flows
zero_static x = zero_bit ∈ static_of x

abbrev pub invariant-loop-x : goal.invariant-loop-x
invariant-loop-x l = (Formed (program_in l.t) → Raised (each l.x zero_static) (claim_in l.initial.w) (claim_in l.w))
