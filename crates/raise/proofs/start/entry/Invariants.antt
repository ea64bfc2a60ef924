-- `raise::start::entry`: what its loops keep.
use Prim.Native.Nat.{ℕ, ◌<◌}
use Rattle.mask.specs.Mask.{zero_bit}
use Rattle.program.specs.Program.{method_count}
use Rattle.program.specs.Tables.{program_in}
use Rattle.reader.specs.Formed.{Formed}
use Rattle.flow.specs.Claim.{register_at}
use Rattle.flow.specs.Flows.{Flows, ◌∈◌, each}
use Rattle.slots.specs.Layout.{claim_in}
use Rattle.order.specs.Raised.{Raised}
use Rattle.raise.proofs.start.entry.Given as goal

abbrev pub zero_at : ℕ → ℕ → Flows
zero_at m r = zero_bit ∈ register_at m 0 r

abbrev pub invariant-loop-r : goal.invariant-loop-r
invariant-loop-r l =
    (Formed (program_in l.t) → l.m < method_count (program_in l.t)
    → Raised (each l.r (zero_at l.m)) (claim_in l.initial.w) (claim_in l.w))
