-- `raise::rows::pass_arguments`: what its loops keep.
use Prim.Native.Nat.{◌+◌, ◌-◌, ◌≤◌}
use Rattle.program.specs.Tables.{program_in}
use Rattle.flow.specs.Flows.{each}
use Rattle.flow.specs.Rules.{argument_into}
use Rattle.slots.specs.Layout.{claim_in}
use Rattle.raise.specs.Raises.{Calling}
use Rattle.raise.proofs.rows.pass_arguments.Given as goal

-- the arguments from the first asked to the one before the next are passed
abbrev pub invariant-loop-i : goal.invariant-loop-i
invariant-loop-i l =
    record {
      few : l.i ≤ l.from + (l.count - l.from);
      passed : Calling (program_in l.t) l.q l.count (each (l.i - l.from) (λ k. argument_into (program_in l.t) l.m l.pc l.first l.q (l.from + k)))
          (claim_in l.initial.w) (claim_in l.w);
    }
