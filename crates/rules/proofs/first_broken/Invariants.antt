-- `rules::first_broken`: what its loops keep.
use mathlib.Core.Path.{◌≡◌}
use Prim.Native.Nat.{ℕ, ◌<◌}
use Rattle.program.specs.Tables.{program_in}
use Rattle.flow.specs.Verdict.{accepted}
use Rattle.slots.specs.Layout.{claim_in}
use Rattle.rules.specs.Broken.{method_verdict}
use Rattle.rules.proofs.first_broken.Given as goal

-- no rule is broken before the next method
abbrev pub invariant-loop-m : goal.invariant-loop-m
invariant-loop-m l =
    (k : ℕ) → k < l.m → method_verdict (program_in l.t) (claim_in l.w) k ≡ accepted
