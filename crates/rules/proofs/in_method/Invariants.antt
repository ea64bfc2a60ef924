-- `rules::in_method`: what its loops keep.
use mathlib.Core.Path.{◌≡◌}
use Prim.Native.Nat.{ℕ, ◌<◌}
use Rattle.program.specs.Tables.{program_in}
use Rattle.flow.specs.Verdict.{accepted}
use Rattle.slots.specs.Layout.{claim_in}
use Rattle.rules.specs.Broken.{address_verdict}
use Rattle.rules.proofs.in_method.Given as goal

-- no rule is broken before the next address
abbrev pub invariant-loop-address : goal.invariant-loop-address
invariant-loop-address l =
    (k : ℕ) → k < l.address → address_verdict (program_in l.sets.tables.now) (claim_in l.claim) l.method k ≡ accepted
