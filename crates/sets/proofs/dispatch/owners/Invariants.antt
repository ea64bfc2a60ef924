-- `sets::dispatch::owners`: what its loop keeps.
use mathlib.Core.Path.{◌≡◌}
use Prim.Native.Nat.{ℕ, ◌<◌}
use Rattle.mask.specs.Mask.{has}
use Rattle.program.specs.Tables.{program_in}
use Rattle.search.specs.Search.{answers}
use Rattle.flow.specs.Flows.{some}
use Rattle.sets.proofs.dispatch.owners.Given as goal

abbrev pub invariant-loop-m : goal.invariant-loop-m
invariant-loop-m l =
    (k : ℕ) → k < 64 → has l.set k ≡ some l.m (answers (program_in l.t) k l.name l.count)
