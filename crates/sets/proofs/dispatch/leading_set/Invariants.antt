-- `sets::dispatch::leading_set`: what its loop keeps.
use mathlib.Core.Path.{◌≡◌}
use mathlib.Core.Bool.{◌&&◌}
use Prim.Native.Nat.{ℕ}
use lib.Dec.{ltb}
use Rattle.mask.specs.Mask.{has}
use Rattle.program.specs.Program.{class_count}
use Rattle.program.specs.Tables.{program_in}
use Rattle.sets.specs.Sets.{leads}
use Rattle.sets.proofs.dispatch.leading_set.Given as goal

abbrev pub invariant-loop-k : goal.invariant-loop-k
invariant-loop-k l =
    (i : ℕ) → has l.set i ≡ ltb i l.k && (ltb i (class_count (program_in l.t)) && leads (program_in l.t) l.q i)
