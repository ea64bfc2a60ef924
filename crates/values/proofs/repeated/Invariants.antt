-- `values::repeated`: what its loops keep, and what falls.
use mathlib.Core.Path.{◌≡◌}
use mathlib.Core.Bool.{false}
use Prim.Native.Nat.{ℕ, ◌<◌, ◌-◌}
use Rattle.program.specs.Tables.{program_in}
use Rattle.values.specs.Values.{alike}
use Rattle.values.proofs.repeated.Given as goal

abbrev pub invariant-loop-k : goal.invariant-loop-k
invariant-loop-k l = (j : ℕ) → j < l.k → alike (program_in l.t) l.m j ≡ false
