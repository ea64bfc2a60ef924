-- Passing arguments ends. Assumes nothing.
use mathlib.Core.List.{List}
use Prim.Native.Nat.{ℕ, ◌<◌}
use native.Mathlib.Omega.{arith}
use lib.Dec.{T as Holds, ltb→lt}
use Rattle.shift.specs.declared.Pass.{Pass}
use Rattle.shift.specs.Shift.{passes_of}
use Rattle.drive.specs.Models.{Lent}
use Rattle.turns.specs.Turns.{pass_one}

pub pass_falls : (t : List ℕ) (m : Lent) (p : Pass) → Holds (passes_of p) → (pass_one t m p).result.count < p.count
pass_falls t m p h = let l : 0 < p.count = ltb→lt 0 p.count h in omega arith
