-- `command::count_of`: what its loop keeps.
use mathlib.Core.Path.{◌≡◌}
use Prim.Native.Nat.{◌≤◌}
use lib.ListN.{drop}
use Rattle.command.proofs.Counts.{steps_from}
use Rattle.command.proofs.count_of.Given as goal

abbrev pub invariant-loop-b : goal.invariant-loop-b
invariant-loop-b l = (l.n ≤ 1000000) × (steps_from l.n (drop l.b-index l.word) ≡ steps_from 0 l.word)
