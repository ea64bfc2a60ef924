-- `text::first`: what its loops keep, and what falls.
use mathlib.Core.Path.{◌≡◌}
use Prim.Native.Nat.{◌≤◌}
use lib.ListN.{take, drop}
use Rattle.text.specs.Hex.{number_of}
use Rattle.text.proofs.first.Given as goal

abbrev pub invariant-loop-i : goal.invariant-loop-i
invariant-loop-i l = (l.i ≤ l.n) × (l.value ≡ number_of (take l.i (drop l.at l.text)))
