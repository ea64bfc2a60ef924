-- `sets::fill`: what its loop keeps.
use mathlib.Core.Path.{◌≡◌}
use Prim.Native.Nat.{ℕ, ◌<◌}
use lib.ListN.{length, get_or}
use Rattle.program.specs.Tables.{program_in}
use Rattle.sets.specs.Sets.{set_word}
use Rattle.sets.proofs.held.fill.Given as goal

abbrev pub invariant-loop-j : goal.invariant-loop-j
invariant-loop-j l = (0 < l.j → length l.s ≡ 80) × ((i : ℕ) → i < l.j → get_or l.s i 0 ≡ set_word (program_in l.t) i)
