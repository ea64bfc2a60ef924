-- `translator::words_of`: what its loop keeps, and what falls.
use mathlib.Core.Path.{◌≡◌}
use Prim.Native.Nat.{◌-◌}
use lib.ListN.{length}
use Rattle.units.specs.Units.{units_of}
use Rattle.translator.specs.Inside.{Stands, Known}
use Rattle.translator.proofs.Progress.{Progress}
use Rattle.translator.proofs.words_of.Given as goal

abbrev pub invariant-loop-here : goal.invariant-loop-here
invariant-loop-here l =
    (length l.words ≡ length l.initial.words)
    × Progress (units_of l.line.text.now) l.here.place l.here.address l.words
    × Stands (units_of l.line.text.now) l.found
    × Known (units_of l.line.text.now) l.starts l.here
    × (length l.starts ≡ 32)

abbrev pub decreases-loop-here : goal.decreases-loop-here
decreases-loop-here l = l.end - l.here.place
