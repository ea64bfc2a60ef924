-- `translator::walk::Line::seek`: what its loop keeps, and what falls.
use Prim.Native.Nat.{◌-◌}
use Rattle.units.specs.Units.{units_of}
use Rattle.translator.specs.Inside.{Follows, Stands}
use Rattle.translator.proofs.walk.Line.seek.Given as goal

abbrev pub invariant-loop-to : goal.invariant-loop-to
invariant-loop-to l = Stands (units_of l.self.text.now) l.to × Follows (units_of l.self.text.now) l.to.place l.to.address l.place

abbrev pub decreases-loop-to : goal.decreases-loop-to
decreases-loop-to l = l.place - l.to.place
