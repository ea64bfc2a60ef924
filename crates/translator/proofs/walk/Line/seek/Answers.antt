-- `translator::walk::Line::seek` meets its contract: the walk goes from start to start. Assumes nothing.
use mathlib.Core.Path.{sym, ◌∙◌}
use native.Mathlib.Omega.{arith}
use Rattle.units.specs.Units.{units_of}
use Rattle.units.proofs.Texts.{unit_count}
use Rattle.translator.proofs.Walking.{nearest, arrived, unused, cut, goes, follows_on}
use Rattle.translator.proofs.walk.Line.seek.Goals as goal
use Rattle.translator.proofs.walk.Line.seek.Goals.{then-n-eq0-via-then-n-eq0, then-n-eq0-via-else-n-eq0+then-n-end}

pub loop-to-init : goal.loop-to-init
loop-to-init c =
    let a = c.args in
    rw c.nearest-to.ensures.value
    (nearest (units_of a.self.text.now) a.found a.here a.place c.requires.0 c.requires.1 c.requires.2)

pub overflow_sub-end : goal.overflow_sub-end
overflow_sub-end c =
    let size = unit_count c.args.self.text.now in
    omega (arith, c.loop-to.invariant.0.inside, c.count-end.ensures.value)

pub returns-then-n-eq0 : goal.returns-then-n-eq0
returns-then-n-eq0 c =
    let a = c.args in
    let us = units_of a.self.text.now in
    let to = c.loop-to.to in
    let inv = c.loop-to.invariant in
    let size = unit_count a.self.text.now in
    let e = c.length_at-n.ensures.value in
    let end = c.count-end.ensures.value in
    elim c.then-n-eq0.branch [
      | then-n-eq0-via-then-n-eq0 w ↦ record { sought = unused us a.place to.place to.address inv.0 inv.1 (sym e ∙ w.if-n-eq0.true) }
      | then-n-eq0-via-else-n-eq0+then-n-end w ↦
          record { sought = cut us a.place to.place to.address inv.0 inv.1 (let h = w.if-n-end.true in omega arith) }
    ]

pub loop-to-preserved : goal.loop-to-preserved
loop-to-preserved c =
    let a = c.args in
    let us = units_of a.self.text.now in
    let to = c.loop-to.to in
    let inv = c.loop-to.invariant in
    let size = unit_count a.self.text.now in
    let e = c.length_at-n.ensures.value in
    let end = c.count-end.ensures.value in
    rw e (
      goes us to.place to.address inv.0 (omega arith) (omega arith),
      follows_on us to.place to.address inv.0 (omega arith) (omega arith) a.place (omega arith) inv.1,
    )

pub returns : goal.returns
returns c =
    let a = c.args in
    let us = units_of a.self.text.now in
    let to = c.loop-to.to in
    let inv = c.loop-to.invariant in
    record { sought = arrived us a.place to.place to.address inv.0 inv.1 (omega arith) }
