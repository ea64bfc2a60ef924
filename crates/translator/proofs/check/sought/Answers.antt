-- `translator::check::sought` meets its contract. Assumes nothing.
use mathlib.Core.Path.{◌≡◌}
use native.Mathlib.Omega.{arith}
use Rattle.units.specs.Units.{units_of}
use Rattle.translator.specs.Inside.{branch_target}
use Rattle.translator.proofs.KnownStarts.{known_sought}
use Rattle.translator.proofs.Checking.{target_place}
use Rattle.translator.proofs.check.sought.Goals as goal

pub returns-then-place-at : goal.returns-then-place-at
returns-then-place-at c =
    let a = c.args in
    let text = a.line.text.now in
    let us = units_of text in
    let at = a.here.place in
    let b = c.in-Branch.b in
    let place = c.target_of-place.result in
    let e : place ≡ branch_target us at b =
    target_place text at b c.unit-u.result c.unit-v.result c.unit-w.result place
    (rw (← c.count.ensures.value) (c.target_of-place.ensures.value (omega arith))) c.unit-u.ensures.value c.unit-v.ensures.value
    c.unit-w.ensures.value in
    record {
      sought = rw (c.in-Branch.is, c.known.ensures.value, e)
          (known_sought us a.starts.now a.here (branch_target us at b) c.requires.2
          (rw e at c.if-place-at.true));
    }

pub returns-else-place-at : goal.returns-else-place-at
returns-else-place-at c =
    let a = c.args in
    let text = a.line.text.now in
    let us = units_of text in
    let at = a.here.place in
    let b = c.in-Branch.b in
    let place = c.target_of-place.result in
    let e : place ≡ branch_target us at b =
    target_place text at b c.unit-u.result c.unit-v.result c.unit-w.result place
    (rw (← c.count.ensures.value) (c.target_of-place.ensures.value (omega arith))) c.unit-u.ensures.value c.unit-v.ensures.value
    c.unit-w.ensures.value in
    record { sought = rw c.in-Branch.is (rw e at c.seek.ensures.sought) }
