-- `translator::words_of` meets its contract: the walk goes from start to start, and what is translated so far stands in the words.
-- Assumes nothing.
use mathlib.Core.Path.{refl, sym, ◌∙◌}
use Prim.Native.Nat.{◌<◌}
use native.Mathlib.Omega.{arith}
use lib.ListN.{length, length-set}
use Rattle.units.specs.Units.{units_of}
use Rattle.units.proofs.Texts.{unit_count}
use Rattle.translator.proofs.Walking.{begins, still_stands}
use Rattle.translator.proofs.KnownStarts.{none_known, known_goes}
use Rattle.translator.proofs.Progress.{begun, all_done, was_refused, in_room, moves, inside, goes}
use Rattle.translator.proofs.words_of.Goals as goal

pub loop-here-init : goal.loop-here-init
loop-here-init c = (refl, begun _ _ c.requires, begins _, none_known _ _, refl)

pub loop-here-smaller : goal.loop-here-smaller
loop-here-smaller c =
    let us = units_of c.args.line.text.now in
    let size = unit_count c.args.line.text.now in
    let end = c.count-end.ensures.value in
    let here = c.loop-here.here in
    let p = c.loop-here.invariant.1 in
    let e = sym c.check_at.ensures.value ∙ c.in-Ok.is in
    let l : here.place < length us = omega arith in
    let n = c.length_at-n.ensures.value in
    let i = inside us here.place here.address c.loop-here.words p l _ e in
    let m = moves us here.place here.address c.loop-here.words p l _ e in
    omega arith

pub loop-here-preserved : goal.loop-here-preserved
loop-here-preserved c =
    let us = units_of c.args.line.text.now in
    let size = unit_count c.args.line.text.now in
    let end = c.count-end.ensures.value in
    let here = c.loop-here.here in
    let words = c.loop-here.words in
    let starts = c.loop-here.starts in
    let p = c.loop-here.invariant.1 in
    let e = sym c.check_at.ensures.value ∙ c.in-Ok.is in
    let l : here.place < length us = omega arith in
    let n = c.length_at-n.ensures.value in
    let i = inside us here.place here.address words p l _ e in
    let m = moves us here.place here.address words p l _ e in
    let r = in_room us here.place here.address words p l _ e in
    let w = c.in-Ok.w in (
      length-set words here.address w ∙ c.loop-here.invariant.0,
      rw n (goes us here.place here.address words p l w e),
      still_stands us here.place c.opcode_of-o.result _ c.sought-found.ensures.sought,
      rw n
          (known_goes us starts here.place here.address c.loop-here.invariant.3 (omega (arith, c.loop-here.invariant.4)) m (omega arith)),
      length-set starts here.address here.place ∙ c.loop-here.invariant.4,
    )

pub returns-in-Err-clause-walked : goal.returns-in-Err-clause-walked
returns-in-Err-clause-walked c =
    let us = units_of c.args.line.text.now in
    let size = unit_count c.args.line.text.now in
    let end = c.count-end.ensures.value in
    let here = c.loop-here.here in
    let e = sym c.check_at.ensures.value ∙ c.in-Err.is in
    rw c.from.ensures (was_refused us here.place here.address c.loop-here.words c.loop-here.invariant.1 (omega arith) c.in-Err.fault e)

pub returns-clause-walked : goal.returns-clause-walked
returns-clause-walked c =
    let us = units_of c.args.line.text.now in
    let size = unit_count c.args.line.text.now in
    let end = c.count-end.ensures.value in
    let here = c.loop-here.here in
    all_done us here.place here.address c.loop-here.words c.loop-here.invariant.1 (omega arith)
