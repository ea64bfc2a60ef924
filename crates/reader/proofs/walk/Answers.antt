-- `reader::walk` meets its contract: before each line the tables hold the program so far. The measure is what is left of the
-- text. Assumes nothing.
use mathlib.Core.Path.{sym, ◌∙◌}
use native.Mathlib.Omega.{arith}
use Rattle.reader.proofs.Turn.{start, at_end, at_missing, at_broken, room, at_fault, onward, after}
use Rattle.reader.proofs.walk.Goals as goal

pub loop-digits-init : goal.loop-digits-init
loop-digits-init c = start _ _ c.requires

pub returns-then-may_end : goal.returns-then-may_end
returns-then-may_end c =
    let a = c.args in
    let l = c.loop-digits in
    let f = c.read_line-found in
    record {
      read = at_end a.text.now l.t l.from l.n l.invariant f.result f.ensures.line
          c.in-End.is (sym c.may_end.ensures.value ∙ c.if-may_end.true);
    }

pub returns-in-End : goal.returns-in-End
returns-in-End c =
    let a = c.args in
    let l = c.loop-digits in
    let f = c.read_line-found in
    record {
      read = at_missing a.text.now l.t l.from l.n l.invariant f.result f.ensures.line
          c.in-End.is (sym c.may_end.ensures.value ∙ c.if-may_end.false);
    }

pub returns-in-Broken : goal.returns-in-Broken
returns-in-Broken c =
    let a = c.args in
    let l = c.loop-digits in
    let f = c.read_line-found in
    record { read = at_broken a.text.now l.t l.from l.n l.invariant f.result f.ensures.line c.in-Broken.is }

pub take_frame-step-requires : goal.take_frame-step-requires
take_frame-step-requires c =
    let a = c.args in
    let l = c.loop-digits in
    let f = c.read_line-found in
    room a.text.now l.t l.from l.n l.invariant f.result f.ensures.line c.in-Whole.digits c.in-Whole.is

pub returns-then-step-ne0 : goal.returns-then-step-ne0
returns-then-step-ne0 c =
    let a = c.args in
    let l = c.loop-digits in
    let f = c.read_line-found in
    record {
      read = at_fault a.text.now l.t l.from l.n l.invariant f.result f.ensures.line c.in-Whole.digits
          c.in-Whole.is c.take_frame-step.result c.take_frame-step.ensures.value _ c.if-step-ne0.true;
    }

pub loop-digits-smaller : goal.loop-digits-smaller
loop-digits-smaller c =
    let a = c.args in
    let l = c.loop-digits in
    let f = c.read_line-found in
    onward a.text.now l.t l.from l.n l.invariant f.result f.ensures.line c.in-Whole.digits
    c.in-Whole.is (omega (arith, c.well_formed))

pub loop-digits-preserved : goal.loop-digits-preserved
loop-digits-preserved c =
    let a = c.args in
    let l = c.loop-digits in
    let f = c.read_line-found in
    after a.text.now l.t l.from l.n l.invariant f.result f.ensures.line c.in-Whole.digits
    c.in-Whole.is c.take_frame-step.result c.take_frame-step.ensures.value (omega (arith, c.well_formed)) _ c.if-step-ne0.false
    c.take_frame-step.ensures.memory
