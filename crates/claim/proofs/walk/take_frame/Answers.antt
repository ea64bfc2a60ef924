-- `claim::walk::take_frame` meets its contract. Assumes nothing.
use Rattle.program.specs.Tables.{program_in}
use Rattle.claim.specs.Inside.{due_at}
use Rattle.claim.proofs.FrameTaken.{frame_stopped, frame_missing, frame_broken, frame_room, frame_placed, frame_refused, frame_taken}
use native.Mathlib.Omega.{arith}
use Rattle.claim.proofs.walk.take_frame.Goals as goal

pub returns-then-from-ne0 : goal.returns-then-from-ne0
returns-then-from-ne0 c =
    let a = c.args in
    let p = program_in a.t.now in
    record { place = c.requires; progress = frame_stopped p (due_at p a.k a.a a.b) a.text.now a.from a.w.now c.if-from-ne0.true }

pub returns-in-End : goal.returns-in-End
returns-in-End c =
    let a = c.args in
    let p = program_in a.t.now in
    record {
      place = c.requires;
      progress = frame_missing p (due_at p a.k a.a a.b) a.text.now a.from a.w.now c.if-from-ne0.false
          c.read_line-found.result c.read_line-found.ensures.line c.in-End.is;
    }

pub returns-in-Broken : goal.returns-in-Broken
returns-in-Broken c =
    let a = c.args in
    let p = program_in a.t.now in
    record {
      place = c.requires;
      progress = frame_broken p (due_at p a.k a.a a.b) a.text.now a.from a.w.now c.if-from-ne0.false
          c.read_line-found.result c.read_line-found.ensures.line c.in-Broken.is;
    }

pub take_line-number-requires : goal.take_line-number-requires
take_line-number-requires c =
    let a = c.args in
    let p = program_in a.t.now in
    frame_room p (due_at p a.k a.a a.b) a.text.now a.from a.w.now c.if-from-ne0.false
    c.read_line-found.result c.read_line-found.ensures.line c.in-Whole.digits c.in-Whole.is

pub returns-then-number-ne0 : goal.returns-then-number-ne0
returns-then-number-ne0 c =
    let a = c.args in
    let p = program_in a.t.now in
    record {
      place = c.requires;
      progress = frame_refused p (due_at p a.k a.a a.b) a.text.now a.from a.w.now c.if-from-ne0.false
          c.read_line-found.result c.read_line-found.ensures.line c.in-Whole.digits c.in-Whole.is
          c.take_line-number.result _ c.take_line-number.ensures.progress c.if-number-ne0.true;
    }

pub returns : goal.returns
returns c =
    let a = c.args in
    let p = program_in a.t.now in
    record {
      place = frame_placed p (due_at p a.k a.a a.b) a.text.now a.from a.w.now c.if-from-ne0.false
          c.read_line-found.result c.read_line-found.ensures.line c.in-Whole.digits c.in-Whole.is
          c.requires (omega (arith, c.well_formed));
      progress = frame_taken p (due_at p a.k a.a a.b) a.text.now a.from a.w.now c.if-from-ne0.false
          c.read_line-found.result c.read_line-found.ensures.line c.in-Whole.digits c.in-Whole.is
          c.take_line-number.result _ c.take_line-number.ensures.progress c.requires (omega (arith, c.well_formed)) c.if-number-ne0.false;
    }
