-- `claim::line::take_line` meets its contract. Assumes nothing.
use mathlib.Core.Path.{sym}
use Prim.Native.Nat.{◌+◌, ◌*◌}
use Rattle.text.proofs.Digits.{digits_inside}
use Rattle.program.specs.Tables.{program_in}
use Rattle.program.proofs.Read.{classes_limit}
use Rattle.claim.proofs.LineKinds.{other_line}
use Rattle.claim.proofs.DueFrames.{due_limits}
use Rattle.claim.proofs.FrameTests.{frame_length}
use Rattle.claim.proofs.LineTaken.{told_other, told_refused, told_taken}
use native.Mathlib.Omega.{arith}
use Rattle.claim.proofs.line.take_line.Goals as goal

pub is_due-requires : goal.is_due-requires
is_due-requires c =
    let a = c.args in
    let l = rw (sym c.frame_of-f.ensures.value) at
    (due_limits (program_in a.t.now) a.a a.b a.k) in (c.requires.1, c.requires.2, l.0, l.1, l.2)

pub returns-then-not-is_due : goal.returns-then-not-is_due
returns-then-not-is_due c =
    let a = c.args in
    record {
      progress = rw (c.other_number.ensures.value, other_line a.text.now a.at a.digits c.requires.0)
          (told_other (program_in a.t.now) a.k a.a a.b a.text.now a.at a.digits a.w.now
          c.frame_of-f.result c.frame_of-f.ensures.value c.is_due.result c.is_due.ensures.value a.w.now c.if-not-is_due.true);
    }

pub overflow_add-at : goal.overflow_add-at
overflow_add-at c =
    let a = c.args in
    omega (
      arith,
      frame_length a.text.now a.at a.digits c.frame_of-f.result a.a a.b c.requires.1 c.is_due.result
          c.is_due.ensures.value c.if-not-is_due.false,
      c.requires.1,
      c.well_formed,
    )

pub take_masks-requires : goal.take_masks-requires
take_masks-requires c =
    let a = c.args in
    let l = rw (sym c.frame_of-f.ensures.value) at (due_limits (program_in a.t.now) a.a a.b a.k) in
    let e = frame_length a.text.now a.at a.digits c.frame_of-f.result a.a a.b c.requires.1 c.is_due.result
    c.is_due.ensures.value c.if-not-is_due.false in (
      omega (arith, e, c.requires.1),
      l.2,
      digits_inside a.text.now a.at a.digits c.frame_of-f.result.head (16 * (c.frame_of-f.result.registers + 1))
          (omega (arith, e)) c.requires.2,
    )

pub returns-then-not-take_masks : goal.returns-then-not-take_masks
returns-then-not-take_masks c =
    let a = c.args in
    record {
      progress = told_refused (program_in a.t.now) a.k a.a a.b a.text.now a.at a.digits a.w.now
          c.frame_of-f.result c.frame_of-f.ensures.value c.is_due.result c.is_due.ensures.value
          c.if-not-is_due.false (classes_limit a.t.now) c.requires.1 c.take_masks.result _
          c.take_masks.ensures.masks a.w.now c.if-not-take_masks.true;
    }

pub returns : goal.returns
returns c =
    let a = c.args in
    record {
      progress = told_taken (program_in a.t.now) a.k a.a a.b a.text.now a.at a.digits a.w.now
          c.frame_of-f.result c.frame_of-f.ensures.value c.is_due.result c.is_due.ensures.value
          c.if-not-is_due.false (classes_limit a.t.now) c.requires.1 c.take_masks.result _
          c.take_masks.ensures.masks c.if-not-take_masks.false;
    }
