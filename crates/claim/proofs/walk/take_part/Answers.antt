-- `claim::walk::take_part` meets its contract. The loop's invariant: the frames from first number a on, taken where the walk
-- stands, are all frames taken where it began. Assumes nothing.
use mathlib.Core.Path.{sym, ap, ◌∙◌}
use Prim.Native.Nat.{ℕ}
use Rattle.program.specs.Lists.{joined}
use Rattle.program.specs.Tables.{program_in}
use Rattle.claim.specs.Frames.{part_due}
use Rattle.claim.specs.ReadClaim.{take_frames}
use Rattle.claim.specs.Inside.{progress_of}
use Rattle.claim.proofs.FrameLists.{row_due, frames_from, frames_start, frames_next, frames_end_lem}
use native.Mathlib.Omega.{arith}
use Rattle.claim.proofs.walk.take_part.Goals as goal

pub loop-a-init : goal.loop-a-init
loop-a-init c =
    let a = c.args in
    let p = program_in a.t.now in (
      c.requires,
      frames_start p c.outer-n.result (row_due p a.k)
          (progress_of a.text.now a.from a.w.now),
    )

pub take_row-to-requires : goal.take_row-to-requires
take_row-to-requires c = c.loop-a.invariant.0

pub loop-a-preserved : goal.loop-a-preserved
loop-a-preserved c =
    let a = c.args in
    let p = program_in a.t.now in (
      c.take_row-to.ensures.place,
      c.loop-a.invariant.1 ∙ frames_next p c.outer-n.result
          (row_due p a.k) c.loop-a.a (omega arith) (progress_of a.text.now c.loop-a.to c.loop-a.w) ∙ ap
          (frames_from p c.outer-n.result (row_due p a.k) _) (sym c.take_row-to.ensures.progress),
    )

pub returns : goal.returns
unfolding part_due
returns c =
    let a = c.args in
    let p = program_in a.t.now in
    record {
      place = c.loop-a.invariant.0;
      progress = sym
          (c.loop-a.invariant.1 ∙ frames_end_lem p c.outer-n.result (row_due p a.k) c.loop-a.a
          (omega arith) (progress_of a.text.now c.loop-a.to c.loop-a.w)) ∙ ap
          (λ (n : ℕ). take_frames p (joined n (row_due p a.k)) (progress_of a.text.now a.from a.w.now))
          c.outer-n.ensures.value;
    }
