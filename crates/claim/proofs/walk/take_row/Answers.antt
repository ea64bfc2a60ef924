-- `claim::walk::take_row` meets its contract. The loop's invariant: the frames from number b on, taken where the walk stands,
-- are all frames taken where it began. Assumes nothing.
use mathlib.Core.Path.{sym, ap, ◌∙◌}
use Prim.Native.Nat.{ℕ}
use Rattle.program.specs.Lists.{joined}
use Rattle.program.specs.Tables.{program_in}
use Rattle.claim.specs.Frames.{frame_at}
use Rattle.claim.specs.ReadClaim.{take_frames}
use Rattle.claim.specs.Inside.{progress_of}
use Rattle.claim.proofs.FrameLists.{frames_from, frames_start, frames_next, frames_end_lem}
use native.Mathlib.Omega.{arith}
use Rattle.claim.proofs.walk.take_row.Goals as goal

pub loop-b-init : goal.loop-b-init
loop-b-init c =
    let a = c.args in
    let p = program_in a.t.now in (
      c.requires,
      frames_start p c.inner-n.result (frame_at p a.k a.a)
          (progress_of a.text.now a.from a.w.now),
    )

pub take_at-to-requires : goal.take_at-to-requires
take_at-to-requires c = c.loop-b.invariant.0

pub loop-b-preserved : goal.loop-b-preserved
loop-b-preserved c =
    let a = c.args in
    let p = program_in a.t.now in (
      c.take_at-to.ensures.place,
      c.loop-b.invariant.1 ∙ frames_next p c.inner-n.result
          (frame_at p a.k a.a) c.loop-b.b (omega arith) (progress_of a.text.now c.loop-b.to c.loop-b.w) ∙ ap
          (frames_from p c.inner-n.result (frame_at p a.k a.a) _) (sym c.take_at-to.ensures.progress),
    )

pub returns : goal.returns
returns c =
    let a = c.args in
    let p = program_in a.t.now in
    record {
      place = c.loop-b.invariant.0;
      progress = sym
          (c.loop-b.invariant.1 ∙ frames_end_lem p c.inner-n.result (frame_at p a.k a.a) c.loop-b.b
          (omega arith) (progress_of a.text.now c.loop-b.to c.loop-b.w)) ∙ ap
          (λ (n : ℕ). take_frames p (joined n (frame_at p a.k a.a)) (progress_of a.text.now a.from a.w.now))
          c.inner-n.ensures.value;
    }
