-- `wording::put::put_row` meets its contract. Assumes nothing.
use Rattle.std.proofs.Common.{ℕ, List}
use Rattle.page.proofs.OnPages.{on_none}
use Rattle.program.specs.Tables.{program_in}
use Rattle.slots.specs.Layout.{claim_in}
use Rattle.claim.specs.Frames.{Due, frame_at}
use Rattle.wording.proofs.Texts.{frames_more}
use Rattle.wording.proofs.put.put_row.Goals as goal

pub loop-b-init : goal.loop-b-init
loop-b-init c = on_none _

pub loop-b-preserved : goal.loop-b-preserved
loop-b-preserved c =
    let a = c.args in
    let frames : ℕ → List Due = frame_at (program_in a.t.now) a.k a.a in
    frames_more (claim_in a.w.now) frames c.loop-b.b c.loop-b.invariant c.put_frame.ensures.put
