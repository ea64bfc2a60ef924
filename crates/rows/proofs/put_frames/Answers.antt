-- `rows::put_frames` meets its contract. Assumes nothing.
use mathlib.Core.List.{[]}
use Rattle.page.proofs.OnPages.{on_none}
use Rattle.rows.specs.Rows.{frame_rows}
use Rattle.rows.proofs.Loops.{put_joined}
use Rattle.rows.proofs.put_frames.Goals as goal

pub loop-i-init : goal.loop-i-init
unfolding frame_rows
loop-i-init c = on_none _

pub loop-i-preserved : goal.loop-i-preserved
unfolding frame_rows
loop-i-preserved c = put_joined [] _ c.loop-i.i c.loop-i.invariant c.put_frame.ensures.put
