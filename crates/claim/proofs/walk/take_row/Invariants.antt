-- `claim::walk::take_row`: what its loop keeps.
use mathlib.Core.Path.{◌≡◌}
use Rattle.program.specs.Lists.{joined}
use Rattle.program.specs.Tables.{program_in}
use Rattle.claim.specs.Frames.{frame_at}
use Rattle.claim.specs.ReadClaim.{take_frames}
use Rattle.claim.specs.Inside.{Placed, progress_of}
use Rattle.claim.proofs.FrameLists.{frames_from}
use Rattle.claim.proofs.walk.take_row.Given as goal

abbrev pub invariant-loop-b : goal.invariant-loop-b
invariant-loop-b l =
    Placed l.to l.text
    × (take_frames (program_in l.t) (joined l.n (frame_at (program_in l.t) l.k l.a)) (progress_of l.text l.initial.to l.initial.w)
    ≡ frames_from (program_in l.t) l.n (frame_at (program_in l.t) l.k l.a) l.b (progress_of l.text l.to l.w))
