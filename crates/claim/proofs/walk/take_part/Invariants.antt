-- `claim::walk::take_part`: what its loop keeps.
use mathlib.Core.Path.{◌≡◌}
use Rattle.program.specs.Lists.{joined}
use Rattle.program.specs.Tables.{program_in}
use Rattle.claim.specs.ReadClaim.{take_frames}
use Rattle.claim.specs.Inside.{Placed, progress_of}
use Rattle.claim.proofs.FrameLists.{row_due, frames_from}
use Rattle.claim.proofs.walk.take_part.Given as goal

abbrev pub invariant-loop-a : goal.invariant-loop-a
invariant-loop-a l =
    Placed l.to l.text
    × (take_frames (program_in l.t) (joined l.n (row_due (program_in l.t) l.k)) (progress_of l.text l.initial.to l.initial.w)
    ≡ frames_from (program_in l.t) l.n (row_due (program_in l.t) l.k) l.a (progress_of l.text l.to l.w))
