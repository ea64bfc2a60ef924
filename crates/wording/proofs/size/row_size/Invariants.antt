-- `wording::size::row_size`: what its loop keeps: the size is that of the frames before the next.
use Rattle.std.proofs.Common.{◌≡◌, ◌*◌, ◌≤◌, length}
use Rattle.program.specs.Lists.{joined}
use Rattle.program.specs.Tables.{program_in}
use Rattle.flow.specs.Claim.{Claim}
use Rattle.claim.specs.Frames.{frame_at}
use Rattle.wording.specs.ClaimText.{frames_text}
use Rattle.wording.proofs.size.row_size.Given as goal

abbrev pub invariant-loop-b : goal.invariant-loop-b
invariant-loop-b l = record {
  most : l.size ≤ 4103 * l.b;
  is : (c : Claim) → l.size ≡ length (frames_text c (joined l.b (frame_at (program_in l.t) l.k l.a)));
}
