-- `wording::size::part_size`: what its loop keeps: the size is that of the rows before the next.
use Rattle.std.proofs.Common.{◌≡◌, ◌*◌, ◌≤◌, length}
use Rattle.program.specs.Lists.{joined}
use Rattle.program.specs.Tables.{program_in}
use Rattle.flow.specs.Claim.{Claim}
use Rattle.wording.specs.ClaimText.{frames_text}
use Rattle.wording.specs.Inside.{row_due}
use Rattle.wording.proofs.size.part_size.Given as goal

abbrev pub invariant-loop-a : goal.invariant-loop-a
invariant-loop-a l = record {
  most : l.size ≤ 131296 * l.a;
  is : (c : Claim) → l.size ≡ length (frames_text c (joined l.a (row_due (program_in l.t) l.k)));
}
