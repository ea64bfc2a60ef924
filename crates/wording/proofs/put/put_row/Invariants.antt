-- `wording::put::put_row`: what its loop keeps: the frames before the next are put.
use Rattle.page.specs.OnPage.{PutOn}
use Rattle.program.specs.Lists.{joined}
use Rattle.program.specs.Tables.{program_in}
use Rattle.slots.specs.Layout.{claim_in}
use Rattle.claim.specs.Frames.{frame_at}
use Rattle.wording.specs.ClaimText.{frames_text}
use Rattle.wording.proofs.put.put_row.Given as goal

abbrev pub invariant-loop-b : goal.invariant-loop-b
invariant-loop-b l = PutOn l.initial.page (frames_text (claim_in l.w) (joined l.b (frame_at (program_in l.t) l.k l.a))) l.page
