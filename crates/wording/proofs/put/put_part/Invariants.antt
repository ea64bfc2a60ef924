-- `wording::put::put_part`: what its loop keeps: the rows before the next are put.
use Rattle.page.specs.OnPage.{PutOn}
use Rattle.program.specs.Lists.{joined}
use Rattle.program.specs.Tables.{program_in}
use Rattle.slots.specs.Layout.{claim_in}
use Rattle.wording.specs.ClaimText.{frames_text}
use Rattle.wording.specs.Inside.{row_due}
use Rattle.wording.proofs.put.put_part.Given as goal

abbrev pub invariant-loop-a : goal.invariant-loop-a
invariant-loop-a l = PutOn l.initial.page (frames_text (claim_in l.w) (joined l.a (row_due (program_in l.t) l.k))) l.page
