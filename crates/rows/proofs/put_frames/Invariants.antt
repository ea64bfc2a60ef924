-- `rows::put_frames`: what its loop keeps.
use Rattle.page.specs.OnPage.{PutOn}
use Rattle.program.specs.Tables.{program_in}
use Rattle.rows.specs.Rows.{frame_rows}
use Rattle.rows.proofs.put_frames.Given as goal

abbrev pub invariant-loop-i : goal.invariant-loop-i
invariant-loop-i l = PutOn l.initial.page (frame_rows (program_in l.t) l.frames l.i) l.page
