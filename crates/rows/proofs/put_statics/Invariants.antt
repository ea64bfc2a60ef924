-- `rows::put_statics`: what its loop keeps.
use Rattle.page.specs.OnPage.{PutOn}
use Rattle.rows.specs.State.{static_name}
use Rattle.rows.specs.Rows.{rows_text}
use Rattle.rows.proofs.put_statics.Given as goal

abbrev pub invariant-loop-i : goal.invariant-loop-i
invariant-loop-i l = PutOn l.initial.page (rows_text static_name l.statics 1 0 1 l.i) l.page
