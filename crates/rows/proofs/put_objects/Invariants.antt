-- `rows::put_objects`: what its loop keeps.
use Rattle.page.specs.OnPage.{PutOn}
use Rattle.rows.specs.State.{object_name}
use Rattle.rows.specs.Rows.{rows_text}
use Rattle.rows.proofs.put_objects.Given as goal

abbrev pub invariant-loop-i : goal.invariant-loop-i
invariant-loop-i l = PutOn l.initial.page (rows_text object_name l.objects 17 1 l.fields l.i) l.page
