-- `rows::put_row`: what its loops keep.
use Rattle.std.proofs.Common.{◌++◌, ◌+◌}
use Rattle.page.specs.OnPage.{PutOn}
use Rattle.rows.specs.Rows.{heads_text, cells_text}
use Rattle.rows.proofs.put_row.Given as goal

abbrev pub invariant-loop-i : goal.invariant-loop-i
invariant-loop-i l = PutOn l.fn.page (l.name ++ heads_text l.words l.from l.i) l.page

abbrev pub invariant-loop-i-2 : goal.invariant-loop-i-2
invariant-loop-i-2 l = PutOn l.fn.page (l.name ++ heads_text l.words l.from l.heads ++ cells_text l.words (l.from + l.heads) l.i) l.page
