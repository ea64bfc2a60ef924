-- `words::put_line` meets its contract. Assumes nothing.
use borrow.Author.Tests.{eq-eqb}
use Rattle.page.proofs.OnPages.{on_none}
use Rattle.words.proofs.put_line.Goals as goal

pub returns-else-line-ne0 : goal.returns-else-line-ne0
returns-else-line-ne0 c = record { put = rw (eq-eqb c.args.line 0 c.if-line-ne0.false) (on_none _) }
