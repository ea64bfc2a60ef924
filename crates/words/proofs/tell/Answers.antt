-- `words::tell` meets its contract. Assumes nothing.
use Rattle.std.proofs.Common.{rules}
use Rattle.page.proofs.OnPages.{lent_back}
use Rattle.words.proofs.tell.Goals as goal

pub returns : goal.returns
returns c = record { words = lent_back c.put_verdict.ensures.put (search rules) }
