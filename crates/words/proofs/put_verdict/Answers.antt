-- `words::put_verdict` meets its contract. Assumes nothing.
use Rattle.page.proofs.OnPages.{on_none}
use Rattle.words.proofs.put_verdict.Goals as goal

pub returns-in-Accepted : goal.returns-in-Accepted
returns-in-Accepted c = record { put = rw c.in-Accepted.is (on_none _) }
