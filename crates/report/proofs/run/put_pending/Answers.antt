-- `report::run::put_pending` meets its contract. Assumes nothing.
use Rattle.page.proofs.OnPages.{on_none, ◌⨾◌}
use Rattle.report.proofs.run.put_pending.Goals as goal

pub returns-in-Some : goal.returns-in-Some
returns-in-Some c = record { put = rw c.in-Some.is (c.byte.ensures.put ⨾ c.two.ensures.put) }

pub returns-in_default : goal.returns-in_default
returns-in_default c = record { put = rw c.in_default.is (on_none _) }
