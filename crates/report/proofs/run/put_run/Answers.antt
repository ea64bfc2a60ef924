-- `report::run::put_run` meets its contract. Assumes nothing.
use Rattle.page.proofs.OnPages.{◌⨾◌}
use Rattle.report.proofs.run.put_run.Goals as goal

pub returns-in-Ran : goal.returns-in-Ran
returns-in-Ran c = record { put = rw c.in-Ran.is (c.put_halt.ensures.put ⨾ c.put_state.ensures.put) }
