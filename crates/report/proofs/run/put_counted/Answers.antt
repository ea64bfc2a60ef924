-- `report::run::put_counted` meets its contract. Assumes nothing.
use Rattle.page.proofs.OnPages.{◌⨾◌}
use Rattle.report.proofs.run.put_counted.Goals as goal

pub returns : goal.returns
returns c = record { put = c.put.ensures.put ⨾ c.put_count.ensures.put }
