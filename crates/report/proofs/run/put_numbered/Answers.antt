-- `report::run::put_numbered` meets its contract. Assumes nothing.
use Rattle.page.proofs.OnPages.{◌⨾◌}
use Rattle.report.proofs.run.put_numbered.Goals as goal

pub returns : goal.returns
returns c = record { put = c.put.ensures.put ⨾ c.two.ensures.put ⨾ (c.byte.ensures.put ⨾ c.put_count.ensures.put) }
