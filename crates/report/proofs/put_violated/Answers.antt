-- `report::put_violated` meets its contract. Assumes nothing.
use Rattle.page.proofs.OnPages.{◌⨾◌}
use Rattle.report.proofs.put_violated.Goals as goal

pub returns : goal.returns
returns c = record { put = c.put.ensures.put ⨾ c.put_three.ensures.put }
