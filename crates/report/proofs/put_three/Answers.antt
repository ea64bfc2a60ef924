-- `report::put_three` meets its contract. Assumes nothing.
use Rattle.page.proofs.OnPages.{◌⨾◌}
use Rattle.report.proofs.put_three.Goals as goal

pub returns : goal.returns
returns c = record { put = c.two.ensures.put ⨾ c.byte.ensures.put ⨾ c.two-2.ensures.put ⨾ c.byte-2.ensures.put ⨾ c.two-3.ensures.put ⨾ c.byte-3.ensures.put }
