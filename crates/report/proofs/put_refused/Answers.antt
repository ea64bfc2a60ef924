-- `report::put_refused` meets its contract. Assumes nothing.
use Rattle.page.proofs.OnPages.{◌⨾◌}
use Rattle.report.proofs.put_refused.Goals as goal

pub returns : goal.returns
returns c = record { put = c.put.ensures.put ⨾ c.two.ensures.put ⨾ c.byte.ensures.put ⨾ c.eight.ensures.put ⨾ c.byte-2.ensures.put }
