-- `report::run::put_count` meets its contract. Assumes nothing.
use Rattle.page.proofs.OnPages.{◌⨾◌}
use Rattle.report.proofs.run.put_count.Goals as goal

pub returns : goal.returns
returns c = record { put = c.eight.ensures.put ⨾ c.put_pending.ensures.put ⨾ c.byte.ensures.put }
