-- `report::run::write_run` meets its contract. Assumes nothing.
use Rattle.std.proofs.Common.{rules}
use Rattle.page.proofs.OnPages.{lent_back}
use Rattle.report.proofs.run.write_run.Goals as goal

pub returns : goal.returns
returns c = record { bytes = lent_back c.put_run.ensures.put (search rules) }
