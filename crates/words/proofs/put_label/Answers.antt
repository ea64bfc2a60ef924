-- `words::put_label` meets its contract. Assumes nothing.
use Rattle.page.proofs.OnPages.{◌⨾◌}
use Rattle.words.proofs.put_label.Goals as goal

pub returns : goal.returns
returns c = record { put = c.put.ensures.put ⨾ c.decimal.ensures.put ⨾ c.put-2.ensures.put }
