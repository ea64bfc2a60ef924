-- `wording::put::put_line` meets its contract. Assumes nothing.
use Rattle.page.proofs.OnPages.{◌⨾◌}
use Rattle.wording.proofs.put.put_line.Goals as goal

pub returns : goal.returns
returns c = record { put = c.put_numbers.ensures.put ⨾ c.put_mask.ensures.put ⨾ c.byte.ensures.put }
