-- `translator::put::put_line` meets its contract. Assumes nothing.
use Rattle.page.proofs.OnPages.{◌⨾◌, on_as}
use Rattle.translator.proofs.put.put_line.Goals as goal

pub returns : goal.returns
returns c = record { put = c.two.ensures.put ⨾ (on_as c.put.ensures.put c.digits.ensures.value) ⨾ c.byte.ensures.put }
