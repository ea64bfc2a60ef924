-- `words::put_place` meets its contract. Assumes nothing.
use Rattle.page.proofs.OnPages.{◌⨾◌}
use Rattle.words.proofs.put_place.Goals as goal

pub returns : goal.returns
returns c = record { put = c.put.ensures.put ⨾ c.decimal.ensures.put ⨾ c.put-2.ensures.put ⨾ c.decimal-2.ensures.put ⨾ c.byte.ensures.put }
