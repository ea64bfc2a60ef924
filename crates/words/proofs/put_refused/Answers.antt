-- `words::put_refused` meets its contract. Assumes nothing.
use Rattle.page.proofs.OnPages.{◌⨾◌}
use Rattle.words.proofs.put_refused.Goals as goal

pub returns : goal.returns
returns c = record { put = c.put_line.ensures.put ⨾ c.put_words.ensures.put ⨾ c.byte.ensures.put }
