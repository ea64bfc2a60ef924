-- `words::put_placed` meets its contract. Assumes nothing.
use Rattle.page.proofs.OnPages.{◌⨾◌}
use Rattle.words.proofs.put_placed.Goals as goal

pub returns : goal.returns
returns c = record { put = c.put_label.ensures.put ⨾ c.put_words.ensures.put ⨾ c.put_place.ensures.put }
