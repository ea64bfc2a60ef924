-- `page::Page::two` meets its contract. Assumes nothing.
use Rattle.page.proofs.OnPages.{◌⨾◌}
use Rattle.page.proofs.Page.two.Goals as goal

pub returns : goal.returns
returns c = rw (← c.digit.ensures.value, ← c.digit-2.ensures.value) record { put = c.byte.ensures.put ⨾ c.byte-2.ensures.put }
