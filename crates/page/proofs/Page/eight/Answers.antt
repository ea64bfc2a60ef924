-- `page::Page::eight` meets its contract. Assumes nothing.
use Rattle.page.proofs.OnPages.{◌⨾◌}
use Rattle.page.proofs.Page.eight.Goals as goal

pub returns : goal.returns
returns c = record { put = c.two.ensures.put ⨾ c.two-2.ensures.put ⨾ c.two-3.ensures.put ⨾ c.two-4.ensures.put }
