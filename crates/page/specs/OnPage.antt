-- A text that is put on a page. Definitions only.
use Rattle.std.specs.Prelude.{◌≡◌, List, ℕ}
use Rattle.page.specs.declared.Page.{Page}
use Rattle.page.specs.Page.{Put}

-- the page after it: the same buffer, with the text put from the page's place on
pub record PutOn (before : Page) (text : List ℕ) (after : Page) : Type 0 where
  pub buffer : after.out.ghost_name ≡ before.out.ghost_name
  pub put : Put before.out.now before.at text after.out.now after.at
