-- `page::Page::byte` meets its contract. Assumes nothing.
use Rattle.std.proofs.Common.{refl}
use Rattle.page.proofs.Puts.{put_inside, put_outside}
use Rattle.page.proofs.Page.byte.Goals as goal

pub returns-then-self : goal.returns-then-self
returns-then-self c = record { put = record { buffer = refl; put = put_inside _ _ _ c.if-self.true } }

pub returns-else-self : goal.returns-else-self
returns-else-self c = record { put = record { buffer = refl; put = put_outside _ _ _ c.if-self.false } }
