-- `wording::put::put_field` meets its contract. Assumes nothing.
use Rattle.std.proofs.Common.{sym, ◌∙◌}
use Rattle.page.proofs.OnPages.{on_none}
use Rattle.wording.proofs.put.put_field.Goals as goal

pub returns-else-has_field : goal.returns-else-has_field
returns-else-has_field c = record { put = rw (sym c.has_field.ensures.value ∙ c.if-has_field.false) (on_none _) }
