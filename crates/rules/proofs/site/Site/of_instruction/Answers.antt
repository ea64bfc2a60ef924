-- `rules::site::Site::of_instruction` meets its contract. Assumes nothing.
use Rattle.rules.proofs.site.Site.of_instruction.Goals as goal

pub returns-in-InvokeVirtual : goal.returns-in-InvokeVirtual
returns-in-InvokeVirtual c = record { value = rw c.in-InvokeVirtual.is c.by_receiver.ensures.value }
