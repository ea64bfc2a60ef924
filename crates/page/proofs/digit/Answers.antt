-- `page::digit` meets its contract. Assumes nothing.
use Rattle.page.proofs.Sixteen.{digit_at}
use Rattle.page.proofs.digit.Goals as goal

pub returns : goal.returns
returns c = record { value = digit_at c.args.n c.requires }
