-- `words::first_line` meets its contract. Assumes nothing.
use Rattle.std.proofs.Common.{refl}
use Rattle.words.proofs.Lines.{line_to, line_whole}
use Rattle.words.proofs.first_line.Goals as goal

pub returns-in-Some : goal.returns-in-Some
returns-in-Some c = record { value = line_to c.args.text.now _ 100 c.min.result refl c.min.ensures c.in-Some.end c.in-Some.ensures.value }

pub returns-in-None : goal.returns-in-None
returns-in-None c = record { value = line_whole c.args.text.now _ 100 c.min.result refl c.min.ensures c.in-None.ensures.value }
