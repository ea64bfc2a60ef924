-- `text::words::four` meets its contract: the word of the bytes there. Assumes nothing.
use mathlib.Core.Path.{◌∙◌}
use Rattle.text.proofs.WordLists.{four_bytes}
use Rattle.text.proofs.words.four.Goals as goal

pub returns-clause-value : goal.returns-clause-value
returns-clause-value c = c.from_le_bytes.ensures ∙ four_bytes c.args.text.now c.args.at c.requires
