-- `text::words::eight` meets its contract: the word of the bytes there. Assumes nothing.
use mathlib.Core.Path.{◌∙◌}
use Rattle.text.proofs.WordLists.{eight_bytes}
use Rattle.text.proofs.words.eight.Goals as goal

pub returns : goal.returns
returns c = record { value = c.from_le_bytes.ensures ∙ eight_bytes c.args.text.now c.args.at c.requires }
