-- `command::command_of` meets its contract. Assumes nothing.
use mathlib.Core.Path.{◌≡◌, refl}
use native.Mathlib.Omega.{arith}
use Rattle.std.proofs.Common.{rules}
use Rattle.std.proofs.lemmas.Slice.Eq.{text_from_reads}
use Rattle.command.specs.Command.{long_help_word}
use Rattle.command.proofs.command_of.Goals as goal

-- the longest word
pub returns-in-1-eq45 : goal.returns-in-1-eq45
returns-in-1-eq45 c =
    let word : c.args.first.now ≡ long_help_word =
    text_from_reads c.args.first.now long_help_word (omega (arith, c.in-1-eq45.len_below, c.in-1-eq45.len_at_least)) (search rules) in
    record { value = rw (word, c.in-1-eq45.is-0) refl }
