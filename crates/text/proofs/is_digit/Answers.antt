-- `text::is_digit` meets its contract: a byte lies before, in or after each of the two ranges of digits. Assumes nothing.
use Rattle.text.proofs.Digits.{digit_ranges}
use Rattle.text.proofs.is_digit.Goals as goal

pub returns : goal.returns
returns c = record { value = digit_ranges c.args.b }
