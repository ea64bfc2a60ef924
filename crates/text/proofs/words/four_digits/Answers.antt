-- `text::words::four_digits` meets its contract: the word after that of four digits `0`, packed. Assumes nothing.
use native.Mathlib.Omega.{arith}
use Rattle.text.specs.Words.{four_of}
use Rattle.text.proofs.WordLists.{word_after_zeros}
use Rattle.text.proofs.words.four_digits.Goals as goal

pub four-requires : goal.four-requires
four-requires c = c.requires

pub overflow_mul-four : goal.overflow_mul-four
overflow_mul-four c = omega (arith, c.four.ensures.range)

pub overflow_add-four : goal.overflow_add-four
overflow_add-four c = omega (arith, c.four.ensures.range)

pub returns : goal.returns
unfolding four_of
returns c = record { value = rw (c.packed.ensures.value, c.four.ensures.value, word_after_zeros) }
