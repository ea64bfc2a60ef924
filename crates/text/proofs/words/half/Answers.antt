-- `text::words::half` meets its contract. Assumes nothing.
use native.Mathlib.Omega.{arith}
use Rattle.text.proofs.words.half.Goals as goal

pub eight-requires : goal.eight-requires
eight-requires c = c.requires

pub returns : goal.returns
returns c = record { value = rw (c.packed.ensures.value, c.eight.ensures.value); range = omega arith }
