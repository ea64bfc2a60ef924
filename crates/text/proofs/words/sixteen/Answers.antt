-- `text::words::sixteen` meets its contract: what each half says. Assumes nothing.
use native.Mathlib.Omega.{arith}
use Rattle.text.specs.Words.{sixteen_of}
use Rattle.text.proofs.words.sixteen.Goals as goal

pub overflow_mul-result : goal.overflow_mul-result
overflow_mul-result c = omega (arith, c.half.ensures.range)

pub overflow_add-result : goal.overflow_add-result
overflow_add-result c = omega (arith, c.half.ensures.range, c.half-2.ensures.range)

pub returns : goal.returns
unfolding sixteen_of
returns c = record { value = rw (c.half.ensures.value, c.half-2.ensures.value) }
