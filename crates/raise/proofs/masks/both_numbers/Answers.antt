-- `raise::masks::both_numbers` meets its contract. Assumes nothing.
use mathlib.Core.Path.{◌∙◌}
use native.Mathlib.Omega.{arith}
use Rattle.raise.proofs.MaskBits.{below_64}
use Rattle.raise.proofs.masks.both_numbers.Goals as goal

pub returns : goal.returns
returns c =
    record {
      bits = λ k.
          c.with.ensures.bits k ∙ rw (c.of.ensures.bits k, below_64 62 k (omega arith), below_64 63 k (omega arith));
    }
