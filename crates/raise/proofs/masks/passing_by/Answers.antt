-- `raise::masks::passing_by` meets its contract. Assumes nothing.
use mathlib.Core.Path.{◌∙◌}
use native.Mathlib.Omega.{arith}
use Rattle.raise.proofs.MaskBits.{below_64}
use Rattle.raise.proofs.masks.passing_by.Goals as goal

pub returns : goal.returns
returns c =
    record {
      bits = λ k.
          c.common.ensures.bits k ∙ rw (c.with.ensures.bits k, c.below.ensures.bits k, below_64 62 k (omega arith));
    }
