-- `raise::masks::of_number` meets its contract. Assumes nothing.
use mathlib.Core.Path.{◌∙◌}
use native.Mathlib.Omega.{arith}
use Rattle.arithmetic.proofs.Tests.{is_zero_lem, not_zero}
use Rattle.raise.proofs.MaskBits.{one_bit}
use Rattle.raise.proofs.masks.of_number.Goals as goal

pub returns-then-value-eq0 : goal.returns-then-value-eq0
returns-then-value-eq0 c =
    record {
      bits = λ k.
          one_bit c.of.result 62 (omega arith) c.of.ensures.bits k ∙ rw (is_zero_lem c.args.value c.ranges.value c.if-value-eq0.true);
    }

pub returns-else-value-eq0 : goal.returns-else-value-eq0
returns-else-value-eq0 c =
    record {
      bits = λ k.
          one_bit c.of-else-value-eq0.result 63 (omega arith) c.of-else-value-eq0.ensures.bits k
          ∙ rw (not_zero c.args.value c.ranges.value c.if-value-eq0.false).0;
    }
