-- `page::packed::digits` meets its contract. Assumes nothing.
use Rattle.std.proofs.Common.{◌∙◌}
use Rattle.page.proofs.Bytes.{both_words, both_said}
use Rattle.page.proofs.packed.digits.Goals as goal

pub returns : goal.returns
returns c = record {
  value = c.to_le_bytes.ensures
      ∙ both_words _ _ c.pack-high.type_inv c.pack-low.type_inv
      ∙ both_said c.pack-high.ensures.value c.pack-low.ensures.value;
}
