-- `sets::with_field` meets its contract. Assumes nothing.
use Rattle.std.proofs.Common.{ap, ◌∙◌, ◌&&◌, ℕ, ltb}
use Rattle.mask.specs.Mask.{has}
use Rattle.program.specs.Program.{class_count}
use Rattle.program.specs.Tables.{program_in}
use Rattle.program.proofs.Read.{classes_limit}
use Rattle.search.specs.Search.{below}
use Rattle.sets.proofs.Selected.{having}
use Rattle.sets.proofs.Words.{below_read}
use Rattle.sets.proofs.held.with_field.Goals as goal

pub returns : goal.returns
returns c = record {
  bits = λ made k.
      let a = c.args in
      let p = program_in a.t.now in
      let few = classes_limit a.t.now in
      c.common.ensures.bits k
      ∙ ap (◌&&◌ (has a.mask k))
      (below_read p few a.s.now made c.below.result c.field_class.result k c.below.ensures.value
      ∙ ap (λ (i : ℕ). ltb k (class_count p) && below p k i) c.field_class.ensures.value
      ∙ having p few k a.field);
}
