-- `sets::Sets::with_field` meets its contract. Assumes nothing.
use Rattle.std.proofs.Common.{ap, ◌∙◌, ◌&&◌, ℕ, ltb}
use Rattle.mask.specs.Mask.{has}
use Rattle.program.specs.Program.{class_count}
use Rattle.program.specs.Tables.{program_in}
use Rattle.program.proofs.Read.{classes_limit}
use Rattle.search.specs.Search.{below}
use Rattle.sets.proofs.Selected.{having}
use Rattle.sets.proofs.Sets.with_field.Goals as goal

pub returns : goal.returns
returns c = record {
  bits = λ k.
      let a = c.args in
      let t = a.self.now.tables.now in
      let p = program_in t in
      c.common.ensures.bits k
      ∙ ap (◌&&◌ (has a.mask k))
      (c.below.ensures.bits k
      ∙ ap (λ (i : ℕ). ltb k (class_count p) && below p k i) c.field_class.ensures.value
      ∙ having p (classes_limit t) k a.field);
}
