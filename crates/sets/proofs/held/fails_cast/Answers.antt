-- `sets::fails_cast` meets its contract. Assumes nothing.
use Rattle.std.proofs.Common.{◌≡◌, ap, ◌∙◌, Bool, not, ◌&&◌, ℕ, ltb}
use Rattle.mask.specs.Mask.{has}
use Rattle.mask.proofs.Laws.{empty_subset}
use Rattle.mask.proofs.Sets.{no_bit}
use Rattle.program.specs.Program.{class_count}
use Rattle.program.specs.Tables.{program_in}
use Rattle.program.proofs.Read.{classes_limit}
use Rattle.search.specs.Search.{below}
use Rattle.slots.specs.Layout.{mask_of}
use Rattle.sets.proofs.Failing.{left_out, others_fail}
use Rattle.sets.proofs.Words.{below_read, classes_read}
use Rattle.sets.proofs.held.fails_cast.Goals as goal

pub returns : goal.returns
returns c = record {
  value = λ made.
      let a = c.args in
      let p = program_in a.t.now in
      let few = classes_limit a.t.now in
      let others = c.without.result in
      let bits : (k : ℕ) → has others k ≡ has a.mask k && (ltb k (class_count p) && not (below p k a.c)) =
      λ k. c.without.ensures.bits k
      ∙ ap (λ (b : Bool). b && not (has c.below.result k))
      (c.common.ensures.bits k ∙ ap (◌&&◌ (has a.mask k)) (classes_read p few a.s.now made c.classes.result k c.classes.ensures.value))
      ∙ ap (λ (b : Bool). (has a.mask k && ltb k (class_count p)) && not b)
      (below_read p few a.s.now made c.below.result a.c k c.below.ensures.value)
      ∙ left_out (has a.mask k) (ltb k (class_count p)) (below p k a.c) in
      ap not (c.is_empty.ensures.value ∙ empty_subset others (mask_of 0) no_bit) ∙ others_fail p a.mask others a.c bits;
}
