-- `sets::Sets::fails_cast` meets its contract. Assumes nothing.
use Rattle.std.proofs.Common.{◌≡◌, ap, ◌∙◌, Bool, not, ◌&&◌, ℕ, ltb}
use Rattle.mask.specs.Mask.{has}
use Rattle.program.specs.Program.{class_count}
use Rattle.program.specs.Tables.{program_in}
use Rattle.mask.proofs.Laws.{empty_subset}
use Rattle.mask.proofs.Sets.{no_bit}
use Rattle.search.specs.Search.{below}
use Rattle.slots.specs.Layout.{mask_of}
use Rattle.sets.proofs.Failing.{left_out, others_fail}
use Rattle.sets.proofs.Sets.fails_cast.Goals as goal

pub returns : goal.returns
returns c =
    let a = c.args in
    let p = program_in a.self.now.tables.now in
    let others = c.without.result in
    let bits : (k : ℕ) → has others k ≡ has a.mask k && (ltb k (class_count p) && not (below p k a.c)) =
    λ k. c.without.ensures.bits k
    ∙ ap (λ (b : Bool). b && not (has c.below.result k)) (c.common.ensures.bits k ∙ ap (◌&&◌ (has a.mask k)) (c.classes.ensures.bits k))
    ∙ ap (λ (b : Bool). (has a.mask k && ltb k (class_count p)) && not b) (c.below.ensures.bits k)
    ∙ left_out (has a.mask k) (ltb k (class_count p)) (below p k a.c) in
    record { value = ap not (c.is_empty.ensures.value ∙ empty_subset others (mask_of 0) no_bit) ∙ others_fail p a.mask others a.c bits }
