-- `carry::row_in` meets its contract. Assumes nothing.
use Rattle.std.proofs.Common.{Bool, ◌&&◌, sym, ap, ◌∙◌}
use native.Mathlib.Numerals.{add-one}
use Rattle.mask.proofs.Laws.{empty_all}
use Rattle.mask.proofs.Sets.{every_more}
use Rattle.carry.specs.Carried.{word_in}
use Rattle.carry.proofs.Rows.{gathered}
use Rattle.carry.proofs.row_in.Goals as goal

pub loop-r-init : goal.loop-r-init
loop-r-init c = empty_all _ c.empty-out.ensures.bits

pub loop-r-preserved : goal.loop-r-preserved
loop-r-preserved c =
    let a = c.args in
    let r = c.loop-r.r in
    let one = gathered c.loop-r.out _ _ _ _ c.without.ensures.bits c.join-out.ensures.bits in
    let word = word_in a.w.now a.from a.to in
    rw (add-one r) (one ∙ ap (λ (t : Bool). t && word r) c.loop-r.invariant ∙ sym (every_more r word))
