-- `wording::put::put_registers` meets its contract. Assumes nothing.
use Rattle.std.proofs.Common.{◌∙◌, ap}
use Rattle.mask.specs.declared.Mask.{Mask}
use Rattle.page.specs.Digits.{sixteen}
use Rattle.page.proofs.OnPages.{on_none, on_as}
use Rattle.flow.specs.Claim.{register_at}
use Rattle.slots.specs.Layout.{claim_in}
use Rattle.wording.proofs.Texts.{masks_more}
use Rattle.wording.proofs.put.put_registers.Goals as goal

pub loop-r-init : goal.loop-r-init
loop-r-init c = record { kept = c.digits-digits.ensures.value; put = on_none _ }

pub loop-r-preserved : goal.loop-r-preserved
loop-r-preserved c =
    let digits = c.digits_after-digits.ensures.digits c.loop-r.invariant.kept in
    let same = ap (λ (k : Mask). sixteen k.bits) c.mask-mask.ensures.value in
    let put = on_as c.put.ensures.put (digits ∙ same) in
    record { kept = digits; put = masks_more (claim_in c.args.w.now) (register_at c.args.m c.args.pc) c.loop-r.r c.loop-r.invariant.put put }
