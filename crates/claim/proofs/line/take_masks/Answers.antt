-- `claim::line::take_masks` meets its contract. The loop's invariant: `bits` are those of mask r, and the masks from register r on,
-- into the words so far, are all masks into the words before. Assumes nothing.
use mathlib.Core.Path.{◌≡◌, sym, ap, ◌∙◌}
use mathlib.Core.List.{[], ◌∷◌}
use Prim.Native.Nat.{ℕ, ◌+◌, ◌*◌}
use native.Mathlib.Nat.{add-zero}
use native.Mathlib.Omega.{arith}
use lib.ListN.{set}
use Rattle.text.proofs.Digits.{digits_inside}
use Rattle.text.proofs.AtOnce.{sixteen_digits}
use Rattle.instruction.specs.Word.{pick}
use Rattle.mask.specs.Mask.{subset}
use Rattle.program.specs.Lists.{tab}
use Rattle.flow.specs.Claim.{register_at}
use Rattle.slots.specs.Layout.{mask_of}
use Rattle.claim.proofs.Masks.{masks_fail, masks_start, masks_end, masks_refused, masks_taken, masks_finished}
use Rattle.claim.proofs.line.take_masks.Goals as goal

pub loop-r-init : goal.loop-r-init
loop-r-init c =
    let a = c.args in
    let here : a.at + 16 * 0 ≡ a.at = omega arith in
    let digits = digits_inside a.text.now a.at (16 * (a.n + 1)) 0 16 (omega arith) c.requires.2 in
    let first = sixteen_digits a.text.now a.at (omega (arith, c.requires.0)) (rw (add-zero a.at) at digits) in (
      rw here (c.sixteen_at-bits.ensures.value ∙ first),
      masks_start a.text.now a.allowed a.n (register_at a.m a.pc) a.at a.w.now,
    )

pub returns-then-not-put_mask : goal.returns-then-not-put_mask
returns-then-not-put_mask c = record {
  masks = λ s e.
      let a = c.args in
      let flag = c.put_mask.ensures.value ∙ ap (λ (b : ℕ). subset (mask_of b) (mask_of a.allowed)) c.loop-r.invariant.0 in
      let none = masks_refused a.text.now a.allowed a.n (register_at a.m a.pc) a.at c.loop-r.w c.loop-r.r
      (omega arith) c.put_mask.result flag c.if-not-put_mask.true in
      sym (masks_fail a.text.now a.allowed (tab a.n (register_at a.m a.pc)) (s ∷ []) a.at a.w.now (c.loop-r.invariant.1 ∙ none));
}

pub overflow_mul-r : goal.overflow_mul-r
overflow_mul-r c =
    omega (arith, c.requires)

pub overflow_add-at : goal.overflow_add-at
overflow_add-at c =
    omega (arith, c.requires, c.well_formed)

pub mask_after-bits-requires : goal.mask_after-bits-requires
mask_after-bits-requires c =
    let a = c.args in (
      omega (arith, c.requires.0),
      digits_inside a.text.now a.at (16 * (a.n + 1)) (16 * c.loop-r.r) 32 (omega arith) c.requires.2,
      c.loop-r.invariant.0,
    )

pub loop-r-preserved : goal.loop-r-preserved
loop-r-preserved c =
    let a = c.args in
    let next : a.at + 16 * c.loop-r.r + 16 ≡ a.at + 16 * (c.loop-r.r + 1) = omega arith in
    let flag = c.put_mask.ensures.value ∙ ap (λ (b : ℕ). subset (mask_of b) (mask_of a.allowed)) c.loop-r.invariant.0 in
    let words = c.put_mask.ensures.memory
    ∙ ap (λ (b : ℕ). pick c.put_mask.result (set c.loop-r.w c.place.result b) c.loop-r.w) c.loop-r.invariant.0 in (
      rw next at c.mask_after-bits.ensures.value,
      c.loop-r.invariant.1 ∙ masks_taken a.text.now a.allowed a.n (register_at a.m a.pc) a.at c.loop-r.w c.loop-r.r
          (omega arith) c.put_mask.result flag c.place.result _ c.if-not-put_mask.false c.place.ensures.value words,
    )

pub returns : goal.returns
returns c = record {
  masks = λ s e.
      let a = c.args in
      let left = c.loop-r-test.false in
      let last : c.loop-r.r ≡ a.n = omega (arith, left) in
      let done = c.loop-r.invariant.1 ∙ masks_end a.text.now a.allowed a.n (register_at a.m a.pc) a.at c.loop-r.w c.loop-r.r left in
      masks_finished a.text.now a.allowed a.n (register_at a.m a.pc) a.at c.loop-r.w a.w.now s done
      c.put_mask-2.result c.loop-r.bits a.last _ (rw last at c.loop-r.invariant.0) c.put_mask-2.ensures.value e c.put_mask-2.ensures.memory;
}
