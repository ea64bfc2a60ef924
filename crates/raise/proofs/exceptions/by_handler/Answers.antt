-- `raise::exceptions::by_handler` meets its contract. Assumes nothing.
use mathlib.Core.Path.{◌≡◌}
use Prim.Native.Nat.{◌+◌, ◌-◌, ◌<◌}
use native.Mathlib.Omega.{arith}
use Rattle.program.specs.Program.{handler_count}
use Rattle.program.specs.Tables.{program_in}
use Rattle.flow.specs.Claim.{leaving}
use Rattle.slots.specs.Layout.{claim_in}
use Rattle.sets.proofs.Handlers.{only_classes, rest_start, rest_more}
use Rattle.raise.proofs.Places.{own_inside}
use Rattle.raise.proofs.ByHandler.{partial_start, partial_more, partial_end, for_mask}
use Rattle.raise.proofs.exceptions.by_handler.Goals as goal

pub loop-h-init : goal.loop-h-init
loop-h-init c =
    let a = c.args in
    let p = program_in a.sets.now.tables.now in
    let rest = c.common-rest.result in
    rw c.handler_count-h.ensures.value
    record {
      rest = rest_start p a.m a.pc rest (only_classes p a.mask rest c.classes.result c.common-rest.ensures.bits c.classes.ensures.bits);
      partly = λ formed lm. partial_start p a.m a.pc rest (claim_in a.w.now);
    }

pub loop-h-preserved : goal.loop-h-preserved
loop-h-preserved c =
    let a = c.args in
    let p = program_in a.sets.now.tables.now in
    let rest = c.common-rest.result in
    let h = c.loop-h.h - 1 in
    let next : c.loop-h.h ≡ h + 1 = omega arith in
    let l : h < handler_count p a.m = omega (arith, c.loop-h.auto.h, c.handler_count-h.ensures.value) in
    let so_far = rw next at c.loop-h.invariant.rest in
    let partly = rw next at c.loop-h.invariant.partly in
    let bits = c.caught-taken.ensures.bits in
    record {
      rest = rest_more p a.m a.pc rest h l c.loop-h.rest c.caught-taken.result so_far bits c.without-rest.result c.without-rest.ensures.bits;
      partly = λ formed lm.
          let into = rw c.handler_target.ensures.value at c.take_into-new.ensures.raised in
          partial_more p a.m a.pc rest h l c.loop-h.rest c.caught-taken.result so_far bits _ _ _ (partly formed lm)
          (into formed lm ((formed.methods a.m lm).target h l));
    }

pub returns : goal.returns
returns c =
    record {
      raised = λ formed lm.
          let a = c.args in
          let p = program_in a.sets.now.tables.now in
          let all : c.loop-h.h ≡ 0 = omega arith in
          let left = rw all at c.loop-h.invariant.rest in
          let partly = rw all at c.loop-h.invariant.partly in
          for_mask p a.m a.pc a.mask c.common-rest.result c.classes.result c.common-rest.ensures.bits c.classes.ensures.bits _ _
          (partial_end p a.m a.pc c.common-rest.result c.loop-h.rest left _ _ _ (partly formed lm)
          (c.join.ensures.joined (own_inside p formed (leaving a.m) lm)));
    }
