-- `rules::site::Site::raised` meets its contract. Assumes nothing.
use Rattle.std.specs.Prelude.{None, Some}
use mathlib.Core.Path.{◌≡◌, sym, ap, ◌∙◌}
use mathlib.Core.Bool.{true, false, ◌&&◌, ◌||◌}
use Prim.Native.Nat.{◌+◌, ◌-◌, ◌<◌}
use native.Mathlib.Omega.{arith}
use Rattle.mask.specs.Mask.{is_empty, subset}
use Rattle.program.specs.Program.{handler_count, handler_target}
use Rattle.flow.specs.Claim.{result_at}
use Rattle.flow.specs.Flows.{kept}
use Rattle.flow.specs.Rules.{carried}
use Rattle.sets.proofs.Handlers.{only_classes, rest_start, rest_more}
use Rattle.rules.specs.Site.{program_of, claim_of}
use Rattle.rules.proofs.Handlers.{same_raised, held_start, held_more, broken_here, raised_is}
use Rattle.rules.proofs.site.Site.raised.Goals as goal

pub loop-h-init : goal.loop-h-init
loop-h-init c =
    let s = c.args.self.now in
    let p = program_of s in
    let rest = c.common-rest.result in
    rw c.handler_count-h.ensures.value
    record {
      rest = rest_start p s.method s.address rest
          (only_classes p c.args.mask rest c.classes.result c.common-rest.ensures.bits c.classes.ensures.bits);
      held = held_start p (claim_of s) s.method s.address rest;
    }

pub returns-then-not-goes_into : goal.returns-then-not-goes_into
returns-then-not-goes_into c =
    let s = c.args.self.now in
    let p = program_of s in
    let cl = claim_of s in
    let h = c.loop-h.h - 1 in
    let next : c.loop-h.h ≡ h + 1 = omega arith in
    let l : h < handler_count p s.method = omega (arith, c.loop-h.auto.h, c.handler_count-h.ensures.value) in
    let to = handler_target p s.method h in
    let no : is_empty c.caught-taken.result
    || (kept cl (carried p s.method s.address to) && subset c.caught-taken.result (cl (result_at s.method to))) ≡ false =
    rw (← c.handler_target.ensures.value) (sym c.goes_into.ensures.value ∙ c.if-not-goes_into.true) in
    let rest = c.common-rest.result in
    record {
      value = sym
          (broken_here p cl s.method s.address rest h l c.loop-h.rest c.caught-taken.result (rw next at c.loop-h.invariant.rest) c.caught-taken.ensures.bits no)
          ∙ same_raised p c.args.mask rest c.classes.result c.common-rest.ensures.bits c.classes.ensures.bits cl s.method s.address;
    }

pub loop-h-preserved : goal.loop-h-preserved
loop-h-preserved c =
    let s = c.args.self.now in
    let p = program_of s in
    let cl = claim_of s in
    let bits = c.caught-taken.ensures.bits in
    let h = c.loop-h.h - 1 in
    let next : c.loop-h.h ≡ h + 1 = omega arith in
    let l : h < handler_count p s.method = omega (arith, c.loop-h.auto.h, c.handler_count-h.ensures.value) in
    let so_far = rw next at c.loop-h.invariant.rest in
    let to = handler_target p s.method h in
    let ok : is_empty c.caught-taken.result
    || (kept cl (carried p s.method s.address to) && subset c.caught-taken.result (cl (result_at s.method to))) ≡ true =
    rw (← c.handler_target.ensures.value) (sym c.goes_into.ensures.value ∙ c.if-not-goes_into.false) in
    let rest = c.common-rest.result in
    record {
      rest = rest_more p s.method s.address rest h l c.loop-h.rest c.caught-taken.result so_far bits c.without-rest.result c.without-rest.ensures.bits;
      held = held_more p cl s.method s.address rest h l c.loop-h.rest c.caught-taken.result so_far bits ok (rw next at c.loop-h.invariant.held);
    }

pub returns-then-subset : goal.returns-then-subset
returns-then-subset c =
    let s = c.args.self.now in
    let p = program_of s in
    let cl = claim_of s in
    let all : c.loop-h.h ≡ 0 = omega arith in
    let rest = c.common-rest.result in
    record {
      value = raised_is p cl s.method s.address rest c.loop-h.rest
          (rw all at c.loop-h.invariant.rest)
          (rw all at c.loop-h.invariant.held)
          c.subset.result
          (c.subset.ensures.value ∙ ap (subset c.loop-h.rest) c.mask.ensures.value)
          None
          (rw c.if-subset.true)
          ∙ same_raised p c.args.mask rest c.classes.result c.common-rest.ensures.bits c.classes.ensures.bits cl s.method s.address;
    }

pub returns-else-subset : goal.returns-else-subset
returns-else-subset c =
    let s = c.args.self.now in
    let p = program_of s in
    let cl = claim_of s in
    let all : c.loop-h.h ≡ 0 = omega arith in
    let rest = c.common-rest.result in
    record {
      value = raised_is p cl s.method s.address rest c.loop-h.rest
          (rw all at c.loop-h.invariant.rest)
          (rw all at c.loop-h.invariant.held)
          c.subset.result
          (c.subset.ensures.value ∙ ap (subset c.loop-h.rest) c.mask.ensures.value)
          (Some 10)
          (rw c.if-subset.false)
          ∙ same_raised p c.args.mask rest c.classes.result c.common-rest.ensures.bits c.classes.ensures.bits cl s.method s.address;
    }
