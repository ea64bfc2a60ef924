-- `transfer::site::Site::take_callee` meets its contract. Assumes nothing.
use mathlib.Core.Path.{◌≡◌, sym, ap, ◌∙◌}
use native.Mathlib.Omega.{arith}
use Rattle.flow.specs.Claim.{register_at}
use Rattle.flow.specs.Rules.{parameter}
use Rattle.slots.specs.Layout.{claim_in}
use Rattle.carry.specs.Carried.{arguments_from}
use Rattle.order.proofs.Raising.{raised_both}
use Rattle.raise.proofs.Places.{own_inside}
use Rattle.transfer.specs.Transfer.{from_callee}
use Rattle.raise.proofs.AtOnce.{not_empty}
use Rattle.transfer.proofs.Called.{called_none, called_some}
use Rattle.transfer.specs.Site.{program_of}
use Rattle.transfer.proofs.site.Site.take_callee.Goals as goal

pub returns-then-is_empty : goal.returns-then-is_empty
returns-then-is_empty c =
    record {
      raised = λ some callee formed lm lp.
          let a = c.args in
          let s = a.self.now in
          called_none (program_of s) s.method s.address a.count a.register a.q a.receivers (claim_in a.w.now)
          (sym c.is_empty.ensures.value ∙ c.if-is_empty.true);
    }

pub returns-then-q-lt16 : goal.returns-then-q-lt16
returns-then-q-lt16 c =
    record {
      raised = λ some callee formed lm lp.
          let a = c.args in
          let s = a.self.now in
          let p = program_of s in
          let q = a.q in
          let one = sym c.is_empty.ensures.value ∙ c.if-is_empty.false in
          let (k, t) = not_empty a.receivers one in
          let (lq, same) = callee k t in
          let there = register_at q 0 (parameter p q 0) in
          let place : register_at q 0 c.locals.result ≡ there = ap (register_at q 0) (omega (arith, c.locals.ensures.value)) in
          let f = formed.methods q lq in
          called_some p s.method s.address a.count a.register q a.receivers _ _ _ one
          ((rw place at c.join-entered.ensures.joined)
          (own_inside p formed there (lq, omega (arith, f.code_from), omega (arith, f.arguments_to, same))))
          (raised_both (arguments_from p s.method s.address q 1 a.count a.register) (from_callee p s.method s.address q) _ _ _
          (c.pass_arguments-given.ensures.raised formed lq same) (c.come_back-back.ensures.raised formed lm lp));
    }

pub returns : goal.returns
returns c =
    record {
      raised = λ some callee formed lm lp.
          let a = c.args in
          let s = a.self.now in
          let one = sym c.is_empty.ensures.value ∙ c.if-is_empty.false in
          let (k, t) = not_empty a.receivers one in
          let (lq, same) = callee k t in
          absurd (omega (arith, formed.limited.methods));
    }
