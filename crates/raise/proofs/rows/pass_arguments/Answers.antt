-- `raise::rows::pass_arguments` meets its contract. Assumes nothing.
use mathlib.Core.Path.{◌≡◌, ap}
use Prim.Native.Nat.{ℕ, ◌+◌, ◌-◌, ◌<◌}
use native.Mathlib.Numerals.{add-one}
use native.Mathlib.Omega.{arith}
use Rattle.program.specs.Program.{registers}
use Rattle.program.specs.Tables.{program_in}
use Rattle.flow.specs.Claim.{register_at}
use Rattle.flow.specs.Flows.{Flows}
use Rattle.flow.specs.Rules.{argument_into, parameter}
use Rattle.slots.specs.Layout.{claim_in}
use Rattle.order.proofs.Raising.{raised_none, raised_more, raised_into}
use Rattle.raise.proofs.Places.{own_inside}
use Rattle.raise.proofs.rows.pass_arguments.Goals as goal

pub loop-i-init : goal.loop-i-init
loop-i-init c =
    let a = c.args in
    let none : a.from - a.from ≡ 0 = omega arith in
    let g : ℕ → Flows = λ k. argument_into (program_in a.t.now) a.m a.pc a.first a.q (a.from + k) in
    record { few = omega arith; passed = λ formed lq same. rw none (raised_none g (claim_in a.w.now)) }

pub loop-i-preserved : goal.loop-i-preserved
loop-i-preserved c =
    let a = c.args in
    let p = program_in a.t.now in
    let q = a.q in
    let i = c.loop-i.i in
    let n = i - a.from in
    let g : ℕ → Flows = λ k. argument_into p a.m a.pc a.first q (a.from + k) in
    let more : i + 1 - a.from ≡ n + 1 = omega arith in
    let number : a.from + n ≡ i = omega arith in
    let here = register_at a.m a.pc (a.first + i) in
    let there = register_at q 0 (parameter p q i) in
    record {
      few = omega arith;
      passed = λ formed lq same.
          let f = formed.methods q lq in
          let within : parameter p q i < registers p q = omega (arith, f.arguments_to, same) in
          let inside = own_inside p formed there (lq, omega (arith, f.code_from), within) in
          let place : register_at q 0 (c.locals-base.result + i) ≡ there = ap (λ (x : ℕ). register_at q 0 (x + i)) c.locals-base.ensures.value in
          let joined = rw place at c.join.ensures.joined in
          rw (more, add-one n)
          (raised_more n g _ _ _ (c.loop-i.invariant.passed formed lq same)
          (rw number (raised_into here there _ _ (rw c.mask-given.ensures.value at (joined inside)))));
    }

pub returns-then-q-lt16 : goal.returns-then-q-lt16
returns-then-q-lt16 c =
    record {
      raised = λ formed lq same.
          let a = c.args in
          let all : c.loop-i.i - a.from ≡ a.count - a.from = omega arith in
          rw all at (c.loop-i.invariant.passed formed lq same);
    }

pub returns-else-q-lt16 : goal.returns-else-q-lt16
returns-else-q-lt16 c =
    record {
      raised = λ formed lq same.
          let a = c.args in
          let all : c.loop-i.i - a.from ≡ a.count - a.from = omega arith in
          rw all at (c.loop-i.invariant.passed formed lq same);
    }
