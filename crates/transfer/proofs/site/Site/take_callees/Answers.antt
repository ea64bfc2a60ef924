-- `transfer::site::Site::take_callees` meets its contract. Assumes nothing.
use mathlib.Core.Path.{◌≡◌, sym, ◌∙◌}
use mathlib.Core.Bool.{true}
use Prim.Native.Nat.{ℕ, ◌<◌}
use native.Mathlib.Numerals.{add-one}
use native.Mathlib.Omega.{arith}
use Rattle.mask.specs.Mask.{has}
use Rattle.program.specs.Program.{method_count, arguments}
use Rattle.slots.specs.Layout.{claim_in}
use Rattle.order.proofs.Raising.{raised_none, raised_more}
use Rattle.transfer.specs.Transfer.{leading_class, called_from}
use Rattle.transfer.specs.Site.{program_of}
use Rattle.transfer.proofs.Called.{leading_fits, called_test}
use Rattle.transfer.proofs.site.Site.take_callees.Goals as goal

pub loop-q-init : goal.loop-q-init
loop-q-init c =
    let a = c.args in
    let s = a.self.now in
    λ some formed lm lp. raised_none (called_from (program_of s) s.method s.address a.mask a.name a.count a.register) (claim_in a.w.now)

pub loop-q-preserved : goal.loop-q-preserved
loop-q-preserved c =
    let a = c.args in
    let s = a.self.now in
    let p = program_of s in
    let q = c.loop-q.q in
    let rs = c.leading-receivers.result in
    let bits = c.leading-receivers.ensures.bits in
    let callee : (k : ℕ) → has rs k ≡ true → (q < method_count p) × (arguments p q ≡ a.count) =
    λ k t. leading_fits p a.mask a.name a.count q k (sym (bits k) ∙ t) in
    λ some formed lm lp.
    rw (add-one q)
    (raised_more q (called_from p s.method s.address a.mask a.name a.count a.register) _ _ _
    (c.loop-q.invariant some formed lm lp)
    (called_test p s.method s.address a.count a.register q rs (leading_class p a.mask a.name a.count q) bits _ _
    (c.take_callee-new.ensures.raised some callee formed lm lp)))

pub returns : goal.returns
returns c =
    record {
      raised = λ some formed lm lp.
          let all : c.loop-q.q ≡ method_count (program_of c.args.self.now) = omega (arith, c.method_count-q-end.ensures.value) in
          rw all at (c.loop-q.invariant some formed lm lp);
    }
