-- `raise::start::entry` meets its contract. Assumes nothing.
-- zero goes into a register
use mathlib.Core.Path.{◌≡◌}
use Prim.Native.Nat.{◌-◌}
use native.Mathlib.Numerals.{add-one}
use native.Mathlib.Omega.{arith}
use Rattle.mask.specs.Mask.{zero_bit}
use Rattle.program.specs.Program.{registers, arguments}
use Rattle.program.specs.Tables.{program_in}
use Rattle.flow.specs.Claim.{register_at, result_at}
use Rattle.flow.specs.Flows.{◌∈◌, each}
use Rattle.slots.specs.Layout.{claim_in}
use Rattle.order.proofs.Raising.{raised_both, raised_none, raised_more}
use Rattle.raise.proofs.Places.{own_inside}
use Rattle.raise.proofs.AtOnce.{raised_one}
use Rattle.raise.proofs.start.entry.Invariants.{zero_at}
use Rattle.raise.proofs.start.entry.Goals as goal

pub loop-r-init : goal.loop-r-init
loop-r-init c =
    let a = c.args in
    (λ formed lm. raised_none (zero_at a.m) (claim_in a.w.now))

pub loop-r-preserved : goal.loop-r-preserved
loop-r-preserved c =
    let a = c.args in
    let r = c.loop-r.r in
    let m = a.m in
    let p = program_in a.t.now in
    (λ formed lm.
    let f = formed.methods m lm in
    let inside = own_inside p formed (register_at m 0 r) (lm, omega (arith, f.code_from), omega (arith, c.locals-r-end.ensures.value)) in
    rw (add-one r)
    (raised_more r (zero_at m) _ _ _ (c.loop-r.invariant formed lm)
    (raised_one zero_bit c.of.result (register_at m 0 r) _ _ (omega arith) c.of.ensures.bits (c.join.ensures.joined inside))))

pub returns : goal.returns
returns c =
    record {
      raised = λ formed lm.
          let a = c.args in
          let p = program_in a.t.now in
          let m = a.m in
          let all : c.loop-r.r ≡ registers p m - arguments p m = omega (arith, c.locals-r-end.ensures.value) in
          let f = formed.methods m lm in
          let inside = own_inside p formed (result_at m 0) (lm, omega (arith, f.code_from)) in
          raised_both (each (registers p m - arguments p m) (zero_at m)) (zero_bit ∈ result_at m 0) _ _ _
          (rw all at (c.loop-r.invariant formed lm))
          (raised_one zero_bit c.of-2.result (result_at m 0) _ _ (omega arith) c.of-2.ensures.bits (c.join-2.ensures.joined inside));
    }
