-- `calls::put_address` meets its contract. Assumes nothing.
use Rattle.std.proofs.Common.{arith, ◌≡◌, ◌≤◌}
use native.Mathlib.Numerals.{add-one}
use Rattle.mask.specs.Mask.{has}
use Rattle.program.specs.Program.{method_count}
use Rattle.program.specs.Tables.{program_in}
use Rattle.program.proofs.Read.{methods_limit}
use Rattle.flow.specs.Rules.{rules_at}
use Rattle.flow.specs.Calls.{called_by}
use Rattle.slots.specs.Layout.{claim_in}
use Rattle.calls.specs.Inside.{calls_to}
use Rattle.calls.proofs.Joined.{callees_short}
use Rattle.calls.proofs.Writing.{added_none, added_more}
use Rattle.calls.proofs.put_address.Goals as goal

pub loop-q-init : goal.loop-q-init
loop-q-init c = added_none _

pub put_callee-requires : goal.put_callee-requires
put_callee-requires c =
    let a = c.args in
    let p = program_in a.s.now.tables.now in
    let few : method_count p ≤ 16 = methods_limit a.s.now.tables.now in
    let count : c.method_count-q-end.result ≡ method_count p = c.method_count-q-end.ensures.value in
    let short = callees_short p (claim_in a.w.now) a.m a.pc c.loop-q.q in
    let end = c.loop-q.invariant.count in
    (omega arith, omega arith, omega arith, omega (arith, short, end))

pub loop-q-preserved : goal.loop-q-preserved
loop-q-preserved c =
    let a = c.args in
    let p = program_in a.s.now.tables.now in
    let q = c.loop-q.q in
    let few : method_count p ≤ 16 = methods_limit a.s.now.tables.now in
    let count : c.method_count-q-end.result ≡ method_count p = c.method_count-q-end.ensures.value in
    let called : has c.callees_at-callees.result q ≡ called_by (claim_in a.w.now) (rules_at p a.m a.pc) q = c.callees_at-callees.ensures.callees q (omega arith) in
    rw (add-one q) (added_more q (calls_to p (claim_in a.w.now) a.m a.pc) c.loop-q.invariant (rw called at c.put_callee.ensures.added))

pub returns : goal.returns
returns c =
    let p = program_in c.args.s.now.tables.now in
    let all : c.loop-q.q ≡ method_count p = omega (arith, c.method_count-q-end.ensures.value) in
    record { added = rw all at c.loop-q.invariant }
