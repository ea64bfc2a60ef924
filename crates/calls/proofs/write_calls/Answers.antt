-- `calls::write_calls` meets its contract. Assumes nothing.
use Rattle.std.proofs.Common.{arith, rules, ◌≡◌, ◌≤◌}
use native.Mathlib.Numerals.{add-one}
use Rattle.program.specs.Program.{Program, method_count}
use Rattle.program.specs.Lists.{joined}
use Rattle.program.specs.Tables.{program_in}
use Rattle.flow.specs.Calls.{call_list}
use Rattle.flow.specs.Claim.{Claim}
use Rattle.slots.specs.Layout.{claim_in}
use Rattle.calls.specs.Inside.{method_calls}
use Rattle.calls.specs.declared.CallList.{CallList}
use Rattle.calls.specs.Added.{Adds}
use Rattle.calls.proofs.Limits.{in_limits}
use Rattle.calls.proofs.Joined.{methods_short}
use Rattle.calls.proofs.Writing.{added_none, added_more, lent_back}
use Rattle.calls.proofs.write_calls.Goals as goal

pub loop-m-init : goal.loop-m-init
loop-m-init c = added_none _

pub put_method-requires : goal.put_method-requires
put_method-requires c =
    let a = c.args in
    let p = program_in a.t.now in
    let limits = in_limits a.t.now in
    let few : method_count p ≤ 16 = limits.methods in
    let count : c.method_count-m-end.result ≡ method_count p = c.method_count-m-end.ensures.value in
    omega (arith, methods_short p (claim_in a.w.now) limits.methods limits.code c.loop-m.m, c.loop-m.invariant.count)

pub loop-m-preserved : goal.loop-m-preserved
loop-m-preserved c =
    let a = c.args in
    let m = c.loop-m.m in
    let same = c.of-s.ensures.tables in
    rw (add-one m) (added_more m (method_calls (program_in a.t.now) (claim_in a.w.now)) c.loop-m.invariant (rw same at c.put_method.ensures.added))

whole : {a b : CallList} (p : Program) (c : Claim) → Adds a (joined (method_count p) (method_calls p c)) b → Adds a (call_list p c) b
unfolding call_list
whole p c h = h

pub returns : goal.returns
returns c =
    let a = c.args in
    let p = program_in a.t.now in
    let all : c.loop-m.m ≡ method_count p = omega (arith, c.method_count-m-end.ensures.value) in
    let list = whole p (claim_in a.w.now) (rw all at c.loop-m.invariant) in
    record { count = omega (arith, list.count); memory = lent_back list (search rules) }
