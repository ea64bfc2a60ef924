-- `calls::put_method` meets its contract. Assumes nothing.
use Rattle.std.proofs.Common.{arith, ◌≡◌}
use native.Mathlib.Numerals.{add-one}
use Rattle.program.specs.Program.{code_length}
use Rattle.program.specs.Tables.{program_in}
use Rattle.program.proofs.Read.{methods_limit, in_code}
use Rattle.slots.specs.Layout.{claim_in}
use Rattle.calls.specs.Inside.{address_calls}
use Rattle.calls.proofs.Joined.{addresses_short}
use Rattle.calls.proofs.Writing.{added_none, added_more}
use Rattle.calls.proofs.put_method.Goals as goal

pub loop-pc-init : goal.loop-pc-init
loop-pc-init c = added_none _

pub put_address-requires : goal.put_address-requires
put_address-requires c =
    let a = c.args in
    let t = a.s.now.tables.now in
    let pc = c.loop-pc.pc in
    let count : c.code_length-pc-end.result ≡ code_length (program_in t) a.m = c.code_length-pc-end.ensures.value in
    let in-limits = in_code t a.m pc (omega arith) in
    let short = addresses_short (program_in t) (claim_in a.w.now) (methods_limit t) a.m pc in
    let end = c.loop-pc.invariant.count in
    (in-limits.0, in-limits.1, omega (arith, short, end, in-limits.1))

pub loop-pc-preserved : goal.loop-pc-preserved
loop-pc-preserved c =
    let a = c.args in
    let pc = c.loop-pc.pc in
    rw (add-one pc)
    (added_more pc (address_calls (program_in a.s.now.tables.now) (claim_in a.w.now) a.m) c.loop-pc.invariant c.put_address.ensures.added)

pub returns : goal.returns
returns c =
    let a = c.args in
    let all : c.loop-pc.pc ≡ code_length (program_in a.s.now.tables.now) a.m = omega (arith, c.code_length-pc-end.ensures.value) in
    record { added = rw all at c.loop-pc.invariant }
