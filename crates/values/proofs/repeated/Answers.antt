-- `values::repeated` meets its contract. The loop's invariant: no method before k is like m. The measure is how many are left.
-- Assumes nothing.
use mathlib.Core.Path.{sym, ap}
use Prim.Native.Nat.{◌<◌}
use native.Mathlib.Omega.{arith}
use borrow.Author.Count.{below_none, below_more}
use Rattle.program.specs.Tables.{program_in}
use Rattle.program.proofs.Lists.{first_stop, first_none}
use Rattle.values.specs.Values.{alike, some?, repeated}
use Rattle.values.proofs.repeated.Goals as goal

pub loop-k-init : goal.loop-k-init
loop-k-init c = below_none _

pub returns-then-alike : goal.returns-then-alike
unfolding repeated
returns-then-alike c =
    let a = c.args in
    let l : c.loop-k.k < a.m = omega arith in
    let e = first_stop a.m (alike (program_in a.t.now) a.m) c.loop-k.k l c.loop-k.invariant
    (rw c.alike.ensures.value at c.if-alike.true) in
    record { value = sym (ap some? e) }

pub loop-k-preserved : goal.loop-k-preserved
loop-k-preserved c = below_more _ _ c.loop-k.invariant (rw c.alike.ensures.value at c.if-alike.false)

pub returns : goal.returns
unfolding repeated
returns c =
    let a = c.args in
    record { value = sym (ap some? (first_none a.m (alike (program_in a.t.now) a.m) (λ k h. c.loop-k.invariant k (omega arith)))) }
