-- `calls::led_to` meets its contract. Assumes nothing.
use mathlib.Core.Path.{◌∙◌}
use Prim.Native.Nat.{◌≤◌, ◌<◌}
use native.Mathlib.Omega.{arith}
use lib.Dec.{ltb}
use borrow.Author.Tests.{lt-ltb}
use Rattle.text.proofs.Cases.{by_test}
use Rattle.mask.proofs.Laws.{and_false}
use Rattle.program.specs.Program.{method_count}
use Rattle.program.specs.Tables.{program_in}
use Rattle.program.proofs.Read.{methods_limit}
use Rattle.sets.specs.Sets.{leads_to}
use Rattle.sets.proofs.Adding.{start, added}
use Rattle.sets.proofs.Receivers.{leads_few}
use Rattle.calls.proofs.led_to.Goals as goal

pub loop-q-init : goal.loop-q-init
loop-q-init c =
    let a = c.args in
    start (leads_to (program_in a.s.now.tables.now) a.mask a.name a.count) c.empty-set.result c.empty-set.ensures.bits

pub loop-q-preserved : goal.loop-q-preserved
loop-q-preserved c =
    let a = c.args in
    let p = program_in a.s.now.tables.now in
    let few : method_count p ≤ 16 = methods_limit a.s.now.tables.now in
    added (leads_to p a.mask a.name a.count) c.loop-q.set c.add-set.result c.loop-q.q c.leads.result
    (omega (arith, c.method_count-q-end.ensures.value))
    c.leads.ensures.value
    c.add-set.ensures.bits
    c.loop-q.invariant

pub returns : goal.returns
returns c = record {
  callees = λ q.
      let a = c.args in
      let p = program_in a.s.now.tables.now in
      c.loop-q.invariant q
      ∙ by_test (leads_to p a.mask a.name a.count q)
      (λ t.
      let l : q < method_count p = leads_few p a.mask a.name a.count q t in
      rw (t, lt-ltb q c.loop-q.q (omega (arith, c.method_count-q-end.ensures.value))))
      (λ t. rw t (and_false (ltb q c.loop-q.q)));
}
