-- `sets::dispatch::owners` meets its contract. The loop's invariant: the set has the classes of the methods before the next one that have the name and the count. Assumes nothing.
use mathlib.Core.Path.{◌≡◌, ap, ◌∙◌}
use Prim.Native.Nat.{ℕ}
use native.Mathlib.Omega.{arith}
use Rattle.program.specs.Program.{method_count}
use Rattle.program.specs.Tables.{program_in}
use Rattle.search.specs.Search.{answers}
use Rattle.flow.specs.Flows.{some}
use Rattle.sets.proofs.Named.{owner_more}
use Rattle.sets.proofs.dispatch.owners.Goals as goal

pub loop-m-init : goal.loop-m-init
loop-m-init c = λ k l. c.empty-set.ensures.bits k

pub loop-m-preserved : goal.loop-m-preserved
loop-m-preserved c =
    let a = c.args in
    owner_more (program_in a.t.now) a.name a.count c.loop-m.m c.loop-m.set c.add-set.result
    c.method_class.result
    c.is_named.result
    c.method_class.ensures.value
    c.is_named.ensures.value
    c.add-set.ensures.bits
    c.loop-m.invariant

pub returns : goal.returns
returns c = record {
  bits = λ k l.
      let a = c.args in
      let p = program_in a.t.now in
      let all : c.loop-m.m ≡ method_count p = omega (arith, c.method_count-m-end.ensures.value) in
      c.loop-m.invariant k l ∙ ap (λ (m : ℕ). some m (answers p k a.name a.count)) all;
}
