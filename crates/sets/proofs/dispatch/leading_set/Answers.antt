-- `sets::dispatch::leading_set` meets its contract. The loop's invariant: the set has the classes before the next one that lead to the method. Assumes nothing.
use mathlib.Core.Path.{◌∙◌}
use mathlib.Core.Bool.{◌&&◌}
use Prim.Native.Nat.{◌<◌}
use native.Mathlib.Omega.{arith}
use lib.Dec.{ltb}
use Rattle.program.specs.Program.{class_count}
use Rattle.program.specs.Tables.{program_in}
use Rattle.program.proofs.Read.{classes_limit}
use Rattle.sets.specs.Sets.{leads}
use Rattle.sets.proofs.Adding.{start, added, finish}
use Rattle.sets.proofs.Callees.{leads_here}
use Rattle.sets.proofs.dispatch.leading_set.Goals as goal

pub loop-k-init : goal.loop-k-init
loop-k-init c =
    let a = c.args in
    let p = program_in a.t.now in
    start (λ i. ltb i (class_count p) && leads p a.q i) c.empty-set.result c.empty-set.ensures.bits

pub loop-k-preserved : goal.loop-k-preserved
loop-k-preserved c =
    let a = c.args in
    let p = program_in a.t.now in
    let k = c.loop-k.k in
    let l : k < class_count p = omega (arith, c.class_count-k-end.ensures.value) in
    let few : k < 64 = omega (arith, classes_limit a.t.now) in
    added (λ i. ltb i (class_count p) && leads p a.q i) c.loop-k.set c.add-set.result k c.is_leading.result few
    (c.is_leading.ensures.value
    ∙ leads_here p a.q c.method_name-name.result c.arguments-count.result c.method_class-c.result c.method_name-name.ensures.value c.arguments-count.ensures.value c.method_class-c.ensures.value
    c.owns-own.result
    c.owns-own.ensures.value
    c.owners-others.result
    c.loop-k.set
    k
    l
    few
    c.owners-others.ensures.bits
    c.loop-k.invariant)
    c.add-set.ensures.bits
    c.loop-k.invariant

pub returns : goal.returns
returns c = record {
  bits = λ k.
      let a = c.args in
      let p = program_in a.t.now in
      c.loop-k.invariant k ∙ finish (class_count p) c.loop-k.k k (leads p a.q k) (omega (arith, c.class_count-k-end.ensures.value));
}
