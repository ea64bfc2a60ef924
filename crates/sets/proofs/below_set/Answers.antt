-- `sets::below_set` meets its contract. The loop's invariant: the set has the classes before the next one that are at or below class j. Assumes nothing.
use mathlib.Core.Path.{◌∙◌}
use mathlib.Core.Bool.{◌&&◌}
use Prim.Native.Nat.{◌<◌}
use native.Mathlib.Omega.{arith}
use lib.Dec.{ltb}
use Rattle.program.specs.Program.{class_count}
use Rattle.program.specs.Tables.{program_in}
use Rattle.program.proofs.Read.{classes_limit}
use Rattle.search.specs.Search.{below}
use Rattle.sets.proofs.Adding.{added, finish}
use Rattle.sets.proofs.Upward.{below_start, below_is}
use Rattle.sets.proofs.below_set.Goals as goal

pub loop-k-init : goal.loop-k-init
loop-k-init c = below_start (program_in c.args.t.now) c.args.j c.empty-set.result c.empty-set.ensures.bits

pub loop-k-preserved : goal.loop-k-preserved
loop-k-preserved c =
    let a = c.args in
    let p = program_in a.t.now in
    let k = c.loop-k.k in
    let l : k < class_count p = omega (arith, c.class_count-k-end.ensures.value) in
    added (λ i. ltb i (class_count p) && below p i a.j) c.loop-k.set c.add-set.result k c.is_below.result
    (omega (arith, classes_limit a.t.now))
    (c.is_below.ensures.value ∙ below_is p a.j c.loop-k.set k l c.loop-k.invariant)
    c.add-set.ensures.bits
    c.loop-k.invariant

pub returns : goal.returns
returns c = record {
  bits = λ k.
      let a = c.args in
      let p = program_in a.t.now in
      c.loop-k.invariant k ∙ finish (class_count p) c.loop-k.k k (below p k a.j) (omega (arith, c.class_count-k-end.ensures.value));
}
