-- `sets::class_set` meets its contract. The loop's invariant: the set has the classes before the next one. Assumes nothing.
use mathlib.Core.Path.{sym, ap, ◌∙◌}
use mathlib.Core.Bool.{Bool, true, ◌&&◌, ◌||◌}
use Prim.Native.Nat.{◌<◌}
use native.Mathlib.Omega.{arith}
use lib.Dec.{eqb, ltb}
use Rattle.mask.specs.Mask.{has}
use Rattle.mask.proofs.Sets.{and_end}
use Rattle.program.specs.Program.{class_count}
use Rattle.program.specs.Tables.{program_in}
use Rattle.program.proofs.Read.{classes_limit}
use borrow.Author.Tests.{lt-ltb}
use Rattle.sets.proofs.Adding.{start, added, finish}
use Rattle.sets.proofs.class_set.Goals as goal

pub loop-k-init : goal.loop-k-init
loop-k-init c = start (λ i. ltb i (class_count (program_in c.args.t.now)) && true) c.empty-set.result c.empty-set.ensures.bits

pub loop-k-preserved : goal.loop-k-preserved
loop-k-preserved c =
    let a = c.args in
    let p = program_in a.t.now in
    let k = c.loop-k.k in
    let l : k < class_count p = omega (arith, c.class_count-k-end.ensures.value) in
    added (λ i. ltb i (class_count p) && true) c.loop-k.set c.with-set.result k true
    (omega (arith, classes_limit a.t.now))
    (rw (lt-ltb k (class_count p) l))
    (λ i. c.with-set.ensures.bits i ∙ ap (λ (t : Bool). has c.loop-k.set i || (eqb i k && t)) (sym (and_end (ltb i 64))))
    c.loop-k.invariant

pub returns : goal.returns
returns c = record {
  bits = λ k.
      let p = program_in c.args.t.now in
      c.loop-k.invariant k
      ∙ finish (class_count p) c.loop-k.k k true (omega (arith, c.class_count-k-end.ensures.value))
      ∙ and_end (ltb k (class_count p));
}
