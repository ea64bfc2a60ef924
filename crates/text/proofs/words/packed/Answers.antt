-- `text::words::packed` meets its contract: each mask bounds what it leaves, so that no sum wraps. Assumes nothing.
use mathlib.Core.Path.{refl}
use native.Mathlib.Omega.{arith}
use lib.Bits.{and_le_r}
use Rattle.text.specs.Words.{values_of, pairs_of, quads_of, eight_of}
use Rattle.text.proofs.words.packed.Goals as goal

pub overflow_mul-values : goal.overflow_mul-values
overflow_mul-values c = omega (arith, and_le_r c.args.v 4629771061636907072)

pub overflow_add-values : goal.overflow_add-values
overflow_add-values c =
    omega (arith, and_le_r c.args.v 1085102592571150095, and_le_r c.args.v 4629771061636907072)

pub overflow_mul-pairs : goal.overflow_mul-pairs
unfolding values_of
overflow_mul-pairs c = omega (arith, and_le_r (values_of c.args.v) 4222189076152335)

pub overflow_add-pairs : goal.overflow_add-pairs
unfolding values_of
overflow_add-pairs c =
    let d = values_of c.args.v in
    omega (arith, and_le_r d 4222189076152335, and_le_r d 1080880403494997760)

pub overflow_mul-quads : goal.overflow_mul-quads
unfolding values_of pairs_of
overflow_mul-quads c = omega (arith, and_le_r (pairs_of (values_of c.args.v)) 1095216660735)

pub overflow_add-quads : goal.overflow_add-quads
unfolding values_of pairs_of
overflow_add-quads c =
    let p = pairs_of (values_of c.args.v) in
    omega (arith, and_le_r p 1095216660735, and_le_r p 71776119077928960)

pub overflow_mul-result : goal.overflow_mul-result
unfolding values_of pairs_of quads_of
overflow_mul-result c =
    let p = pairs_of (values_of c.args.v) in
    omega (arith, and_le_r p 1095216660735, and_le_r p 71776119077928960)

pub overflow_add-result : goal.overflow_add-result
unfolding values_of pairs_of quads_of
overflow_add-result c =
    let p = pairs_of (values_of c.args.v) in
    omega (arith, and_le_r p 1095216660735, and_le_r p 71776119077928960)

pub returns : goal.returns
unfolding values_of pairs_of quads_of eight_of
returns c = record { value = refl }
