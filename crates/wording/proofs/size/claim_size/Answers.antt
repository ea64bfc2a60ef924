-- `wording::size::claim_size` meets its contract. Assumes nothing.
use native.Mathlib.Omega.{arith}
use Rattle.program.specs.Tables.{program_in}
use Rattle.wording.proofs.Lengths.{parts_size}
use Rattle.wording.proofs.size.claim_size.Goals as goal

pub overflow_add-result : goal.overflow_add-result
overflow_add-result c =
    omega (arith, c.part_size-addresses.ensures.range, c.part_size-fields.ensures.range)

pub overflow_add-result-2 : goal.overflow_add-result-2
overflow_add-result-2 c =
    omega (arith, c.part_size-addresses.ensures.range, c.part_size-fields.ensures.range, c.part_size-statics.ensures.range)

pub overflow_add-result-3 : goal.overflow_add-result-3
overflow_add-result-3 c =
    omega (
      arith,
      c.part_size-addresses.ensures.range,
      c.part_size-fields.ensures.range,
      c.part_size-statics.ensures.range,
      c.part_size-returned.ensures.range,
    )

pub overflow_add-result-4 : goal.overflow_add-result-4
overflow_add-result-4 c =
    omega (
      arith,
      c.part_size-addresses.ensures.range,
      c.part_size-fields.ensures.range,
      c.part_size-statics.ensures.range,
      c.part_size-returned.ensures.range,
      c.part_size-leaving.ensures.range,
    )

pub returns : goal.returns
returns c = record {
  value = λ cl. parts_size cl (program_in c.args.t.now) _ _ _ _ _ (c.part_size-addresses.ensures.value cl) (c.part_size-fields.ensures.value cl)
      (c.part_size-statics.ensures.value cl) (c.part_size-returned.ensures.value cl) (c.part_size-leaving.ensures.value cl);
}
