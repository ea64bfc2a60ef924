-- `raise::rows::carry` meets its contract: all registers are joined, but where the words have no row. Assumes nothing.
use mathlib.Core.Path.{◌≡◌, ◌∙◌}
use Prim.Native.Nat.{◌-◌, min}
use native.Mathlib.Omega.{arith}
use Rattle.program.specs.Program.{registers}
use Rattle.program.specs.Tables.{program_in}
use Rattle.flow.specs.Claim.{register_at}
use Rattle.slots.specs.Layout.{claim_size, row_of}
use Rattle.slots.proofs.Places.{row_most}
use Rattle.raise.proofs.Registers.{at_most_16, registers_from_lem, row_carried}
use Rattle.raise.proofs.rows.carry.Goals as goal

pub overflow_sub-from : goal.overflow_sub-from
overflow_sub-from c =
    let a = c.args in
    omega (arith, row_most a.m a.pc)

pub overflow_sub-into : goal.overflow_sub-into
overflow_sub-into c =
    let a = c.args in
    omega (arith, row_most a.m a.to)

pub join_words-requires : goal.join_words-requires
join_words-requires c =
    let a = c.args in
    let here = row_most a.m a.pc in
    let there = row_most a.m a.to in
    (c.told-w, omega (arith, here), omega (arith, there))

pub returns : goal.returns
returns c =
    record {
      raised = λ formed lm lp.
          let a = c.args in
          let p = program_in a.t.now in
          let m = a.m in
          let n = c.min.result in
          let count : n ≡ min (min (registers p m) 16) (min (claim_size - row_of m a.pc) (claim_size - row_of m a.to)) =
          c.min.ensures
          ∙ rw (
            c.min-n.ensures,
            c.registers.ensures.value,
            c.min-room.ensures,
            c.row-from.ensures.value,
            c.row-into.ensures.value,
          ) in
          let few = at_most_16 n _ _ count in
          let here = registers_from_lem m a.pc n _ c.row-from.ensures.value few in
          let there = registers_from_lem m a.to n _ c.row-into.ensures.value few in
          row_carried p formed m a.pc a.to a.w.now _ lm lp c.told-w n count
          (c.join_words.ensures.raised (register_at m a.pc) (register_at m a.to) here there);
    }
