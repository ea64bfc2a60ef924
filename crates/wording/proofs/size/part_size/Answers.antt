-- `wording::size::part_size` meets its contract: a row has at most 131,296 bytes. Assumes nothing.
use Rattle.std.proofs.Common.{◌≡◌, ◌∙◌, arith}
use Rattle.program.specs.Tables.{program_in}
use Rattle.claim.specs.Frames.{outer}
use Rattle.wording.specs.Inside.{row_due}
use Rattle.wording.proofs.Lengths.{size_more, outer_few, part_rows}
use Rattle.wording.proofs.size.part_size.Goals as goal

pub overflow_add-size : goal.overflow_add-size
overflow_add-size c = omega (arith, outer_few c.args.t.now c.args.k)

pub loop-a-preserved : goal.loop-a-preserved
loop-a-preserved c = record {
  most = omega arith;
  is = λ cl. size_more cl (row_due (program_in c.args.t.now) c.args.k) c.loop-a.a _ _ (c.loop-a.invariant.is cl) (c.row_size-size.ensures.value cl);
}

pub returns-clause-value : goal.returns-clause-value
returns-clause-value c =
    let p = program_in c.args.t.now in
    let all : c.loop-a.a ≡ outer p c.args.k = omega arith in
    λ cl. c.loop-a.invariant.is cl ∙ part_rows cl p c.args.k c.loop-a.a all

pub returns-clause-range : goal.returns-clause-range
returns-clause-range c = omega (arith, outer_few c.args.t.now c.args.k)
