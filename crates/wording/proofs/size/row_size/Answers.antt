-- `wording::size::row_size` meets its contract: a frame has at most 4,103 bytes. Assumes nothing.
use Rattle.std.proofs.Common.{ℕ, List, arith}
use Rattle.program.specs.Tables.{program_in}
use Rattle.claim.specs.Frames.{Due, frame_at}
use Rattle.wording.proofs.Lengths.{size_more, inner_few}
use Rattle.wording.proofs.size.row_size.Goals as goal

pub overflow_add-size : goal.overflow_add-size
overflow_add-size c = omega (arith, inner_few c.args.t.now c.args.k c.args.a)

pub loop-b-preserved : goal.loop-b-preserved
loop-b-preserved c =
    let frames : ℕ → List Due = frame_at (program_in c.args.t.now) c.args.k c.args.a in
    record {
      most = omega arith;
      is = λ cl. size_more cl frames c.loop-b.b _ _ (c.loop-b.invariant.is cl) (c.frame_size-size.ensures.value cl);
    }

pub returns-clause-range : goal.returns-clause-range
returns-clause-range c = omega (arith, inner_few c.args.t.now c.args.k c.args.a)
