-- Each struct is put after those before it. Assumes nothing.
use Rattle.std.proofs.Common.{ℕ, length, arith}
use native.Mathlib.Nat.{mul-zero}
use Rattle.plain.specs.Words.{put}
use Rattle.plain.proofs.Elements.{one_more, fits, next_place}
use Rattle.plain.proofs.words.put_all.Goals as goal

pub loop-x-init : goal.loop-x-init
unfolding put
loop-x-init g c = record { place = omega arith; memory = λ d. simp mul-zero }

pub loop-x-preserved : goal.loop-x-preserved
loop-x-preserved g c =
    let size : ℕ = g.T.InWords.SIZE in
    let next = next_place size c.loop-x.x-index in
    record {
      place = omega (arith, next, c.SIZE-at.ensures, c.loop-x.invariant.place);
      memory = λ d.
          one_more size g.T.InWords.word d c.args.xs.now c.args.ws.now c.loop-x.ws c.put.new.ws c.args.at c.loop-x.x-index c.x-item.result c.loop-x.at
          c.x-item.is c.loop-x-test.true c.loop-x.invariant.place c.put.ensures (c.loop-x.invariant.memory d);
    }

pub put-requires : goal.put-requires
put-requires g c =
    let l = fits g.T.InWords.SIZE c.loop-x.x-index (length c.args.xs.now) c.loop-x-test.true in
    omega (arith, l, c.loop-x.invariant.place, c.requires)
