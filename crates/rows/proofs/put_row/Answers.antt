-- `rows::put_row` meets its contract. Assumes nothing.
use mathlib.Core.Path.{◌≡◌}
use native.Mathlib.Omega.{arith}
use Rattle.page.proofs.OnPages.{◌⨾◌}
use Rattle.rows.proofs.Loops.{put_joined}
use Rattle.rows.proofs.put_row.Goals as goal

pub loop-i-preserved : goal.loop-i-preserved
loop-i-preserved c =
    put_joined c.args.name.now _ c.loop-i.i c.loop-i.invariant
    (c.byte.ensures.put ⨾ (rw c.word_at.ensures.value at c.two.ensures.put))

pub loop-i-2-preserved : goal.loop-i-2-preserved
loop-i-2-preserved c =
    put_joined _ _ c.loop-i-2.i c.loop-i-2.invariant (rw c.word_at-in-loop-i-2.ensures.value at c.put_value.ensures.put)

pub returns : goal.returns
returns c =
    let all : c.loop-i-2.i ≡ c.args.cells = omega arith in
    record { put = (rw all at c.loop-i-2.invariant) ⨾ c.byte-2.ensures.put }
