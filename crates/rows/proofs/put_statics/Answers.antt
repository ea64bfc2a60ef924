-- `rows::put_statics` meets its contract. Assumes nothing.
use mathlib.Core.List.{[]}
use mathlib.Core.Path.{◌≡◌}
use Prim.Native.Nat.{◌*◌}
use native.Mathlib.Omega.{arith}
use Rattle.page.proofs.OnPages.{on_none}
use Rattle.program.proofs.Read.{statics_are}
use Rattle.rows.specs.Rows.{rows_text}
use Rattle.rows.proofs.Loops.{put_joined}
use Rattle.rows.proofs.put_statics.Goals as goal

pub loop-i-init : goal.loop-i-init
unfolding rows_text
loop-i-init c = on_none _

pub put_row-requires : goal.put_row-requires
put_row-requires c = omega (arith, statics_are c.args.t.now)

pub loop-i-preserved : goal.loop-i-preserved
unfolding rows_text
loop-i-preserved c =
    let place : 1 * c.loop-i.i ≡ c.loop-i.i = omega arith in
    put_joined [] _ c.loop-i.i c.loop-i.invariant (rw place c.put_row.ensures.put)
