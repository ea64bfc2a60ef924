-- `rows::put_objects` meets its contract. Assumes nothing.
use mathlib.Core.List.{[]}
use native.Mathlib.Omega.{arith}
use Rattle.page.proofs.OnPages.{on_none}
use Rattle.program.proofs.Read.{fields_limit}
use Rattle.rows.specs.Rows.{rows_text}
use Rattle.rows.proofs.Loops.{put_joined}
use Rattle.rows.proofs.put_objects.Goals as goal

pub loop-i-init : goal.loop-i-init
unfolding rows_text
loop-i-init c = on_none _

pub put_row-requires : goal.put_row-requires
put_row-requires c = omega (arith, fields_limit c.args.t.now)

pub loop-i-preserved : goal.loop-i-preserved
unfolding rows_text
loop-i-preserved c = put_joined [] _ c.loop-i.i c.loop-i.invariant c.put_row.ensures.put
