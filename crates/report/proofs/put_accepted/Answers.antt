-- `report::put_accepted` meets its contract. Assumes nothing.
use Rattle.rows.proofs.Loops.{put_joined}
use Rattle.report.specs.Printed.{call_line, call_lines, accepted_word}
use Rattle.report.proofs.put_accepted.Goals as goal

pub loop-i-init : goal.loop-i-init
unfolding call_lines
loop-i-init c = c.put.ensures.put

pub loop-i-preserved : goal.loop-i-preserved
unfolding call_lines
loop-i-preserved c = put_joined accepted_word (call_line c.args.memory.now) c.loop-i.i c.loop-i.invariant c.put_call.ensures.put
