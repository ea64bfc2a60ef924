-- `slots::put` meets its contract: past its end nothing is written. Assumes nothing.
use Rattle.std.proofs.Common.{sym}
use Rattle.std.proofs.Math.Seq.{set_out}
use Rattle.slots.proofs.put.Goals as goal

pub returns-else-i-w : goal.returns-else-i-w
returns-else-i-w g c = record { memory = sym (set_out c.args.w.now c.args.i c.args.element c.if-i-w.false) }
