-- `frame::write` meets its contract. Assumes nothing.
use lib.Seq.{set_out}
use mathlib.Core.Path.{sym}
use Rattle.frame.proofs.write.Goals as goal

pub returns-else-i-t : goal.returns-else-i-t
returns-else-i-t c = record { memory = sym (set_out c.args.t.now c.args.i c.args.w c.if-i-t.false) }
