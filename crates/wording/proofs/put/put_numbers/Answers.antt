-- `wording::put::put_numbers` meets its contract. Assumes nothing.
use Rattle.page.proofs.OnPages.{on_none}
use Rattle.wording.proofs.Texts.{number_more}
use Rattle.wording.proofs.put.put_numbers.Goals as goal

pub loop-n-init : goal.loop-n-init
loop-n-init c = on_none _

pub loop-n-preserved : goal.loop-n-preserved
loop-n-preserved c = number_more c.args.numbers.now c.loop-n.n-index c.loop-n-test.true c.loop-n.invariant c.two.ensures.put
