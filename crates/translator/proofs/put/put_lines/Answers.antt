-- `translator::put::put_lines` meets its contract. Assumes nothing.
use Rattle.page.proofs.OnPages.{on_none}
use Rattle.translator.proofs.FrameText.{put_next_line}
use Rattle.translator.proofs.put.put_lines.Goals as goal

pub loop-word-init : goal.loop-word-init
loop-word-init c = on_none _

pub loop-word-preserved : goal.loop-word-preserved
loop-word-preserved c = put_next_line c.args.words.now c.loop-word.word-index c.loop-word-test.true c.loop-word.invariant c.put_line.ensures.put
