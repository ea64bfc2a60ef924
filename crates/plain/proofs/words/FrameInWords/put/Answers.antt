-- A frame is put word by word. Assumes nothing.
use native.Mathlib.Omega.{arith}
use Rattle.cells.specs.Cells.{zero_value}
use Rattle.plain.proofs.Elements.{frame_put}
use Rattle.plain.proofs.words.FrameInWords.put.Goals as goal

pub returns : goal.returns
returns c =
    frame_put c.args.self c.args.ws.now c.put_word.new.ws c.put_word-2.new.ws c.put.new.ws c.put_all.new.ws c.args.at _ (omega arith)
    c.put_word.ensures.memory c.put_word-2.ensures.memory c.put.ensures (c.put_all.ensures.memory zero_value)
