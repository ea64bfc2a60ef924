-- An object is put word by word. Assumes nothing.
use native.Mathlib.Omega.{arith}
use Rattle.cells.specs.Cells.{zero_value}
use Rattle.plain.proofs.Elements.{object_put}
use Rattle.plain.proofs.words.ObjectInWords.put.Goals as goal

pub returns : goal.returns
returns c =
    object_put c.args.self c.args.ws.now c.put_word.new.ws c.put_all.new.ws c.args.at _ (omega arith)
    c.put_word.ensures.memory (c.put_all.ensures.memory zero_value)
