-- A value is put as its word. Assumes nothing.
use Rattle.plain.proofs.Elements.{value_put}
use Rattle.plain.proofs.words.ValueInWords.put.Goals as goal

pub returns : goal.returns
returns c = value_put c.args.self c.args.ws.now c.put_value.new.ws c.args.at c.into.result c.into.ensures c.put_value.ensures.memory
