-- `writer::write_least` meets its contract. Assumes nothing.
use Rattle.page.proofs.Puts.{whole, put_as}
use Rattle.program.specs.Tables.{program_in}
use Rattle.writer.proofs.Text.{text_is}
use Rattle.writer.proofs.write_least.Goals as goal

pub returns : goal.returns
returns c =
    let p = program_in c.args.t.now in
    let least = c.fill.ensures.least c.requires.0 c.requires.1 in
    let text = text_is p c.requires.0 _ c.put_claim.ensures.words least in
    record { memory = (whole (put_as c.put_claim.ensures.put text) c.requires.2).1 }
