-- `reader::fill` meets its contract. Assumes nothing.
use mathlib.Core.Path.{sym}
use Rattle.program.proofs.Tables.{empty_tables}
use Rattle.reader.proofs.fill.Goals as goal

pub take-read-requires : goal.take-read-requires
take-read-requires c = sym empty_tables
