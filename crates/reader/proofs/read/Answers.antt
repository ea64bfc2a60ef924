-- `reader::read` meets its contract. Assumes nothing.
use mathlib.Core.Path.{sym}
use Rattle.program.proofs.Tables.{empty_tables}
use Rattle.reader.proofs.read.Goals as goal

pub take-requires : goal.take-requires
take-requires c = sym empty_tables
