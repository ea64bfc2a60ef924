-- `carry::row_flows` meets its contract: the rows of a program lie inside the words. Assumes nothing.
use Rattle.std.proofs.Common.{arith}
use Rattle.carry.proofs.Rows.{row_inside}
use Rattle.carry.proofs.row_flows.Goals as goal

pub row_in-requires : goal.row_in-requires
row_in-requires c =
    let a = c.args in
    grind (arith, row_inside)
