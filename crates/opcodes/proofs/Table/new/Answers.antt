-- `opcodes::Table::new` keeps its invariant: every entry of the table is right. Assumes nothing.
use Rattle.opcodes.proofs.EveryOpcode.{length_right, group_right}
use Rattle.opcodes.proofs.Table.new.Goals as goal

pub invariant_of-result : goal.invariant_of-result
invariant_of-result c = record { right = λ op l. (length_right op l, group_right op l) }
