-- `memory::word_of` meets its contract. Assumes nothing.
use Rattle.std.proofs.Common.{arith, rules}
use Rattle.memory.proofs.Values.{number_reads, reference_reads}
use Rattle.memory.proofs.word_of.Goals as goal

pub returns-in-Number-clause-reads : goal.returns-in-Number-clause-reads
returns-in-Number-clause-reads c = rw c.in-Number.is (number_reads c.in-Number.z (search rules))

pub returns-in-Reference-clause-reads : goal.returns-in-Reference-clause-reads
returns-in-Reference-clause-reads c = rw c.in-Reference.is (reference_reads _ (omega arith))
