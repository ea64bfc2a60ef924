-- `answer::put_outcome` meets its contract. Assumes nothing.
use Rattle.std.proofs.Common.{sym}
use Rattle.answer.proofs.put_outcome.Goals as goal

pub returns-in-Ran-clause-memory : goal.returns-in-Ran-clause-memory
returns-in-Ran-clause-memory c =
    rw (c.in-Ran.is, sym c.halt_number-number.ensures.value, sym (c.pending_word-word.ensures.value 0 0 0)) c.put-in-Ran.ensures.memory
