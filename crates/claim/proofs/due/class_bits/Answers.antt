-- `claim::due::class_bits` meets its contract. Assumes nothing.
use borrow.Author.Tests.{lt-ltb, le-ltb}
use Rattle.claim.proofs.FrameTests.{power_least, power_shifted}
use Rattle.claim.proofs.due.class_bits.Goals as goal

pub overflow_sub-result : goal.overflow_sub-result
overflow_sub-result c = rw (power_shifted c.args.n c.if-n-lt61.true)
    (power_least c.args.n c.if-n-lt61.true)

pub returns-then-n-lt61 : goal.returns-then-n-lt61
returns-then-n-lt61 c = record { value = rw (power_shifted c.args.n c.if-n-lt61.true, lt-ltb c.args.n 61 c.if-n-lt61.true) }

pub returns : goal.returns
returns c = record { value = rw (le-ltb c.args.n 61 c.if-n-lt61.false) }
