-- `calls::put_method`: the calls at the addresses before the next one are written.
use Rattle.program.specs.Lists.{joined}
use Rattle.program.specs.Tables.{program_in}
use Rattle.slots.specs.Layout.{claim_in}
use Rattle.calls.specs.Inside.{address_calls}
use Rattle.calls.specs.Added.{Adds}
use Rattle.calls.proofs.put_method.Given as goal

abbrev pub invariant-loop-pc : goal.invariant-loop-pc
invariant-loop-pc l = Adds l.initial.list (joined l.pc (address_calls (program_in l.s.tables.now) (claim_in l.w) l.m)) l.list
