-- `calls::put_address`: the calls to the methods before the next one are written.
use Rattle.program.specs.Lists.{joined}
use Rattle.program.specs.Tables.{program_in}
use Rattle.slots.specs.Layout.{claim_in}
use Rattle.calls.specs.Inside.{calls_to}
use Rattle.calls.specs.Added.{Adds}
use Rattle.calls.proofs.put_address.Given as goal

abbrev pub invariant-loop-q : goal.invariant-loop-q
invariant-loop-q l = Adds l.initial.list (joined l.q (calls_to (program_in l.s.tables.now) (claim_in l.w) l.m l.pc)) l.list
