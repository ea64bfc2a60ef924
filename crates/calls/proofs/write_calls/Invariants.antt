-- `calls::write_calls`: the calls of the methods before the next one are written.
use Rattle.program.specs.Lists.{joined}
use Rattle.program.specs.Tables.{program_in}
use Rattle.slots.specs.Layout.{claim_in}
use Rattle.calls.specs.Inside.{method_calls}
use Rattle.calls.specs.Added.{Adds}
use Rattle.calls.proofs.write_calls.Given as goal

abbrev pub invariant-loop-m : goal.invariant-loop-m
invariant-loop-m l = Adds l.initial.list (joined l.m (method_calls (program_in l.t) (claim_in l.w))) l.list
