-- `search::handler_for`: what its loop keeps.
use mathlib.Core.Path.{◌≡◌}
use Rattle.program.specs.Lists.{last}
use Rattle.program.specs.Tables.{program_in}
use Rattle.search.specs.Search.{catches}
use Rattle.search.proofs.handler_for.Given as goal

abbrev pub invariant-loop-h : goal.invariant-loop-h
invariant-loop-h l = l.found ≡ last l.h (catches (program_in l.t) l.m l.pc l.c)
