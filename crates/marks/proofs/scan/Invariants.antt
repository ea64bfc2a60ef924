-- `marks::scan`: what its loop keeps.
use mathlib.Core.Path.{◌≡◌}
use Rattle.program.specs.Tables.{program_in}
use Rattle.marks.specs.Marks.{mark_at, marks_in, first_mark}
use Rattle.marks.proofs.First.{mark_from}
use Rattle.marks.proofs.scan.Given as goal

abbrev pub invariant-loop-i : goal.invariant-loop-i
invariant-loop-i l =
    first_mark (marks_in (program_in l.t) l.k l.m) l.line ≡ mark_from l.n (mark_at (program_in l.t) l.k l.m) l.line l.i
