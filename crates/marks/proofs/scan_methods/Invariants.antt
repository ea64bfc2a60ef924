-- `marks::scan_methods`: what its loop keeps.
use mathlib.Core.Path.{◌≡◌}
use Prim.Native.Nat.{◌+◌, ◌*◌, ◌≤◌}
use Rattle.program.specs.Program.{method_count}
use Rattle.program.specs.Tables.{program_in}
use Rattle.program.specs.Lists.{joined}
use Rattle.marks.specs.Marks.{method_marks, first_mark}
use Rattle.marks.proofs.First.{joined_from}
use Rattle.marks.proofs.scan_methods.Given as goal

abbrev pub invariant-loop-m : goal.invariant-loop-m
invariant-loop-m l =
    (l.at ≤ l.line + 41 * l.m)
    × (first_mark (joined (method_count (program_in l.t)) (method_marks (program_in l.t))) l.line
    ≡ first_mark (joined_from l.n (method_marks (program_in l.t)) l.m) l.at)
