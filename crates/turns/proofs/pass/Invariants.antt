-- What is passed and what is still to be passed come to all arguments.
use Rattle.std.proofs.Common.{◌≡◌, ◌+◌}
use Rattle.shift.specs.Shift.{passes_of}
use Rattle.drive.specs.Models.{held, Same, looped}
use Rattle.turns.specs.Turns.{pass_one, pass_done}
use Rattle.turns.proofs.pass.Given as goal

abbrev pub invariant-loop-i : goal.invariant-loop-i
invariant-loop-i l =
    record {
      left : l.j.count + l.i ≡ l.fn.p.count;
      all : looped (λ t q. passes_of q) pass_one l.t l.j.count (held l.m) l.j
          ≡ pass_done l.fn.t (held l.fn.m) l.fn.p;
      same : Same l.fn.m l.m;
    }
