-- What is done and what is still to be done in the frame come to all of it.
use Rattle.std.proofs.Common.{◌≡◌}
use Rattle.drive.specs.Models.{held, Same, looped}
use Rattle.rounds.specs.Rounds.{goes, one_done, stay_done}
use Rattle.rounds.proofs.stay.Given as goal

abbrev pub invariant-loop-m : goal.invariant-loop-m
invariant-loop-m l =
    record {
      all : looped goes one_done l.t l.j.left (held l.m) l.j ≡ stay_done l.fn.t (held l.fn.m) l.fn.k;
      same : Same l.fn.m l.m;
    }

abbrev pub decreases-loop-m : goal.decreases-loop-m
decreases-loop-m l = l.j.left
