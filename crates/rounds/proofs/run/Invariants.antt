-- The turns that are made and those that are still to be made come to all of them.
use Rattle.std.proofs.Common.{◌≡◌}
use Rattle.drive.specs.Models.{held, Same, looped}
use Rattle.rounds.specs.Rounds.{runs, round_done, run_done, turns_of}
use Rattle.rounds.proofs.run.Given as goal

abbrev pub invariant-loop-m : goal.invariant-loop-m
invariant-loop-m l =
    record {
      all : looped runs round_done l.t (turns_of l.j) (held l.m) l.j ≡ run_done l.fn.t (held l.fn.m) l.fn.k;
      same : Same l.fn.m l.m;
    }

abbrev pub decreases-loop-m : goal.decreases-loop-m
decreases-loop-m l = turns_of l.j
