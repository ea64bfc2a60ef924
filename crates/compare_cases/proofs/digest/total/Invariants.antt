-- `compare_cases::digest::total`: what its loop keeps.
use Rattle.std.proofs.Common.{◌≤◌}
use Rattle.compare_cases.proofs.digest.total.Given as goal

abbrev pub invariant-loop-m : goal.invariant-loop-m
invariant-loop-m l = l.sum ≤ 131072
