-- `compare_cases::number::of_bytes`: what its loop keeps.
use Rattle.std.proofs.Common.{◌≡◌, drop}
use Rattle.compare_cases.specs.Records.{bytes_from}
use Rattle.compare_cases.proofs.number.of_bytes.Given as goal

abbrev pub invariant-loop-b : goal.invariant-loop-b
invariant-loop-b l = bytes_from 0 l.bytes ≡ bytes_from l.n (drop l.b-index l.bytes)
