-- No verdict prints more than 73,737 bytes: the word `accepted` with its line end, and 8,192 lines of nine bytes. Assumes nothing.
use mathlib.Core.List.{List}
use Prim.Native.Nat.{ℕ, ◌≤◌, min}
use native.Mathlib.Omega.{arith}
use lib.ListN.{length}
use Rattle.verdict.specs.declared.Verdict.{Verdict}
use Rattle.verdict.specs.declared.Verdict.TheVariants.{Accepted, Violated, Refused, Short}
use Rattle.report.specs.Printed.{printed}
use Rattle.report.proofs.Calls.{accepted_length}

pub longest : (v : Verdict) (memory : List ℕ) → length (printed v memory) ≤ 73737
longest (Accepted count) memory = omega (arith, accepted_length memory (min count 8192))
longest (Violated rule method address) memory = omega arith
longest (Refused number line) memory = omega arith
longest Short memory = omega arith
