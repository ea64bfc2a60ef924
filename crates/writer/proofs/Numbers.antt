-- Numbers that a caller of the claim writer sees: 36 is that of a text that is written alone, since refusals are numbered up to 6.
-- Assumes nothing.
use mathlib.Core.Path.{◌≡◌}
use mathlib.Core.List.{List}
use Prim.Native.Nat.{ℕ}
use native.Mathlib.Omega.{arith}
use lib.Dec.{ltb}
use lib.ListN.{length}
use Rattle.reader.specs.Read.{Reading, refused, taken, read_program}
use Rattle.reader.proofs.Numbers.{Numbered as ReadNumbered, numbered as read-numbered}
use Rattle.output.specs.declared.Output.TheVariants.{Written}
use Rattle.output.specs.Numbers.{number_of, values_of}
use Rattle.output.specs.Written.{answer_for, writing_number, writing_values}
use Rattle.output.proofs.Laws.{Numbered, fitted_numbered, written_is}
use Rattle.writer.specs.Claimed.{least_text, with_program, writing}

with_program_numbered : (size : ℕ) (x : Reading) → ReadNumbered x → Numbered 6 (with_program size x)
with_program_numbered size (refused number line) h = h.1
with_program_numbered size (taken p) h = fitted_numbered 6 (ltb size (length (least_text p))) (least_text p)

numbered : (program : List ℕ) (size : ℕ) → Numbered 6 (writing program size)
unfolding writing
numbered program size = with_program_numbered size (read_program program) (read-numbered program)

pub written_by : (program : List ℕ) (size n : ℕ) → writing_number (writing program size) ≡ number_of (Written n)
    → writing_values (writing program size) ≡ values_of (Written n) → answer_for (writing program size) ≡ Written n
written_by program size n = written_is 6 (omega arith) (writing program size) (numbered program size) n
