-- What is answered in the end of a text, case by case. Assumes nothing.
use Rattle.std.specs.Prelude.{Result, Ok, Err}
use mathlib.Core.Path.{◌≡◌, refl}
use mathlib.Core.Bool.{true, false}
use mathlib.Core.List.{List}
use Prim.Native.Nat.{ℕ, ◌-◌, min}
use Rattle.program.specs.Program.{Program}
use Rattle.reader.specs.Read.{refused, taken, read_program}
use Rattle.bounded.specs.declared.Outcome.{Outcome}
use Rattle.bounded.specs.declared.Outcome.TheVariants.{Refused, Short, Ran}
use Rattle.shift.specs.declared.Run.{Run}
use Rattle.bounded.specs.Lent.{enough}
use Rattle.begun.specs.declared.NotBegun.{NotBegun}
use Rattle.begun.specs.Begun.{begun_by, outcome_of, halt_of, pending_of, ran_to}

-- the answer, from how a run began and where it came to: why none began, or what `ended` says of the two runs
abbrev pub ended_by : Result Run NotBegun → Run → Outcome
ended_by (Err e) k = outcome_of e
ended_by (Ok first) k = ran_to first k

module _ (text : List ℕ) (n frames objects statics : ℕ) (k : Run) where
  abbrev all : Outcome
  all = ended_by (begun_by (read_program text) n frames objects statics) k

  pub ended_refused : (number line : ℕ) → read_program text ≡ refused number line → all ≡ Refused number line
  ended_refused number line e = rw e refl

  pub ended_short : (p : Program) → read_program text ≡ taken p → enough frames objects statics ≡ false → all ≡ Short
  ended_short p e few = rw (e, few) refl

  pub ended_ran : (p : Program) → read_program text ≡ taken p → enough frames objects statics ≡ true
      → all ≡ Ran (halt_of k) (min n 1000000 - k.left) k.tally.depth k.tally.made (pending_of k.tally.status)
  ended_ran p e many = rw (e, many) refl
