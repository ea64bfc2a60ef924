-- Rows of an answer of the stepper and what it should be, and the answer after some steps of a small program: definitions only.
-- Assumes nothing.
use mathlib.Core.Bool.{Bool, true, false, ◌&&◌}
use mathlib.Core.List.{List, [], ◌∷◌}
use Prim.Native.Nat.{ℕ}
use lib.Dec.{eqb}
use Rattle.instruction.specs.declared.Instruction.{Instruction}
use Rattle.machine.specs.State.{top}
use Rattle.machine.proofs.Programs.{program}
use Rattle.turn.specs.Stop.{halt_number}
use Rattle.bounded.specs.Bounded.{Stopped, bounded}
use Rattle.bounded.specs.Step.{stopped_values}

-- an answer, its number, its values (steps, frames, objects, the pending object), and the method and address of the top frame
pub record Row : Type 0 where
  pub answer : Stopped
  pub number : ℕ
  pub values : List ℕ
  pub method : ℕ
  pub address : ℕ

abbrev pub row : Stopped → ℕ → List ℕ → ℕ → ℕ → Row
row answer number values method address =
    record { answer = answer; number = number; values = values; method = method; address = address }

abbrev same : List ℕ → List ℕ → Bool
same [] [] = true
same [] (y ∷ ys) = false
same (x ∷ xs) [] = false
same (x ∷ xs) (y ∷ ys) = eqb x y && same xs ys

abbrev right : Row → Bool
right r =
    eqb (halt_number r.answer.halt) r.number
    && (same (stopped_values r.answer) r.values
    && (eqb (top r.answer.state.frames).method r.method && eqb (top r.answer.state.frames).address r.address))

abbrev pub all_right : List Row → Bool
all_right [] = true
all_right (r ∷ rs) = right r && all_right rs

-- at most n steps of a program with this code
abbrev pub after : List Instruction → ℕ → Stopped
after code = bounded (program code)
