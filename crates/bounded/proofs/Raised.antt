-- Null used, division by zero and a failed cast in the stepper's answers, by computation. Assumes nothing.
use mathlib.Core.Path.{◌≡◌, refl}
use mathlib.Core.Bool.{true}
use mathlib.Core.List.{List, [], ◌∷◌, ◌++◌}
use Rattle.instruction.specs.declared.Operation.TheVariants.{Div, Rem}
use Rattle.instruction.specs.declared.Instruction.{Instruction}
use Rattle.instruction.specs.declared.Instruction.TheVariants.{Binop, NewInstance, Iget, Iput, InvokeVirtual, Throw, CheckCast}
use Rattle.instruction.specs.Word.{instruction_of, fields_of, operation_of}
use Rattle.arithmetic.specs.Arithmetic.{computed}
use Rattle.search.specs.Search.{below_in, handler_for}
use Rattle.machine.specs.Run.{step}
use Rattle.turn.specs.Stop.{stop_of}
use Rattle.bounded.specs.Bounded.{steps, bounded}
use Rattle.bounded.proofs.Rows.{Row, row, all_right, after}

-- object 0, of class 5, is in register 0, and null in the others; then i is done
abbrev raised_by : Instruction → List Row
raised_by i =
    -- "The step that would fault makes such an object, its fields zero, and makes it pending": one step, and it counts
    row (after (NewInstance 0 5 ∷ i ∷ []) 1) 22 (1 ∷ 1 ∷ 1 ∷ []) 0 1
    ∷ row (after (NewInstance 0 5 ∷ i ∷ []) 2) 22 (2 ∷ 1 ∷ 2 ∷ 1 ∷ []) 0 1
    -- "uncaught (last frame dropped)": the step after it
    ∷ row (after (NewInstance 0 5 ∷ i ∷ []) 3) 33 (3 ∷ 0 ∷ 2 ∷ 1 ∷ []) 0 0
    ∷ row (after (NewInstance 0 5 ∷ i ∷ []) 9) 33 (3 ∷ 0 ∷ 2 ∷ 1 ∷ []) 0 0
    ∷ []

raises_right :
    all_right
    (raised_by (InvokeVirtual 7 2 1) ++ raised_by (Iget 2 1 0) ++ raised_by (Iput 0 1 0) ++ raised_by (Throw 1)
    ++ raised_by (Binop Div 2 1 1) ++ raised_by (Binop Rem 2 1 1) ++ raised_by (CheckCast 0 6))
    ≡ true
unfolding bounded steps stop_of step instruction_of fields_of operation_of computed below_in handler_for
raises_right = refl
