-- Null used, division by zero and a failed cast by computation: raised in one step, caught and uncaught, through callers. Assumes
-- nothing.
use mathlib.Core.Path.{◌≡◌, refl}
use mathlib.Core.Bool.{true}
use mathlib.Core.List.{List, [], ◌∷◌, ◌++◌}
use Prim.Native.Nat.{ℕ}
use Rattle.instruction.specs.declared.Operation.TheVariants.{Div, Rem}
use Rattle.instruction.specs.declared.Instruction.{Instruction}
use Rattle.instruction.specs.declared.Instruction.TheVariants.{Binop, NewInstance, Iget, Iput, InvokeVirtual, InvokeStatic}
use Rattle.instruction.specs.declared.Instruction.TheVariants.{MoveException, ReturnVoid, Throw, CheckCast}
use Rattle.instruction.specs.Word.{instruction_of, fields_of, operation_of}
use Rattle.arithmetic.specs.Arithmetic.{computed}
use Rattle.program.specs.Program.{Program}
use Rattle.search.specs.Search.{below_in, catches, handler_for}
use Rattle.machine.specs.declared.Value.TheVariants.{Reference}
use Rattle.machine.specs.State.{null}
use Rattle.machine.specs.Run.{run, step}
use Rattle.machine.proofs.Programs.{method, handler, classes, goes, pending, makes, ends_with, holds, results, Row, all_right, row_of}

-- method 0 calls method 1, which calls method 2, which makes object 0 in register 0, with null in the others, and then does i
abbrev deep : Instruction → List ℕ → List ℕ → Program
deep i inner outer =
    classes
    (method 0 0 1 1 0 (InvokeStatic 1 0 0 ∷ ReturnVoid ∷ MoveException 0 ∷ ReturnVoid ∷ []) outer
    ∷ method 0 1 1 1 0 (InvokeStatic 2 0 0 ∷ ReturnVoid ∷ []) []
    ∷ method 0 2 1 3 0 (NewInstance 0 5 ∷ i ∷ ReturnVoid ∷ MoveException 2 ∷ ReturnVoid ∷ []) inner
    ∷ [])

-- i raises class k, and neither of the two others
abbrev raised_by : ℕ → ℕ → ℕ → Instruction → List Row
raised_by k other another i =
    -- "makes such an object, its fields zero, and makes it pending": one step, the frame where it was, no register written
    row_of (deep i [] []) 4 (pending 1 2 1 3 ∷ makes k 1 ∷ holds 0 (Reference 0) ∷ holds 1 null ∷ holds 2 null ∷ results null ∷ [])
    -- caught where it is raised, by its class and by Throwable, with the registers as they were
    ∷ row_of (deep i (handler 1 2 3 k ∷ []) []) 5
    (goes 2 3 3 ∷ makes k 1 ∷ results (Reference 1) ∷ holds 0 (Reference 0) ∷ holds 2 null ∷ [])
    ∷ row_of (deep i (handler 1 2 3 1 ∷ []) []) 6 (goes 2 4 3 ∷ holds 2 (Reference 1) ∷ [])
    -- not by the other two: dropped, and caught through two callers
    ∷ row_of (deep i (handler 1 2 3 other ∷ handler 1 2 3 another ∷ []) (handler 0 1 2 k ∷ [])) 5 (pending 1 1 0 2 ∷ [])
    ∷ row_of (deep i (handler 1 2 3 other ∷ handler 1 2 3 another ∷ []) (handler 0 1 2 k ∷ [])) 7 (goes 0 2 1 ∷ results (Reference 1) ∷ [])
    -- uncaught
    ∷ row_of (deep i [] (handler 0 1 2 other ∷ [])) 6 (pending 1 0 0 1 ∷ [])
    ∷ row_of (deep i [] (handler 0 1 2 other ∷ [])) 7 (ends_with 1 ∷ makes k 1 ∷ [])
    ∷ []

null_raised :
    all_right
    (raised_by 2 3 4 (InvokeVirtual 7 2 1) ++ raised_by 2 3 4 (Iget 2 1 0) ++ raised_by 2 3 4 (Iput 0 1 0) ++ raised_by 2 3 4 (Throw 1))
    ≡ true
unfolding run step instruction_of fields_of below_in catches handler_for
null_raised = refl

zero_raised : all_right (raised_by 3 2 4 (Binop Div 2 1 1) ++ raised_by 3 2 4 (Binop Rem 2 1 1)) ≡ true
unfolding run step instruction_of fields_of operation_of computed below_in catches handler_for
zero_raised = refl

cast_raised : all_right (raised_by 4 2 3 (CheckCast 0 6) ++ raised_by 4 2 3 (CheckCast 0 1)) ≡ true
unfolding run step instruction_of fields_of below_in catches handler_for
cast_raised = refl
