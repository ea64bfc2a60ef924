-- Each fault by computation, what is raised where null is used, a number divided by zero or a cast fails, with the order of tests,
-- and what is no fault. That a fault changes nothing else is a law (`step-failed` of Continues). Assumes nothing.
use mathlib.Core.Path.{◌≡◌, refl}
use mathlib.Core.Bool.{true}
use mathlib.Core.List.{List, [], ◌∷◌}
use lib.IntN.{pos, negsuc}
use Rattle.instruction.specs.declared.Condition.TheVariants.{Eq, Ne, Lt, Ge, Gt, Le}
use Rattle.instruction.specs.declared.Operation.TheVariants.{Add, Div, Rem}
use Rattle.instruction.specs.declared.Unary.TheVariants.{Neg}
use Rattle.instruction.specs.declared.Instruction.TheVariants.{Move, Const, If, IfZero, Binop, Unop, NewInstance, Iget, Iput, InvokeVirtual, Throw, InstanceOf, CheckCast}
use Rattle.instruction.specs.Word.{instruction_of, fields_of, condition_of, operation_of, unary_of, signed_of}
use Rattle.arithmetic.specs.Arithmetic.{computed, wrapped, unary_value, in_order}
use Rattle.search.specs.Search.{below_in, has_field, answers, method_in, callee_in}
use Rattle.machine.specs.declared.Value.TheVariants.{Number, Reference}
use Rattle.machine.specs.State.{null}
use Rattle.machine.specs.Run.{run, step}
use Rattle.machine.proofs.Programs.{goes, raises, fails, holds, Row, all_right, row}

-- the fault's number, or the raised class and the object's number, and the address, in the one frame of method 0
faults : List Row
faults =
    -- null as object raises class 2: "the object before its field" and before its method
    row (Iget 0 1 0 ∷ []) 1 (raises 2 0 0 ∷ [])
    ∷ row (Iput 0 1 0 ∷ []) 1 (raises 2 0 0 ∷ [])
    ∷ row (InvokeVirtual 7 2 0 ∷ []) 1 (raises 2 0 0 ∷ [])
    ∷ row (InvokeVirtual 5 1 0 ∷ []) 1 (raises 2 0 0 ∷ [])
    ∷ row (Throw 0 ∷ []) 1 (raises 2 0 0 ∷ [])
    -- 2: another number as object
    ∷ row (Const 1 (pos 5) ∷ Iget 0 1 0 ∷ []) 2 (fails 2 1 ∷ [])
    ∷ row (Const 1 (negsuc 0) ∷ Iput 0 1 0 ∷ []) 2 (fails 2 1 ∷ [])
    ∷ row (Const 1 (pos 5) ∷ InvokeVirtual 7 2 1 ∷ []) 2 (fails 2 1 ∷ [])
    ∷ row (Const 1 (pos 5) ∷ Throw 1 ∷ []) 2 (fails 2 1 ∷ [])
    ∷ row (Const 1 (pos 5) ∷ InstanceOf 0 1 0 ∷ []) 2 (fails 2 1 ∷ [])
    ∷ row (Const 1 (pos 5) ∷ CheckCast 1 0 ∷ []) 2 (fails 2 1 ∷ [])
    -- 3: an object as number, "binop tests both for 3 before 4"; "Order conditions need numbers"
    ∷ row (NewInstance 0 5 ∷ Binop Add 1 0 2 ∷ []) 2 (fails 3 1 ∷ [])
    ∷ row (NewInstance 0 5 ∷ Binop Add 1 2 0 ∷ []) 2 (fails 3 1 ∷ [])
    ∷ row (NewInstance 0 5 ∷ Binop Add 1 0 0 ∷ []) 2 (fails 3 1 ∷ [])
    -- "binop tests both for 3 before 4"
    ∷ row (NewInstance 0 5 ∷ Binop Div 1 0 2 ∷ []) 2 (fails 3 1 ∷ [])
    ∷ row (NewInstance 0 5 ∷ Unop Neg 1 0 ∷ []) 2 (fails 3 1 ∷ [])
    ∷ row (NewInstance 0 5 ∷ If Lt 0 1 0 ∷ []) 2 (fails 3 1 ∷ [])
    ∷ row (NewInstance 0 5 ∷ If Ge 1 0 0 ∷ []) 2 (fails 3 1 ∷ [])
    ∷ row (NewInstance 0 5 ∷ If Gt 0 0 0 ∷ []) 2 (fails 3 1 ∷ [])
    ∷ row (NewInstance 0 5 ∷ IfZero Le 0 0 ∷ []) 2 (fails 3 1 ∷ [])
    -- division by zero raises class 3
    ∷ row (Const 0 (pos 5) ∷ Binop Div 1 0 2 ∷ []) 2 (raises 3 0 1 ∷ [])
    ∷ row (Binop Rem 1 0 2 ∷ []) 1 (raises 3 0 0 ∷ [])
    -- 5: a field of another class, and of a class below
    ∷ row (NewInstance 0 2 ∷ Iget 1 0 0 ∷ []) 2 (fails 5 1 ∷ [])
    ∷ row (NewInstance 0 5 ∷ Iput 1 0 1 ∷ []) 2 (fails 5 1 ∷ [])
    -- 6: another name, another count
    ∷ row (NewInstance 0 6 ∷ InvokeVirtual 5 1 0 ∷ []) 2 (fails 6 1 ∷ [])
    ∷ row (NewInstance 0 5 ∷ InvokeVirtual 9 2 0 ∷ []) 2 (fails 6 1 ∷ [])
    -- 7: throw of no Throwable
    ∷ row (NewInstance 0 5 ∷ Throw 0 ∷ []) 2 (fails 7 1 ∷ [])
    -- a cast to a class below, and to another, raises class 4
    ∷ row (NewInstance 0 5 ∷ CheckCast 0 6 ∷ []) 2 (raises 4 1 1 ∷ [])
    ∷ row (NewInstance 0 5 ∷ CheckCast 0 1 ∷ []) 2 (raises 4 1 1 ∷ [])
    ∷ []

faults_right : all_right faults ≡ true
unfolding faults run step instruction_of fields_of condition_of operation_of unary_of signed_of computed wrapped unary_value
    in_order below_in has_field answers method_in callee_in
faults_right = refl

no_faults : List Row
no_faults =
    -- "eq and ne take any values; an object equals only itself": object 0 is not number 0
    row (NewInstance 0 5 ∷ If Eq 0 1 0 ∷ []) 2 (goes 0 2 1 ∷ [])
    ∷ row (NewInstance 0 5 ∷ If Ne 1 0 0 ∷ []) 2 (goes 0 0 1 ∷ [])
    ∷ row (NewInstance 0 5 ∷ IfZero Eq 0 0 ∷ []) 2 (goes 0 2 1 ∷ [])
    ∷ row (NewInstance 0 5 ∷ Move 1 0 ∷ If Eq 0 1 0 ∷ []) 3 (goes 0 0 1 ∷ [])
    ∷ row (NewInstance 0 5 ∷ Move 1 0 ∷ If Ne 0 1 0 ∷ []) 3 (goes 0 3 1 ∷ [])
    ∷ row (NewInstance 0 5 ∷ NewInstance 1 5 ∷ If Eq 0 1 0 ∷ []) 3 (goes 0 3 1 ∷ [])
    -- "Null passes a cast and is an instance of nothing"
    ∷ row (CheckCast 0 6 ∷ []) 1 (goes 0 1 1 ∷ holds 0 null ∷ [])
    ∷ row (Const 1 (pos 5) ∷ InstanceOf 1 0 0 ∷ []) 2 (goes 0 2 1 ∷ holds 1 null ∷ [])
    -- a cast to a class above leaves the object; an instance of its class and above, not below
    ∷ row (NewInstance 0 6 ∷ CheckCast 0 5 ∷ []) 2 (goes 0 2 1 ∷ holds 0 (Reference 0) ∷ [])
    ∷ row (NewInstance 0 6 ∷ InstanceOf 1 0 5 ∷ []) 2 (holds 1 (Number (pos 1)) ∷ [])
    ∷ row (NewInstance 0 5 ∷ InstanceOf 1 0 5 ∷ []) 2 (holds 1 (Number (pos 1)) ∷ [])
    ∷ row (Const 1 (pos 5) ∷ NewInstance 0 5 ∷ InstanceOf 1 0 6 ∷ []) 3 (holds 1 null ∷ [])
    ∷ []

no_faults_right : all_right no_faults ≡ true
unfolding no_faults run step instruction_of fields_of condition_of signed_of below_in
no_faults_right = refl
