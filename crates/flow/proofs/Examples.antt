-- Verdicts and call lists by computation. Assumes nothing.
use mathlib.Core.Path.{◌≡◌, refl}
use mathlib.Core.Bool.{true}
use mathlib.Core.List.{List, [], ◌∷◌}
use Prim.Native.Nat.{ℕ, ◌+◌}
use lib.IntN.{pos}
use Rattle.instruction.specs.declared.Condition.TheVariants.{Eq, Lt}
use Rattle.instruction.specs.declared.Operation.TheVariants.{Add}
use Rattle.instruction.specs.declared.Unary.TheVariants.{Neg}
use Rattle.instruction.specs.declared.Instruction.{Instruction}
use Rattle.instruction.specs.declared.Instruction.TheVariants.{Nop, Move, Const, Goto, If, IfZero, Binop, Unop, NewInstance, Iget, Iput, Sget, Sput, InvokeVirtual, InvokeStatic, MoveResult, MoveException, Return, ReturnVoid, Throw, InstanceOf, CheckCast}
use Rattle.instruction.specs.Word.{instruction_of, fields_of, condition_of, operation_of, unary_of, signed_of}
use Rattle.mask.specs.Mask.{has, subset, has_number}
use Rattle.search.specs.Search.{below_in, has_field, answers, method_in, callee_in, catches, handler_for}
use Rattle.reader.proofs.Examples.{sample_program}
use Rattle.machine.proofs.Programs.{handler, program}
use Rattle.flow.specs.Claim.{Slot, register_at, result_at, field_of, static_of, returned_by, leaving}
use Rattle.flow.specs.Verdict.{accepted, violated, verdict}
use Rattle.flow.specs.Calls.{call_list}
use Rattle.flow.proofs.Samples.{zeros, nonzeros, alike, plain, all_bits, full, but, Row, row, all_right, calling, doing, all_instructions, made}

-- ---- all allowed bits
fulls : List Row
fulls =
    -- "a claim with all allowed bits is accepted"
    row sample_program (all_bits 5) accepted
    ∷ row all_instructions full accepted
    ∷ []

full_right : all_right fulls ≡ true
unfolding fulls verdict has subset has_number instruction_of fields_of condition_of operation_of unary_of signed_of below_in has_field
    answers method_in callee_in catches handler_for
full_right = refl

-- ---- what is not asked: in each row, a rule that asked it would be broken
unasked : List Row
unasked =
    -- a written register's old mask at next: zero, then 5, then zero
    row (doing (Const 0 (pos 5) ∷ Const 0 (pos 0) ∷ [])) (but (register_at 0 1 0) nonzeros plain) accepted
    -- a second handler that fits
    ∷ row (calling (Throw 0 ∷ ReturnVoid ∷ []) (handler 0 1 1 1 ∷ handler 0 1 2 1 ∷ []))
    (but (result_at 0 2) 0 (but (register_at 0 2 1) 0 full))
    accepted
    -- the callee's registers where a call's exception is handled
    ∷ row (calling (InvokeStatic 3 1 0 ∷ []) (handler 0 1 1 0 ∷ []))
    (but (register_at 0 0 1) zeros (but (register_at 0 1 1) zeros full))
    accepted
    -- the result before a throw where it is handled; classes not at or below Throwable, there and where a throw leaves
    ∷ row (calling (Throw 0 ∷ []) (handler 0 1 1 0 ∷ [])) (but (result_at 0 1) 30 full) accepted
    ∷ row (doing (Throw 0 ∷ [])) (but (leaving 0) 30 full) accepted
    -- numbers of a sum whose operand is an object
    ∷ row (doing (NewInstance 1 5 ∷ Binop Add 0 0 1 ∷ [])) (but (register_at 0 1 1) 32 (but (register_at 0 2 0) 0 full)) accepted
    -- the field of a class that the object's register does not have
    ∷ row (doing (NewInstance 1 5 ∷ Iget 0 1 0 ∷ []))
    (but (register_at 0 1 1) 32 (but (field_of 5 0) zeros (but (register_at 0 2 0) zeros full)))
    accepted
    ∷ row (doing (NewInstance 1 5 ∷ Iput 0 1 0 ∷ [])) (but (register_at 0 1 1) 32 (but (field_of 6 0) zeros full)) accepted
    -- what follows a goto, a return and a throw
    ∷ row (doing (Goto 2 ∷ ReturnVoid ∷ [])) (but (register_at 0 1 0) 0 (but (result_at 0 1) 0 full)) accepted
    ∷ row (doing (ReturnVoid ∷ [])) (but (register_at 0 1 0) 0 (but (result_at 0 1) 0 full)) accepted
    ∷ row (doing (Throw 0 ∷ [])) (but (register_at 0 1 0) 0 (but (result_at 0 1) 0 full)) accepted
    -- zero's bit in an argument's register
    ∷ row (doing []) (but (register_at 3 0 1) 0 full) accepted
    -- zero's bit in what a method returns that returns another number
    ∷ row (doing []) (but (register_at 1 0 2) nonzeros (but (returned_by 1) nonzeros full)) accepted
    -- anything of a field read from no class, or of the negative of an object
    ∷ row (doing (Iget 0 1 0 ∷ [])) (but (register_at 0 0 1) zeros (but (register_at 0 1 0) 0 full)) accepted
    ∷ row (doing (NewInstance 1 5 ∷ Unop Neg 0 1 ∷ [])) (but (register_at 0 1 1) 32 (but (register_at 0 2 0) 0 full)) accepted
    -- the result before a call where its exception is handled
    ∷ row (calling (InvokeStatic 3 1 0 ∷ ReturnVoid ∷ []) (handler 0 1 2 0 ∷ [])) (but (result_at 0 2) 127 full) accepted
    ∷ []

unasked_right : all_right unasked ≡ true
unfolding unasked verdict has subset has_number instruction_of fields_of operation_of unary_of signed_of below_in has_field answers
    method_in callee_in catches handler_for
unasked_right = refl

-- the same of a cast: numbers other than zero, and classes not at or below the cast's
cast_drops : verdict (doing (CheckCast 0 5 ∷ [])) (but (register_at 0 1 0) (zeros + 96) full) ≡ accepted
unfolding verdict has subset has_number instruction_of fields_of below_in has_field handler_for
cast_drops = refl

-- of a receiver's parameter: null, numbers, and classes that lead elsewhere
receiver_drops : verdict (doing (InvokeVirtual 7 2 0 ∷ [])) (but (register_at 1 0 1) 32 (but (register_at 2 0 0) 64 full)) ≡ accepted
unfolding verdict has subset has_number instruction_of fields_of below_in has_field answers method_in callee_in catches handler_for
receiver_drops = refl

-- and of the result after a call
after_calls : List Row
after_calls =
    -- the result before a call, static or virtual, at next
    row (doing (InvokeStatic 3 1 0 ∷ [])) (but (returned_by 3) 0 (but (result_at 0 1) 0 full)) accepted
    ∷ row (doing (InvokeVirtual 7 2 0 ∷ []))
    (but (register_at 0 0 0) (zeros + 64) (but (returned_by 2) zeros (but (result_at 0 1) zeros full)))
    accepted
    -- of a virtual call without a callee, anything of the result at next
    ∷ row (doing (InvokeVirtual 9 1 0 ∷ [])) (but (result_at 0 1) 0 full) accepted
    ∷ []

after_calls_right : all_right after_calls ≡ true
unfolding after_calls verdict has subset has_number instruction_of fields_of below_in has_field answers method_in callee_in handler_for
after_calls_right = refl

-- ---- each rule broken
-- all bits, but for one slot: broken at address 0 of method 0
abbrev breaks : ℕ → List Instruction → Slot → ℕ → Row
breaks rule code slot bits = row (doing code) (but slot bits full) (violated rule 0 0)

broken : List Row
broken =
    -- 0: a static, a field
    breaks 0 [] (static_of 1) nonzeros
    ∷ breaks 0 [] (field_of 6 0) nonzeros
    -- "tested first": no mask has a bit, so that rules 1 and 8 are broken too
    ∷ row (doing []) (alike 0 0) (violated 0 0 0)
    -- and where rule 4 is broken at the same address
    ∷ row (doing (Const 0 (pos 5) ∷ [])) (but (static_of 1) 0 plain) (violated 0 0 0)
    -- 1: a register, the result, and a method that is not called
    ∷ breaks 1 [] (register_at 0 0 1) nonzeros
    ∷ breaks 1 [] (result_at 0 0) nonzeros
    ∷ row (doing []) (but (register_at 1 0 0) nonzeros full) (violated 1 1 0)
    -- 2: a register, the result, another register than the written one, at the branch not taken, after a call, also one without a
    -- callee
    ∷ breaks 2 (Nop ∷ []) (register_at 0 1 1) zeros
    ∷ breaks 2 (Nop ∷ []) (result_at 0 1) zeros
    ∷ breaks 2 (Const 0 (pos 5) ∷ []) (register_at 0 1 1) zeros
    ∷ breaks 2 (IfZero Eq 0 0 ∷ []) (register_at 0 1 0) zeros
    ∷ breaks 2 (InvokeStatic 3 1 0 ∷ []) (register_at 0 1 0) zeros
    ∷ breaks 2 (InvokeVirtual 7 2 0 ∷ []) (register_at 0 1 1) zeros
    ∷ breaks 2 (InvokeVirtual 9 1 0 ∷ []) (register_at 0 1 1) zeros
    -- 3: the result, a register
    ∷ breaks 3 (Goto 1 ∷ []) (result_at 0 1) zeros
    ∷ breaks 3 (If Lt 0 1 2 ∷ Nop ∷ []) (register_at 0 2 0) zeros
    ∷ breaks 3 (IfZero Eq 0 2 ∷ Nop ∷ []) (register_at 0 2 1) zeros
    -- 4: each instruction that writes; a register moved to itself is written
    ∷ breaks 4 (Move 0 1 ∷ []) (register_at 0 1 0) zeros
    ∷ breaks 4 (Move 0 0 ∷ []) (register_at 0 1 0) zeros
    ∷ breaks 4 (Const 0 (pos 5) ∷ []) (register_at 0 1 0) zeros
    ∷ breaks 4 (Const 0 (pos 0) ∷ []) (register_at 0 1 0) nonzeros
    ∷ breaks 4 (Binop Add 0 0 1 ∷ []) (register_at 0 1 0) zeros
    ∷ breaks 4 (Binop Add 0 0 1 ∷ []) (register_at 0 1 0) nonzeros
    ∷ breaks 4 (Unop Neg 0 1 ∷ []) (register_at 0 1 0) zeros
    ∷ breaks 4 (NewInstance 0 5 ∷ []) (register_at 0 1 0) 64
    ∷ breaks 4 (Iget 0 1 1 ∷ []) (register_at 0 1 0) zeros
    ∷ breaks 4 (Sget 0 1 ∷ []) (register_at 0 1 0) zeros
    ∷ breaks 4 (MoveResult 0 ∷ []) (register_at 0 1 0) zeros
    ∷ breaks 4 (MoveException 0 ∷ []) (register_at 0 1 0) zeros
    ∷ breaks 4 (InstanceOf 0 1 5 ∷ []) (register_at 0 1 0) zeros
    -- a cast to class 5 passes null and class 6
    ∷ breaks 4 (CheckCast 0 5 ∷ []) (register_at 0 1 0) 96
    ∷ breaks 4 (CheckCast 0 5 ∷ []) (register_at 0 1 0) (zeros + 32)
    -- 5: a field in a class below, a static
    ∷ breaks 5 (Iput 0 1 0 ∷ []) (field_of 6 0) zeros
    ∷ breaks 5 (Sput 0 1 ∷ []) (static_of 1) zeros
    -- 6: an argument, a receiver's class, an argument after the receiver
    ∷ breaks 6 (InvokeStatic 3 1 0 ∷ []) (register_at 3 0 1) zeros
    ∷ breaks 6 (InvokeVirtual 7 2 0 ∷ []) (register_at 2 0 0) 32
    ∷ breaks 6 (InvokeVirtual 7 2 0 ∷ []) (register_at 1 0 2) zeros
    -- each class that leads to a callee is asked of its parameter
    ∷ row (program (InvokeVirtual 8 1 0 ∷ [])) (but (register_at 3 0 0) 32 full) (violated 6 0 0)
    -- 7, 8: a virtual call, a return of a register
    ∷ breaks 7 (InvokeVirtual 7 2 0 ∷ []) (result_at 0 1) zeros
    ∷ breaks 8 (Return 0 ∷ []) (returned_by 0) zeros
    -- 9: the result and a register where a throw is handled; the result where a static call's exception is, Throwable or not; a
    -- register where a virtual call's is
    ∷ row (calling (Throw 0 ∷ []) (handler 0 1 1 2 ∷ [])) (but (result_at 0 1) zeros full) (violated 9 0 0)
    ∷ row (calling (Throw 0 ∷ []) (handler 0 1 1 2 ∷ [])) (but (register_at 0 1 1) zeros full) (violated 9 0 0)
    ∷ row (calling (InvokeStatic 3 1 0 ∷ Nop ∷ []) (handler 0 1 2 2 ∷ [])) (but (result_at 0 2) zeros full) (violated 9 0 0)
    ∷ row (calling (InvokeStatic 3 1 0 ∷ Nop ∷ []) (handler 0 1 2 0 ∷ [])) (but (result_at 0 2) (zeros + 30) full) (violated 9 0 0)
    ∷ row (calling (InvokeVirtual 7 2 0 ∷ Nop ∷ []) (handler 0 1 2 2 ∷ [])) (but (register_at 0 2 1) zeros full) (violated 9 0 0)
    -- 10: what a throw lets leave; what leaves a callee, though it is no Throwable, and where it is one
    ∷ breaks 10 (Throw 0 ∷ []) (leaving 0) 28
    ∷ breaks 10 (InvokeStatic 3 1 0 ∷ []) (leaving 0) 30
    ∷ breaks 10 (InvokeStatic 3 1 0 ∷ []) (leaving 0) 97
    ∷ breaks 10 (InvokeVirtual 7 2 0 ∷ []) (leaving 0) 30
    -- class 1 breaks 10 and class 2 breaks 9: the lowest rule is reported
    ∷ row (calling (Throw 0 ∷ []) (handler 0 1 1 2 ∷ [])) (but (leaving 0) 0 (but (result_at 0 1) zeros full)) (violated 9 0 0)
    -- a lower method comes before a lower address, and that before a lower rule
    ∷ row (doing (Nop ∷ [])) (but (returned_by 0) 0 (but (register_at 1 0 0) 0 plain)) (violated 8 0 1)
    ∷ row (doing (ReturnVoid ∷ Const 0 (pos 5) ∷ [])) (but (returned_by 0) 0 plain) (violated 8 0 0)
    -- code that nothing reaches is tested: after a goto, after a return
    ∷ row (doing (Goto 2 ∷ Const 0 (pos 5) ∷ [])) plain (violated 4 0 1)
    ∷ row (doing (ReturnVoid ∷ Const 0 (pos 5) ∷ [])) plain (violated 4 0 1)
    ∷ []

broken_right : all_right broken ≡ true
unfolding broken verdict has subset has_number instruction_of fields_of condition_of operation_of unary_of signed_of below_in has_field
    answers method_in callee_in catches handler_for
broken_right = refl

-- ---- call lists
-- "it prints the two lines `accepted`, `00 00 01`"
sample_calls : call_list sample_program plain ≡ made 0 0 1 ∷ []
unfolding call_list has instruction_of fields_of
sample_calls = refl

-- a virtual call with every class in the receiver, a static call
all_calls : call_list all_instructions full ≡ made 0 6 1 ∷ made 0 6 2 ∷ made 0 12 3 ∷ []
unfolding call_list has instruction_of fields_of answers method_in callee_in
all_calls = refl

-- with class 6 alone in the receiver
one_class_lem : call_list all_instructions (but (register_at 0 6 0) 64 full) ≡ made 0 6 2 ∷ made 0 12 3 ∷ []
unfolding call_list has instruction_of fields_of answers method_in callee_in
one_class_lem = refl

-- a callee that two classes lead to stands once
once : call_list (program (InvokeVirtual 8 1 0 ∷ [])) full ≡ made 0 0 3 ∷ []
unfolding call_list has instruction_of fields_of answers method_in callee_in
once = refl

-- code that nothing reaches has its calls too
unreached : call_list (doing (Goto 2 ∷ InvokeStatic 3 1 0 ∷ [])) plain ≡ made 0 1 3 ∷ []
unfolding call_list has instruction_of fields_of
unreached = refl
