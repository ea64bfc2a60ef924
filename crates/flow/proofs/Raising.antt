-- Rules 9 and 10 of the classes that instructions raise themselves, by computation. Assumes nothing.
use mathlib.Core.Path.{◌≡◌, refl}
use mathlib.Core.Bool.{true}
use mathlib.Core.List.{List, [], ◌∷◌, ◌++◌}
use Prim.Native.Nat.{ℕ, ◌+◌, ◌-◌, ◌^◌}
use lib.IntN.{pos}
use Rattle.instruction.specs.declared.Operation.TheVariants.{Add, Div, Rem}
use Rattle.instruction.specs.declared.Instruction.{Instruction}
use Rattle.instruction.specs.declared.Instruction.TheVariants.{Nop, Const, Binop, NewInstance, Iget, Iput, InvokeVirtual, Throw}
use Rattle.instruction.specs.declared.Instruction.TheVariants.{InstanceOf, CheckCast}
use Rattle.instruction.specs.Word.{instruction_of, fields_of, operation_of, signed_of}
use Rattle.mask.specs.Mask.{has, subset, has_number}
use Rattle.search.specs.Search.{below_in, has_field, answers, method_in, callee_in, catches, handler_for}
use Rattle.machine.proofs.Programs.{handler}
use Rattle.flow.specs.Claim.{register_at, result_at, leaving, Claim}
use Rattle.flow.specs.Verdict.{accepted, violated, verdict}
use Rattle.flow.proofs.Samples.{zeros, nonzeros, full, but, Row, row, all_right, calling, doing}

-- register 0 is null, or zero, and all other bits are there
abbrev null : Claim
null = but (register_at 0 0 0) zeros full

-- the seven classes but for one
abbrev without : ℕ → ℕ
without k = 127 - 2 ^ k

-- an instruction that raises class k, at address 0
abbrev raised : ℕ → Instruction → List Row
raised k i =
    -- "with none (10), the bit goes into the method's mask"
    row (doing (i ∷ [])) (but (leaving 0) (without k) null) (violated 10 0 0)
    -- "with a handler (9), registers go into its target and the class bit into the target's result"
    ∷ row (calling (i ∷ Nop ∷ []) (handler 0 1 2 k ∷ [])) (but (result_at 0 2) (zeros + nonzeros + without k) null) (violated 9 0 0)
    ∷ row (calling (i ∷ Nop ∷ []) (handler 0 1 2 1 ∷ [])) (but (register_at 0 2 1) 0 null) (violated 9 0 0)
    -- and the bit does not go into the method's mask
    ∷ row (calling (i ∷ Nop ∷ []) (handler 0 1 2 k ∷ [])) (but (leaving 0) (without k) null) accepted
    ∷ []

-- "class 2 where a used object (receiver, iget, iput, throw) has bit 62"
null_raised : all_right (raised 2 (InvokeVirtual 9 1 0) ++ raised 2 (Iget 1 0 0) ++ raised 2 (Iput 1 0 0) ++ raised 2 (Throw 0)) ≡ true
unfolding verdict has subset has_number instruction_of fields_of below_in has_field answers method_in callee_in catches handler_for
null_raised = refl

-- "3 where a divisor has bit 62, 4 where a cast mask has a class not at or below the named one"
others_raised : all_right (raised 3 (Binop Div 1 1 0) ++ raised 3 (Binop Rem 1 1 0) ++ raised 4 (CheckCast 1 5)) ≡ true
unfolding verdict has subset has_number instruction_of fields_of operation_of below_in has_field catches handler_for
others_raised = refl

-- ---- what raises nothing: no class leaves method 0
-- register 1 has a mask at address 1, after an instruction that writes it
abbrev unraised : Instruction → ℕ → Instruction → Row
unraised first mask i = row (doing (first ∷ i ∷ [])) (but (register_at 0 1 1) mask (but (leaving 0) 0 full)) accepted

nothing : List Row
nothing =
    -- an object without bit 62, a divisor without it
    unraised (NewInstance 1 5) 32 (InvokeVirtual 9 1 1)
    ∷ unraised (NewInstance 1 5) 32 (Iget 0 1 0)
    ∷ unraised (NewInstance 1 5) 32 (Iput 0 1 0)
    ∷ row (doing (NewInstance 1 2 ∷ Throw 1 ∷ [])) (but (register_at 0 1 1) 4 (but (leaving 0) 4 full)) accepted
    ∷ unraised (Const 1 (pos 5)) nonzeros (Binop Div 0 0 1)
    -- a cast of null, of other numbers and of classes at or below the named one
    ∷ unraised (NewInstance 1 5) (zeros + nonzeros + 96) (CheckCast 1 5)
    -- another operation, and instance-of
    ∷ row (doing (Binop Add 1 0 0 ∷ InstanceOf 0 0 5 ∷ [])) (but (leaving 0) 0 full) accepted
    ∷ []

nothing_right : all_right nothing ≡ true
unfolding nothing verdict has subset has_number instruction_of fields_of operation_of signed_of below_in has_field answers method_in
    callee_in handler_for
nothing_right = refl

-- ---- the rest
more : List Row
more =
    -- the divisor counts, whatever the other operand has
    row (doing (NewInstance 1 5 ∷ Binop Div 1 1 0 ∷ [])) (but (register_at 0 1 1) 32 (but (leaving 0) (without 3) full)) (violated 10 0 1)
    -- the handler of a cast has the register as it was, next has it filtered
    ∷ row (calling (CheckCast 1 5 ∷ Nop ∷ []) (handler 0 1 2 4 ∷ []))
    (but (register_at 0 0 1) (zeros + 2) (but (register_at 0 1 1) zeros (but (register_at 0 2 1) zeros full)))
    (violated 9 0 0)
    ∷ row (calling (CheckCast 1 5 ∷ Nop ∷ []) (handler 0 1 2 4 ∷ []))
    (but (register_at 0 0 1) (zeros + 2) (but (register_at 0 1 1) zeros (but (register_at 0 2 1) (zeros + 2) full)))
    accepted
    -- rule 2 asks next though the instruction can only raise
    ∷ row (doing (Iget 1 0 0 ∷ [])) (but (register_at 0 1 0) 0 null) (violated 2 0 0)
    ∷ []

more_right : all_right more ≡ true
unfolding more verdict has subset has_number instruction_of fields_of operation_of below_in has_field catches handler_for
more_right = refl
