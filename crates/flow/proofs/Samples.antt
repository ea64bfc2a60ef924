-- Programs and claims that the examples use, and rows of both with a verdict: definitions only. Assumes nothing.
use mathlib.Core.Bool.{Bool, true, false, ◌&&◌}
use mathlib.Core.List.{List, [], ◌∷◌, ◌++◌}
use Prim.Native.Nat.{ℕ, ◌+◌, ◌*◌, ◌-◌, ◌^◌}
use lib.Dec.{eqb}
use lib.IntN.{pos}
use Rattle.instruction.specs.declared.Condition.TheVariants.{Eq, Lt}
use Rattle.instruction.specs.declared.Operation.TheVariants.{Add}
use Rattle.instruction.specs.declared.Unary.TheVariants.{Neg}
use Rattle.instruction.specs.declared.Instruction.{Instruction}
use Rattle.instruction.specs.declared.Instruction.TheVariants.{Nop, Move, Const, Goto, If, IfZero, Binop, Unop, NewInstance, Iget, Iput, Sget, Sput, InvokeVirtual, InvokeStatic, MoveResult, MoveException, Return, ReturnVoid, Throw, InstanceOf, CheckCast}
use Rattle.instruction.specs.Word.{pick}
use Rattle.mask.specs.declared.Mask.{Mask}
use Rattle.program.specs.Program.{Program}
use Rattle.machine.specs.History.{Made}
use Rattle.machine.proofs.Programs.{method, handler, classes}
use Rattle.flow.specs.Claim.{Slot, register_at, result_at, field_of, static_of, returned_by, leaving, Claim}
use Rattle.flow.specs.Verdict.{Verdict, accepted, violated, verdict}

-- ---- masks by their numbers
-- "62 for number zero, 63 for other numbers", both
abbrev pub zeros : ℕ
zeros = 0x4000000000000000

abbrev pub nonzeros : ℕ
nonzeros = 0x8000000000000000

abbrev numbers : ℕ
numbers = 0xc000000000000000

abbrev mask : ℕ → Mask
mask n = record { bits = n }

-- ---- claims
-- one mask for what leaves a method, another everywhere else
abbrev pub alike : ℕ → ℕ → Claim
alike n l (register_at m pc r) = mask n
alike n l (result_at m pc) = mask n
alike n l (field_of k x) = mask n
alike n l (static_of x) = mask n
alike n l (returned_by m) = mask n
alike n l (leaving m) = mask l

-- zero everywhere, and class 2 leaves a method: method 3 throws zero
abbrev pub plain : Claim
plain = alike zeros 4

-- all bits allowed in a program of k classes
abbrev pub all_bits : ℕ → Claim
all_bits k = alike (numbers + (2 ^ k - 1)) (2 ^ k - 1)

-- of seven, as all programs below have
abbrev pub full : Claim
full = all_bits 7

-- a number of its own for each slot whose numbers are bytes
abbrev slot_number : Slot → ℕ
slot_number (register_at m pc r) = (m * 256 + pc) * 256 + r
slot_number (result_at m pc) = 0x01000000 + m * 256 + pc
slot_number (field_of k x) = 0x02000000 + k * 256 + x
slot_number (static_of x) = 0x03000000 + x
slot_number (returned_by m) = 0x04000000 + m
slot_number (leaving m) = 0x05000000 + m

-- the claim with another mask at one slot
abbrev pub but : Slot → ℕ → Claim → Claim
but s n c t = pick (eqb (slot_number s) (slot_number t)) (mask n) (c t)

-- ---- calls and rows
abbrev pub made : ℕ → ℕ → ℕ → Made
made caller address callee = record { caller = caller; address = address; callee = callee }

-- a program, a claim, and what the verdict should be
pub record Row : Type 0 where
  pub program : Program
  pub claim : Claim
  pub answer : Verdict

abbrev pub row : Program → Claim → Verdict → Row
row p c v = record { program = p; claim = c; answer = v }

-- two verdicts are the same
abbrev same : Verdict → Verdict → Bool
same accepted accepted = true
same accepted (violated n m pc) = false
same (violated n m pc) accepted = false
same (violated n m pc) (violated n' m' pc') = eqb n n' && (eqb m m' && eqb pc pc')

abbrev pub all_right : List Row → Bool
all_right [] = true
all_right (r ∷ rs) = same (verdict r.program r.claim) r.answer && all_right rs

-- ---- programs of seven classes: 2, 3 and 4 are below 1, Throwable; class 6 is below 5. Class 5 has field 0, and class 6 field
-- 1 besides. Two statics

-- method 0, of two registers, does what is given, then returns. Name 7 with two arguments is method 1 in class 5, which returns
-- the second, and method 2 in class 6. Method 3 throws its argument
abbrev pub calling : List Instruction → List ℕ → Program
calling code handlers =
    classes
    (method 0 0 1 2 0 (code ++ (ReturnVoid ∷ [])) handlers
    ∷ method 5 7 0 3 2 (Return 2 ∷ []) []
    ∷ method 6 7 0 2 2 (ReturnVoid ∷ []) []
    ∷ method 0 3 1 2 1 (Throw 1 ∷ []) []
    ∷ [])

-- without handlers
abbrev pub doing : List Instruction → Program
doing code = calling code []

-- every instruction, with handlers for both calls and a throw
abbrev pub all_instructions : Program
all_instructions =
    classes
    (method 0 0 1 4 0
    (NewInstance 0 6
    ∷ Const 1 (pos 5)
    ∷ Iput 1 0 0
    ∷ Iget 2 0 1
    ∷ Sput 2 1
    ∷ Sget 3 0
    ∷ InvokeVirtual 7 2 0
    ∷ MoveResult 2
    ∷ If Lt 1 2 10
    ∷ IfZero Eq 0 12
    ∷ Binop Add 1 2 3
    ∷ Unop Neg 1 2
    ∷ InvokeStatic 3 1 1
    ∷ Goto 15
    ∷ MoveException 2
    ∷ InstanceOf 1 2 2
    ∷ CheckCast 2 1
    ∷ Nop
    ∷ ReturnVoid
    ∷ [])
    (handler 6 7 14 0 ∷ handler 12 13 14 1 ∷ [])
    ∷ method 5 7 0 3 2 (Return 2 ∷ []) []
    ∷ method 6 7 0 2 2 (Move 1 0 ∷ ReturnVoid ∷ []) []
    ∷ method 0 3 1 2 1 (NewInstance 0 2 ∷ Throw 0 ∷ MoveException 1 ∷ Throw 1 ∷ []) (handler 1 2 2 2 ∷ [])
    ∷ [])
