-- The instructions of document 01 and the word that writes each: the eight bytes o a b c d of a frame of kind 06, d of four,
-- as one number, "the high byte first". Definitions only.
-- `pick test a b` is a if the test passes, else b
pub use Rattle.std.specs.Prelude.{cond as pick}
use Rattle.std.specs.Prelude.{Bool, true, false, ℕ, ◌+◌, ◌*◌, ◌/◌, ◌%◌, eqb, ltb, ℤ}
use Rattle.std.specs.Int.{w32}
use Rattle.std.proofs.Common.{to_z, of_z}
use Rattle.instruction.specs.declared.Condition.{Condition}
use Rattle.instruction.specs.declared.Condition.TheVariants.{Eq, Ne, Lt, Ge, Gt, Le}
use Rattle.instruction.specs.declared.Operation.{Operation}
use Rattle.instruction.specs.declared.Operation.TheVariants.{Add, Sub, Mul, Div, Rem, And, Or, Xor, Shl, Shr, Ushr}
use Rattle.instruction.specs.declared.Unary.{Unary}
use Rattle.instruction.specs.declared.Unary.TheVariants.{Neg, Not}
use Rattle.instruction.specs.declared.Instruction.{Instruction}
use Rattle.instruction.specs.declared.Instruction.TheVariants.{Nop, Move, Const, Goto, If, IfZero, Binop, Unop, NewInstance, Iget, Iput, Sget, Sput, InvokeVirtual, InvokeStatic, MoveResult, MoveException, Return, ReturnVoid, Throw, InstanceOf, CheckCast}

-- "const a←d, signed": the signed number that four bytes say, high byte first
unfoldable pub signed_of : ℕ → ℕ → ℕ → ℕ → ℤ
signed_of x y z u = to_z w32 (((x * 256 + y) * 256 + z) * 256 + u)

-- "0 to 5 are eq ne lt ge gt le"
unfoldable pub condition_of : ℕ → Condition
condition_of n =
    pick (eqb n 0) Eq (pick (eqb n 1) Ne (pick (eqb n 2) Lt (pick (eqb n 3) Ge (pick (eqb n 4) Gt Le))))

abbrev pub condition_number : Condition → ℕ
condition_number Eq = 0
condition_number Ne = 1
condition_number Lt = 2
condition_number Ge = 3
condition_number Gt = 4
condition_number Le = 5

-- "d = 0 to 10: add sub mul div rem and or xor shl shr ushr"
unfoldable pub operation_of : ℕ → Operation
operation_of n =
    pick (eqb n 0) Add
    (pick (eqb n 1) Sub
    (pick (eqb n 2) Mul
    (pick (eqb n 3) Div
    (pick (eqb n 4) Rem
    (pick (eqb n 5) And
    (pick (eqb n 6) Or
    (pick (eqb n 7) Xor (pick (eqb n 8) Shl (pick (eqb n 9) Shr Ushr)))))))))

abbrev pub operation_number : Operation → ℕ
operation_number Add = 0
operation_number Sub = 1
operation_number Mul = 2
operation_number Div = 3
operation_number Rem = 4
operation_number And = 5
operation_number Or = 6
operation_number Xor = 7
operation_number Shl = 8
operation_number Shr = 9
operation_number Ushr = 10

-- "c = 0 neg, 1 not"
unfoldable pub unary_of : ℕ → Unary
unary_of n = pick (eqb n 0) Neg Not

abbrev pub unary_number : Unary → ℕ
unary_number Neg = 0
unary_number Not = 1

-- the instruction of opcode o with the fields a, b, c and d, and d as a signed number. Another opcode, condition or
-- operation than document 01 names gives an instruction of another word, so that its frame is refused
unfoldable pub fields_of : ℕ → ℕ → ℕ → ℕ → ℕ → ℤ → Instruction
fields_of o a b c d signed =
    pick (eqb o 1) (Move a b)
    (pick (eqb o 2) (Const a signed)
    (pick (eqb o 3) (Goto d)
    (pick (eqb o 4) (pick (ltb c 6) (If (condition_of c) a b d) (IfZero (condition_of (c % 6)) a d))
    (pick (eqb o 5) (Binop (operation_of d) a b c)
    (pick (eqb o 6) (Unop (unary_of c) a b)
    (pick (eqb o 7) (NewInstance a b)
    (pick (eqb o 8) (Iget a b c)
    (pick (eqb o 9) (Iput a b c)
    (pick (eqb o 10) (Sget a b)
    (pick (eqb o 11) (Sput a b)
    (pick (eqb o 12) (InvokeVirtual a b c)
    (pick (eqb o 13) (InvokeStatic a b c)
    (pick (eqb o 14) (MoveResult a)
    (pick (eqb o 15) (MoveException a)
    (pick (eqb o 16) (Return a)
    (pick (eqb o 17) ReturnVoid
    (pick (eqb o 18) (Throw a)
    (pick (eqb o 19) (InstanceOf a b c)
    (pick (eqb o 20) (CheckCast a b) Nop)))))))))))))))))))

-- the instruction of a word
unfoldable pub instruction_of : ℕ → Instruction
instruction_of w =
    fields_of (w / 72057594037927936) (w / 281474976710656 % 256) (w / 1099511627776 % 256) (w / 4294967296 % 256)
    (w % 4294967296)
    (signed_of (w / 16777216 % 256) (w / 65536 % 256) (w / 256 % 256) (w % 256))

-- the word of the fields o a b c d
abbrev pub packed : ℕ → ℕ → ℕ → ℕ → ℕ → ℕ
packed o a b c d = (((o * 256 + a) * 256 + b) * 256 + c) * 4294967296 + d

-- the word of an instruction: "unused fields 0"
abbrev pub word_of : Instruction → ℕ
word_of Nop = packed 0 0 0 0 0
word_of (Move a b) = packed 1 a b 0 0
word_of (Const a d) = packed 2 a 0 0 (of_z w32 d)
word_of (Goto d) = packed 3 0 0 0 d
word_of (If c a b d) = packed 4 a b (condition_number c) d
word_of (IfZero c a d) = packed 4 a 0 (6 + condition_number c) d
word_of (Binop d a b c) = packed 5 a b c (operation_number d)
word_of (Unop c a b) = packed 6 a b (unary_number c) 0
word_of (NewInstance a b) = packed 7 a b 0 0
word_of (Iget a b c) = packed 8 a b c 0
word_of (Iput a b c) = packed 9 a b c 0
word_of (Sget a b) = packed 10 a b 0 0
word_of (Sput a b) = packed 11 a b 0 0
word_of (InvokeVirtual a b c) = packed 12 a b c 0
word_of (InvokeStatic a b c) = packed 13 a b c 0
word_of (MoveResult a) = packed 14 a 0 0 0
word_of (MoveException a) = packed 15 a 0 0 0
word_of (Return a) = packed 16 a 0 0 0
word_of ReturnVoid = packed 17 0 0 0 0
word_of (Throw a) = packed 18 a 0 0 0
word_of (InstanceOf a b c) = packed 19 a b c 0
word_of (CheckCast a b) = packed 20 a b 0 0

-- whether control goes on to the next address: "The last instruction is 03, 10, 11 or 12"
abbrev pub falls_through : Instruction → Bool
falls_through Nop = true
falls_through (Move a b) = true
falls_through (Const a d) = true
falls_through (Goto d) = false
falls_through (If c a b d) = true
falls_through (IfZero c a d) = true
falls_through (Binop d a b c) = true
falls_through (Unop c a b) = true
falls_through (NewInstance a b) = true
falls_through (Iget a b c) = true
falls_through (Iput a b c) = true
falls_through (Sget a b) = true
falls_through (Sput a b) = true
falls_through (InvokeVirtual a b c) = true
falls_through (InvokeStatic a b c) = true
falls_through (MoveResult a) = true
falls_through (MoveException a) = true
falls_through (Return a) = false
falls_through ReturnVoid = false
falls_through (Throw a) = false
falls_through (InstanceOf a b c) = true
falls_through (CheckCast a b) = true
