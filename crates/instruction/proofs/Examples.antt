-- Words by document 01's list of instructions: each decodes to its instruction, which is written by that word. And words of no
-- instruction, which decode to one of another word. Computed. Assumes nothing.
use mathlib.Core.Path.{◌≡◌, refl}
use mathlib.Core.Bool.{Bool, false, ◌||◌}
use mathlib.Core.List.{List, [], ◌∷◌, map}
use Prim.Native.Nat.{ℕ}
use lib.Dec.{eqb}
use lib.IntN.{pos, negsuc}
use Rattle.instruction.specs.declared.Condition.TheVariants.{Eq, Ne, Lt, Ge, Gt, Le}
use Rattle.instruction.specs.declared.Operation.TheVariants.{Add, Sub, Mul, Div, Rem, And, Or, Xor, Shl, Shr, Ushr}
use Rattle.instruction.specs.declared.Unary.TheVariants.{Neg, Not}
use Rattle.instruction.specs.declared.Instruction.{Instruction}
use Rattle.instruction.specs.declared.Instruction.TheVariants.{Nop, Move, Const, Goto, If, IfZero, Binop, Unop, NewInstance, Iget, Iput, Sget, Sput, InvokeVirtual, InvokeStatic, MoveResult, MoveException, Return, ReturnVoid, Throw, InstanceOf, CheckCast}
use Rattle.instruction.specs.Word.{signed_of, condition_of, operation_of, unary_of, fields_of, instruction_of, word_of}

-- a word, its bytes o a b c and d set apart, and the instruction that it writes
pub record Row : Type 0 where
  pub word : ℕ
  pub instruction : Instruction

abbrev pub ◌writes◌ : ℕ → Instruction → Row
w writes i = record { word = w; instruction = i }

infix 70 ◌writes◌
abbrev pub table : List Row
table =
    0x00_00_00_00_00000000 writes Nop
    ∷ 0x01_03_04_00_00000000 writes (Move 3 4)
    ∷ 0x02_00_00_00_ffffffff writes (Const 0 (negsuc 0))
    ∷ 0x02_05_00_00_80000000 writes (Const 5 (negsuc 2147483647))
    ∷ 0x02_ff_00_00_7fffffff writes (Const 255 (pos 2147483647))
    ∷ 0x02_01_00_00_01020304 writes (Const 1 (pos 16909060))
    ∷ 0x03_00_00_00_0000001f writes (Goto 31)
    ∷ 0x04_01_02_00_00000007 writes (If Eq 1 2 7)
    ∷ 0x04_01_02_01_00000007 writes (If Ne 1 2 7)
    ∷ 0x04_01_02_02_00000007 writes (If Lt 1 2 7)
    ∷ 0x04_01_02_03_00000007 writes (If Ge 1 2 7)
    ∷ 0x04_01_02_04_00000007 writes (If Gt 1 2 7)
    ∷ 0x04_01_02_05_00000007 writes (If Le 1 2 7)
    ∷ 0x04_01_00_06_00000007 writes (IfZero Eq 1 7)
    ∷ 0x04_01_00_07_00000007 writes (IfZero Ne 1 7)
    ∷ 0x04_01_00_08_00000007 writes (IfZero Lt 1 7)
    ∷ 0x04_01_00_09_00000007 writes (IfZero Ge 1 7)
    ∷ 0x04_01_00_0a_00000007 writes (IfZero Gt 1 7)
    ∷ 0x04_01_00_0b_00000007 writes (IfZero Le 1 7)
    ∷ 0x05_01_02_03_00000000 writes (Binop Add 1 2 3)
    ∷ 0x05_01_02_03_00000001 writes (Binop Sub 1 2 3)
    ∷ 0x05_01_02_03_00000002 writes (Binop Mul 1 2 3)
    ∷ 0x05_01_02_03_00000003 writes (Binop Div 1 2 3)
    ∷ 0x05_01_02_03_00000004 writes (Binop Rem 1 2 3)
    ∷ 0x05_01_02_03_00000005 writes (Binop And 1 2 3)
    ∷ 0x05_01_02_03_00000006 writes (Binop Or 1 2 3)
    ∷ 0x05_01_02_03_00000007 writes (Binop Xor 1 2 3)
    ∷ 0x05_01_02_03_00000008 writes (Binop Shl 1 2 3)
    ∷ 0x05_01_02_03_00000009 writes (Binop Shr 1 2 3)
    ∷ 0x05_01_02_03_0000000a writes (Binop Ushr 1 2 3)
    ∷ 0x06_01_02_00_00000000 writes (Unop Neg 1 2)
    ∷ 0x06_01_02_01_00000000 writes (Unop Not 1 2)
    ∷ 0x07_01_02_00_00000000 writes (NewInstance 1 2)
    ∷ 0x08_01_02_03_00000000 writes (Iget 1 2 3)
    ∷ 0x09_01_02_03_00000000 writes (Iput 1 2 3)
    ∷ 0x0a_01_02_00_00000000 writes (Sget 1 2)
    ∷ 0x0b_01_02_00_00000000 writes (Sput 1 2)
    ∷ 0x0c_01_02_03_00000000 writes (InvokeVirtual 1 2 3)
    ∷ 0x0d_01_02_03_00000000 writes (InvokeStatic 1 2 3)
    ∷ 0x0e_01_00_00_00000000 writes (MoveResult 1)
    ∷ 0x0f_01_00_00_00000000 writes (MoveException 1)
    ∷ 0x10_01_00_00_00000000 writes (Return 1)
    ∷ 0x11_00_00_00_00000000 writes ReturnVoid
    ∷ 0x12_01_00_00_00000000 writes (Throw 1)
    ∷ 0x13_01_02_03_00000000 writes (InstanceOf 1 2 3)
    ∷ 0x14_01_02_00_00000000 writes (CheckCast 1 2)
    ∷ []

pub decoded : map (λ (r : Row). instruction_of r.word) table ≡ map (λ (r : Row). r.instruction) table
unfolding signed_of condition_of operation_of unary_of fields_of instruction_of
decoded = refl

pub encoded : map (λ (r : Row). word_of r.instruction) table ≡ map (λ (r : Row). r.word) table
encoded = refl

-- an unused field that is not 0, and the least condition, operation and opcode that are none
abbrev pub strange : List ℕ
strange =
    0x00_00_00_00_00000001
    ∷ 0x01_03_04_01_00000000
    ∷ 0x04_01_02_06_00000007
    ∷ 0x04_01_00_0c_00000007
    ∷ 0x05_01_02_03_0000000b
    ∷ 0x06_01_02_02_00000000
    ∷ 0x15_00_00_00_00000000
    ∷ []

abbrev pub some_again : List ℕ → Bool
some_again [] = false
some_again (w ∷ ws) = eqb (word_of (instruction_of w)) w || some_again ws

pub not_again : some_again strange ≡ false
unfolding signed_of condition_of operation_of unary_of fields_of instruction_of
not_again = refl
