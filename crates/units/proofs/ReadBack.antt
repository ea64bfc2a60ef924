-- An instruction whose numbers fit their fields is the one that its word says, and its word is below 2 to the 64th. Assumes nothing.
use mathlib.Core.Path.{◌≡◌, refl, ap, ◌∙◌}
use Prim.Native.Nat.{ℕ, ◌+◌, ◌*◌, ◌/◌, ◌%◌, ◌<◌, ◌^◌}
use native.Mathlib.Omega.{arith}
use lib.IntN.{ℤ}
use mir.Syntax.{w32}
use mir.Val.{SFits, to_z, of_z}
use mir.ValLaws.{to_z-of_z, of_z_fits}
use Rattle.instruction.specs.declared.Condition.{Condition}
use Rattle.instruction.specs.declared.Condition.TheVariants.{Eq, Ne, Lt, Ge, Gt, Le}
use Rattle.instruction.specs.declared.Operation.{Operation}
use Rattle.instruction.specs.declared.Operation.TheVariants.{Add, Sub, Mul, Div, Rem, And, Or, Xor, Shl, Shr, Ushr}
use Rattle.instruction.specs.declared.Unary.{Unary}
use Rattle.instruction.specs.declared.Unary.TheVariants.{Neg, Not}
use Rattle.instruction.specs.declared.Instruction.{Instruction}
use Rattle.instruction.specs.declared.Instruction.TheVariants.{Nop, Move, Const, Goto, If, IfZero, Binop, Unop, NewInstance, Iget}
use Rattle.instruction.specs.declared.Instruction.TheVariants.{Iput, Sget, Sput, InvokeVirtual, InvokeStatic, MoveResult}
use Rattle.instruction.specs.declared.Instruction.TheVariants.{MoveException, Return, ReturnVoid, Throw, InstanceOf, CheckCast}
use Rattle.instruction.specs.Word.{signed_of, condition_of, condition_number, operation_of, operation_number, unary_of, unary_number}
use Rattle.instruction.specs.Word.{fields_of, instruction_of, packed, word_of}
use Rattle.instruction.proofs.Numbers.{condition_small, operation_small, unary_small}

-- each number of an instruction fits its field: a byte, or four for a target and a constant
abbrev pub Small : Instruction → Type 0
Small Nop = Unit {0}
Small (Move a b) = (a < 256) × (b < 256)
Small (Const a z) = (a < 256) × SFits w32 z
Small (Goto d) = d < 4294967296
Small (If c a b d) = (a < 256) × (b < 256) × (d < 4294967296)
Small (IfZero c a d) = (a < 256) × (d < 4294967296)
Small (Binop o a b c) = (a < 256) × (b < 256) × (c < 256)
Small (Unop o a b) = (a < 256) × (b < 256)
Small (NewInstance a b) = (a < 256) × (b < 256)
Small (Iget a b c) = (a < 256) × (b < 256) × (c < 256)
Small (Iput a b c) = (a < 256) × (b < 256) × (c < 256)
Small (Sget a b) = (a < 256) × (b < 256)
Small (Sput a b) = (a < 256) × (b < 256)
Small (InvokeVirtual a b c) = (a < 256) × (b < 256) × (c < 256)
Small (InvokeStatic a b c) = (a < 256) × (b < 256) × (c < 256)
Small (MoveResult a) = a < 256
Small (MoveException a) = a < 256
Small (Return a) = a < 256
Small ReturnVoid = Unit {0}
Small (Throw a) = a < 256
Small (InstanceOf a b c) = (a < 256) × (b < 256) × (c < 256)
Small (CheckCast a b) = (a < 256) × (b < 256)

-- four bytes, the high one first
two_bytes : (w : ℕ) → w / 16777216 % 256 * 256 + w / 65536 % 256 ≡ w / 65536 % 65536
two_bytes w = omega arith

three_bytes : (w : ℕ) → w / 65536 % 65536 * 256 + w / 256 % 256 ≡ w / 256 % 16777216
three_bytes w = omega arith

four_bytes : (w : ℕ) → w / 256 % 16777216 * 256 + w % 256 ≡ w % 4294967296
four_bytes w = omega arith

bytes : (w : ℕ) → ((w / 16777216 % 256 * 256 + w / 65536 % 256) * 256 + w / 256 % 256) * 256 + w % 256 ≡ w % 4294967296
bytes w = rw (two_bytes w, three_bytes w) (four_bytes w)

-- ---- a word has the fields that it was packed of
unpacked : (o a b c d : ℕ) → o < 256 → a < 256 → b < 256 → c < 256 → d < 4294967296
    → instruction_of (packed o a b c d) ≡ fields_of o a b c d (to_z w32 d)
unfolding instruction_of signed_of
unpacked o a b c d ho ha hb hc hd =
    let w : ℕ = packed o a b c d in
    let e : w / 72057594037927936 ≡ o = omega arith in
    let f : w / 281474976710656 % 256 ≡ a = omega arith in
    let g : w / 1099511627776 % 256 ≡ b = omega arith in
    let h : w / 4294967296 % 256 ≡ c = omega arith in
    let i : w % 4294967296 ≡ d = omega arith in
    rw (e, f, g, h, i, bytes w, i)

-- ---- conditions and operations are read back
condition_back : (c : Condition) → condition_of (condition_number c) ≡ c
unfolding condition_of
condition_back Eq = refl
condition_back Ne = refl
condition_back Lt = refl
condition_back Ge = refl
condition_back Gt = refl
condition_back Le = refl

operation_back : (o : Operation) → operation_of (operation_number o) ≡ o
unfolding operation_of
operation_back Add = refl
operation_back Sub = refl
operation_back Mul = refl
operation_back Div = refl
operation_back Rem = refl
operation_back And = refl
operation_back Or = refl
operation_back Xor = refl
operation_back Shl = refl
operation_back Shr = refl
operation_back Ushr = refl

unary_back : (o : Unary) → unary_of (unary_number o) ≡ o
unfolding unary_of
unary_back Neg = refl
unary_back Not = refl

-- a condition of two registers, and of one and zero
if_back : (c : Condition) (a b d : ℕ) (z : ℤ) → fields_of 4 a b (condition_number c) d z ≡ If c a b d
unfolding fields_of condition_of
if_back Eq a b d z = refl
if_back Ne a b d z = refl
if_back Lt a b d z = refl
if_back Ge a b d z = refl
if_back Gt a b d z = refl
if_back Le a b d z = refl

if_zero_back : (c : Condition) (a d : ℕ) (z : ℤ) → fields_of 4 a 0 (6 + condition_number c) d z ≡ IfZero c a d
unfolding fields_of condition_of
if_zero_back Eq a d z = refl
if_zero_back Ne a d z = refl
if_zero_back Lt a d z = refl
if_zero_back Ge a d z = refl
if_zero_back Gt a d z = refl
if_zero_back Le a d z = refl

-- ---- a word that says instruction i
abbrev Says : ℕ → Instruction → Type 0
Says w i = (instruction_of w ≡ i) × (w < 2 ^ 64)

packed_says : (o a b c d : ℕ) → o < 256 → a < 256 → b < 256 → c < 256 → d < 4294967296
    → (i : Instruction) → fields_of o a b c d (to_z w32 d) ≡ i → Says (packed o a b c d) i
packed_says o a b c d ho ha hb hc hd i e = (unpacked o a b c d ho ha hb hc hd ∙ e, omega arith)

word_says : (i : Instruction) → Small i → Says (word_of i) i
unfolding fields_of
word_says Nop h = packed_says 0 0 0 0 0 (omega arith) (omega arith) (omega arith) (omega arith) (omega arith) Nop refl
word_says (Move a b) h = packed_says 1 a b 0 0 (omega arith) h.0 h.1 (omega arith) (omega arith) (Move a b) refl
word_says (Const a z) h =
    packed_says 2 a 0 0 (of_z w32 z) (omega arith) h.0 (omega arith) (omega arith) (of_z_fits w32 z h.1).fits (Const a z)
    (ap (Const a) (to_z-of_z w32 z h.1))
word_says (Goto d) h = packed_says 3 0 0 0 d (omega arith) (omega arith) (omega arith) (omega arith) h (Goto d) refl
word_says (If c a b d) h =
    packed_says 4 a b (condition_number c) d (omega arith) h.0 h.1 (omega (arith, condition_small c)) h.2 (If c a b d)
    (if_back c a b d (to_z w32 d))
word_says (IfZero c a d) h =
    packed_says 4 a 0 (6 + condition_number c) d (omega arith) h.0 (omega arith) (omega (arith, condition_small c)) h.1 (IfZero c a d)
    (if_zero_back c a d (to_z w32 d))
word_says (Binop o a b c) h =
    packed_says 5 a b c (operation_number o) (omega arith) h.0 h.1 h.2 (omega (arith, operation_small o)) (Binop o a b c)
    (ap (λ (x : Operation). Binop x a b c) (operation_back o))
word_says (Unop o a b) h =
    packed_says 6 a b (unary_number o) 0 (omega arith) h.0 h.1 (omega (arith, unary_small o)) (omega arith) (Unop o a b)
    (ap (λ (x : Unary). Unop x a b) (unary_back o))
word_says (NewInstance a b) h =
    packed_says 7 a b 0 0 (omega arith) h.0 h.1 (omega arith) (omega arith) (NewInstance a b)
    refl
word_says (Iget a b c) h = packed_says 8 a b c 0 (omega arith) h.0 h.1 h.2 (omega arith) (Iget a b c) refl
word_says (Iput a b c) h = packed_says 9 a b c 0 (omega arith) h.0 h.1 h.2 (omega arith) (Iput a b c) refl
word_says (Sget a b) h = packed_says 10 a b 0 0 (omega arith) h.0 h.1 (omega arith) (omega arith) (Sget a b) refl
word_says (Sput a b) h = packed_says 11 a b 0 0 (omega arith) h.0 h.1 (omega arith) (omega arith) (Sput a b) refl
word_says (InvokeVirtual a b c) h =
    packed_says 12 a b c 0 (omega arith) h.0 h.1 h.2 (omega arith) (InvokeVirtual a b c)
    refl
word_says (InvokeStatic a b c) h =
    packed_says 13 a b c 0 (omega arith) h.0 h.1 h.2 (omega arith) (InvokeStatic a b c)
    refl
word_says (MoveResult a) h =
    packed_says 14 a 0 0 0 (omega arith) h (omega arith) (omega arith) (omega arith) (MoveResult a)
    refl
word_says (MoveException a) h =
    packed_says 15 a 0 0 0 (omega arith) h (omega arith) (omega arith) (omega arith) (MoveException a)
    refl
word_says (Return a) h = packed_says 16 a 0 0 0 (omega arith) h (omega arith) (omega arith) (omega arith) (Return a) refl
word_says ReturnVoid h =
    packed_says 17 0 0 0 0 (omega arith) (omega arith) (omega arith) (omega arith) (omega arith) ReturnVoid
    refl
word_says (Throw a) h = packed_says 18 a 0 0 0 (omega arith) h (omega arith) (omega arith) (omega arith) (Throw a) refl
word_says (InstanceOf a b c) h = packed_says 19 a b c 0 (omega arith) h.0 h.1 h.2 (omega arith) (InstanceOf a b c) refl
word_says (CheckCast a b) h =
    packed_says 20 a b 0 0 (omega arith) h.0 h.1 (omega arith) (omega arith) (CheckCast a b)
    refl

pub read_back : (i : Instruction) → Small i → instruction_of (word_of i) ≡ i
read_back i h = (word_says i h).0

pub word_below : (i : Instruction) → Small i → word_of i < 2 ^ 64
word_below i h = (word_says i h).1
