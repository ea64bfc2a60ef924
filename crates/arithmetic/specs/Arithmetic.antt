-- The arithmetic of signed 32-bit numbers. Document 01 lets Android's page on Dalvik bytecode decide it; that page is not among
-- its papers and is not quoted here. The marked cases of document 01 hold by computation (crates/marked). Definitions only.
use Rattle.std.specs.Prelude.{Bool, true, false, not, ℕ, zero, suc, ◌*◌, ◌-◌, ◌/◌, ◌%◌, ◌^◌, eqb, ℤ, pos, negsuc, ◌+ℤ◌, ◌-ℤ◌, ◌*ℤ◌, Option, Some, None}
use Rattle.std.specs.Int.Bits.{bit_and, bit_or, bit_xor}
use Rattle.std.specs.Int.Signed.{lt_z, le_z, quot_z, rem_z, shr_z}
use Rattle.std.specs.Int.{w32}
use Rattle.std.proofs.Common.{to_z, of_z}
use Rattle.instruction.specs.Word.{pick}
use Rattle.instruction.specs.declared.Condition.{Condition}
use Rattle.instruction.specs.declared.Condition.TheVariants.{Eq, Ne, Lt, Ge, Gt, Le}
use Rattle.instruction.specs.declared.Operation.{Operation}
use Rattle.instruction.specs.declared.Operation.TheVariants.{Add, Sub, Mul, Div, Rem, And, Or, Xor, Shl, Shr, Ushr}
use Rattle.instruction.specs.declared.Unary.{Unary}
use Rattle.instruction.specs.declared.Unary.TheVariants.{Neg, Not}

-- the lowest 32 bits of an integer, as a number below 2 ^ 32
abbrev pub low : ℤ → ℕ
low (pos n) = n % 2 ^ 32
low (negsuc n) = 2 ^ 32 - suc (n % 2 ^ 32)

-- two's complement: the signed 32-bit number that is congruent to an integer modulo 2 ^ 32
unfoldable pub wrapped : ℤ → ℤ
wrapped z = to_z w32 (low z)

-- shifts use the low five bits of the count
abbrev pub shift_count : ℤ → ℕ
shift_count y = of_z w32 y % 32

-- whether a number is zero, as null is and a divisor may be
abbrev pub is_zero : ℤ → Bool
is_zero (pos zero) = true
is_zero (pos (suc n)) = false
is_zero (negsuc n) = false

-- whether two numbers are the same
abbrev pub same_number : ℤ → ℤ → Bool
same_number (pos a) (pos b) = eqb a b
same_number (pos a) (negsuc b) = false
same_number (negsuc a) (pos b) = false
same_number (negsuc a) (negsuc b) = eqb a b

-- "add sub mul div rem and or xor shl shr ushr" of document 01
unfoldable pub computed : Operation → ℤ → ℤ → Option ℤ
-- addition, subtraction and multiplication, wrapped
computed Add x y = Some (wrapped (x +ℤ y))
computed Sub x y = Some (wrapped (x -ℤ y))
computed Mul x y = Some (wrapped (x *ℤ y))
-- division rounds toward zero
computed Div x y = pick (is_zero y) None (Some (wrapped (quot_z x y)))
-- the remainder of that division: it has the sign of the first operand
computed Rem x y = pick (is_zero y) None (Some (wrapped (rem_z x y)))
-- bit by bit
computed And x y = Some (to_z w32 (bit_and (of_z w32 x) (of_z w32 y)))
computed Or x y = Some (to_z w32 (bit_or (of_z w32 x) (of_z w32 y)))
computed Xor x y = Some (to_z w32 (bit_xor (of_z w32 x) (of_z w32 y)))
-- left; right, filled with the sign; right, filled with zero
computed Shl x y = Some (to_z w32 (of_z w32 x * 2 ^ shift_count y % 2 ^ 32))
computed Shr x y = Some (shr_z x (2 ^ shift_count y))
computed Ushr x y = Some (to_z w32 (of_z w32 x / 2 ^ shift_count y))

-- the operations that divide: their second operand is a divisor
abbrev pub divides : Operation → Bool
divides Add = false
divides Sub = false
divides Mul = false
divides Div = true
divides Rem = true
divides And = false
divides Or = false
divides Xor = false
divides Shl = false
divides Shr = false
divides Ushr = false

-- "neg" and "not" of document 01
unfoldable pub unary_value : Unary → ℤ → ℤ
-- the negative, wrapped
unary_value Neg x = wrapped (pos 0 -ℤ x)
-- each bit turned
unary_value Not x = to_z w32 (2 ^ 32 - 1 - of_z w32 x)

-- "eq ne lt ge gt le of a, b" of document 01
unfoldable pub in_order : Condition → ℤ → ℤ → Bool
in_order Eq x y = same_number x y
in_order Ne x y = not (same_number x y)
in_order Lt x y = lt_z x y
in_order Ge x y = le_z y x
in_order Gt x y = lt_z y x
in_order Le x y = le_z x y
