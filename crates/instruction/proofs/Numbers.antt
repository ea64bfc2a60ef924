-- The numbers of conditions and operations are small. Assumes nothing.
use Prim.Native.Nat.{◌<◌}
use native.Mathlib.Omega.{arith}
use Rattle.instruction.specs.declared.Condition.{Condition}
use Rattle.instruction.specs.declared.Condition.TheVariants.{Eq, Ne, Lt, Ge, Gt, Le}
use Rattle.instruction.specs.declared.Operation.{Operation}
use Rattle.instruction.specs.declared.Operation.TheVariants.{Add, Sub, Mul, Div, Rem, And, Or, Xor, Shl, Shr, Ushr}
use Rattle.instruction.specs.declared.Unary.{Unary}
use Rattle.instruction.specs.declared.Unary.TheVariants.{Neg, Not}
use Rattle.instruction.specs.Word.{condition_number, operation_number, unary_number}

pub condition_small : (c : Condition) → condition_number c < 6
condition_small Eq = omega arith
condition_small Ne = omega arith
condition_small Lt = omega arith
condition_small Ge = omega arith
condition_small Gt = omega arith
condition_small Le = omega arith

pub operation_small : (o : Operation) → operation_number o < 11
operation_small Add = omega arith
operation_small Sub = omega arith
operation_small Mul = omega arith
operation_small Div = omega arith
operation_small Rem = omega arith
operation_small And = omega arith
operation_small Or = omega arith
operation_small Xor = omega arith
operation_small Shl = omega arith
operation_small Shr = omega arith
operation_small Ushr = omega arith

pub unary_small : (u : Unary) → unary_number u < 2
unary_small Neg = omega arith
unary_small Not = omega arith
