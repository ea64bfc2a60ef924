-- What the tests of the code say of the definitions: a number that is null, an operand that is an object. Assumes nothing.
use mathlib.Core.Path.{◌≡◌, refl}
use mathlib.Core.Bool.{Bool, true, false, not}
use Prim.Native.Nat.{ℕ, zero, suc, ◌<◌, ◌^◌}
use native.Mathlib.Omega.{arith}
use lib.IntN.{ℤ, pos, negsuc}
use lib.Signed.{mag}
use mir.Syntax.{w32}
use mir.Val.{to_z, of_z}
use mir.ValLaws.{to_z-of_z}
use Rattle.instruction.specs.Word.{pick}
use Rattle.instruction.specs.declared.Operation.{Operation}
use Rattle.arithmetic.specs.Arithmetic.{is_zero}
use Rattle.machine.specs.declared.Value.{Value}
use Rattle.machine.specs.declared.Value.TheVariants.{Number, Reference}
use Rattle.machine.specs.declared.Fault.TheVariants.{ObjectAsNumber}
use Rattle.machine.specs.declared.Effect.{Effect}
use Rattle.machine.specs.declared.Effect.TheVariants.{Fail}
use Rattle.machine.specs.Decide.{binop}

-- a number, stored and read back
pub stored : (z : ℤ) → mag z < 2 ^ 31 → to_z w32 (of_z w32 z) ≡ z
stored z f = to_z-of_z w32 z (record { sfits = f })

-- the code compares bits
pub is_null : (z : ℤ) → mag z < 2 ^ 31 → of_z w32 z ≡ 0 → is_zero z ≡ true
is_null (pos zero) f e = refl
is_null (pos (suc n)) f e = absurd (omega arith)
is_null (negsuc n) f e = absurd (omega arith)

pub not_null : (z : ℤ) → (of_z w32 z ≡ 0 → ⊥) → is_zero z ≡ false
not_null (pos zero) e = absurd (e refl)
not_null (pos (suc n)) e = refl
not_null (negsuc n) e = refl

-- an effect that a test leads to, and the one that it does not
pub passed : (b : Bool) (x y : Effect) → b ≡ true → x ≡ pick b x y
passed b x y e = rw e

pub failed : (b : Bool) (x y : Effect) → b ≡ false → y ≡ pick b x y
failed b x y e = rw e

pub pick_not : (b : Bool) (x y : Effect) → pick (not b) x y ≡ pick b y x
pick_not true x y = refl
pick_not false x y = refl

-- an object on the left is no number, whatever stands on the right
pub left_object : (a : ℕ) (o : Operation) (q : ℕ) (v : Value) → Fail ObjectAsNumber ≡ binop a o (Reference q) v
left_object a o q (Number y) = refl
left_object a o q (Reference r) = refl
