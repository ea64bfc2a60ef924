-- What an instruction does at a frame: its operands are tested, and the effect is told. One clause an instruction. Definitions
-- only.
use Rattle.std.specs.Prelude.{Bool, false, ℕ, eqb, ℤ, pos, Option, Some, None}
use Rattle.instruction.specs.declared.Condition.{Condition}
use Rattle.instruction.specs.declared.Condition.TheVariants.{Eq, Ne, Lt, Ge, Gt, Le}
use Rattle.instruction.specs.declared.Operation.{Operation}
use Rattle.instruction.specs.declared.Unary.{Unary}
use Rattle.instruction.specs.declared.Instruction.{Instruction}
use Rattle.instruction.specs.declared.Instruction.TheVariants.{Nop, Move, Const, Goto, If, IfZero, Binop, Unop, NewInstance, Iget, Iput, Sget, Sput, InvokeVirtual, InvokeStatic, MoveResult, MoveException, Return, ReturnVoid, Throw, InstanceOf, CheckCast}
use Rattle.instruction.specs.Word.{pick}
use Rattle.arithmetic.specs.Arithmetic.{is_zero, computed, unary_value, in_order}
use Rattle.program.specs.Program.{Program, throwable_class, null_class, arithmetic_class, cast_class}
use Rattle.search.specs.Search.{below, has_field, virtual_callee}
use Rattle.machine.specs.declared.Value.{Value}
use Rattle.machine.specs.declared.Value.TheVariants.{Number, Reference}
use Rattle.machine.specs.declared.Fault.TheVariants.{NumberAsObject, ObjectAsNumber, FieldNotHad, NoMethod, NotThrowable}
use Rattle.machine.specs.declared.Effect.{Effect}
use Rattle.machine.specs.declared.Effect.TheVariants.{Next, Jump, Write, Load, LoadStatic, Make, Store, StoreStatic, Call, Exit}
use Rattle.machine.specs.declared.Effect.TheVariants.{Raise, RaiseNew, Fail}
use Rattle.machine.specs.State.{Frame, State, null, register, class_of}

-- what is no object and used as one: null raises class 2 ("Null is an exception here"), "2 other number as object"
abbrev pub not_object : ℤ → Effect
not_object z = pick (is_zero z) (RaiseNew null_class) (Fail NumberAsObject)

-- binop a: "3 object as number", "binop tests both for 3 before 4"; where fault 4 was, division by zero, class 3 is raised
abbrev pub computed_into : ℕ → Option ℤ → Effect
computed_into a (Some z) = Write a (Number z)
computed_into a None = RaiseNew arithmetic_class

abbrev pub binop : ℕ → Operation → Value → Value → Effect
binop a o (Number x) (Number y) = computed_into a (computed o x y)
binop a o (Number x) (Reference q) = Fail ObjectAsNumber
binop a o (Reference q) (Number y) = Fail ObjectAsNumber
binop a o (Reference q) (Reference r) = Fail ObjectAsNumber

abbrev pub unop : ℕ → Unary → Value → Effect
unop a o (Number x) = Write a (Number (unary_value o x))
unop a o (Reference q) = Fail ObjectAsNumber

-- "eq and ne take any values; an object equals only itself. Order conditions need numbers": two values that are not both
-- numbers, and whether they are equal
abbrev pub compared : Condition → Bool → ℕ → Effect
compared Eq same d = pick same (Jump d) Next
compared Ne same d = pick same Next (Jump d)
compared Lt same d = Fail ObjectAsNumber
compared Ge same d = Fail ObjectAsNumber
compared Gt same d = Fail ObjectAsNumber
compared Le same d = Fail ObjectAsNumber

abbrev pub branch : Condition → Value → Value → ℕ → Effect
branch c (Number x) (Number y) d = pick (in_order c x y) (Jump d) Next
branch c (Number x) (Reference r) d = compared c false d
branch c (Reference q) (Number y) d = compared c false d
branch c (Reference q) (Reference r) d = compared c (eqb q r) d

-- iget a←field x of v, an object of class k: "the object before its field", "5 field not had"
abbrev pub get_field : Program → ℕ → ℕ → ℕ → Value → Effect
get_field p k a x (Number z) = not_object z
get_field p k a x (Reference o) = pick (has_field p k x) (Load a o x) (Fail FieldNotHad)

-- iput field x of v, an object of class k, ←u
abbrev pub put_field : Program → ℕ → ℕ → Value → Value → Effect
put_field p k x u (Number z) = not_object z
put_field p k x u (Reference o) = pick (has_field p k x) (Store o x u) (Fail FieldNotHad)

-- a call, arguments in registers from c on: "6 no method"
abbrev pub call_of : Option ℕ → ℕ → Effect
call_of (Some m) c = Call m c
call_of None c = Fail NoMethod

-- invoke-virtual name n, b arguments from register c on; the receiver v is an object of class k
abbrev pub virtual_call : Program → ℕ → ℕ → ℕ → ℕ → Value → Effect
virtual_call p k n b c (Number z) = not_object z
virtual_call p k n b c (Reference o) = call_of (virtual_callee p k n b) c

-- throw v, an object of class k: "Class 1 is Throwable", "7 throw of no Throwable"
abbrev pub throw : Program → ℕ → Value → Effect
throw p k (Number z) = not_object z
throw p k (Reference o) = pick (below p k throwable_class) (Raise o) (Fail NotThrowable)

-- instance-of a←v, an object of class k, class c: "1 if so, else 0", "Null .. is an instance of nothing"
abbrev pub instance_of : Program → ℕ → ℕ → ℕ → Value → Effect
instance_of p k a c (Number z) = pick (is_zero z) (Write a null) (Fail NumberAsObject)
instance_of p k a c (Reference o) = Write a (pick (below p k c) (Number (pos 1)) null)

-- check-cast a, class c, of v, an object of class k: "Null passes a cast"; where fault 8 was, a failed cast, class 4 is raised
abbrev pub check_cast : Program → ℕ → ℕ → ℕ → Value → Effect
check_cast p k a c (Number z) = pick (is_zero z) (Write a (Number z)) (Fail NumberAsObject)
check_cast p k a c (Reference o) = pick (below p k c) (Write a (Reference o)) (RaiseNew cast_class)

abbrev pub decide : Program → State → Frame → Instruction → Effect
decide p s f Nop = Next
decide p s f (Move a b) = Write a (register f b)
decide p s f (Const a d) = Write a (Number d)
decide p s f (Goto d) = Jump d
decide p s f (If c a b d) = branch c (register f a) (register f b) d
decide p s f (IfZero c a d) = branch c (register f a) null d
decide p s f (Binop o a b c) = binop a o (register f b) (register f c)
decide p s f (Unop o a b) = unop a o (register f b)
decide p s f (NewInstance a b) = Make a b
decide p s f (Iget a b c) = get_field p (class_of s (register f b)) a c (register f b)
decide p s f (Iput a b c) = put_field p (class_of s (register f b)) c (register f a) (register f b)
decide p s f (Sget a b) = LoadStatic a b
decide p s f (Sput a b) = StoreStatic b (register f a)
decide p s f (InvokeVirtual a b c) = virtual_call p (class_of s (register f c)) a b c (register f c)
decide p s f (InvokeStatic a b c) = Call a c
-- "both copy the result, which stays"
decide p s f (MoveResult a) = Write a f.result
decide p s f (MoveException a) = Write a f.result
decide p s f (Return a) = Exit (register f a)
decide p s f ReturnVoid = Exit null
decide p s f (Throw a) = throw p (class_of s (register f a)) (register f a)
decide p s f (InstanceOf a b c) = instance_of p (class_of s (register f b)) a c (register f b)
decide p s f (CheckCast a b) = check_cast p (class_of s (register f a)) a b (register f a)
