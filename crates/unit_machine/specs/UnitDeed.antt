-- What an instruction of units does at a frame, from the bits of its units u, v and w alone: one clause an opcode, and no instruction
-- frame in between. With document 01's machine it shares what an operation means. Definitions only.
use Rattle.std.specs.Prelude.{List, ℕ, ◌*◌, Option, Some, None}
use Rattle.program.specs.Program.{Program}
use Rattle.search.specs.Search.{virtual_callee}
use Rattle.machine.specs.declared.Value.{Value}
use Rattle.machine.specs.declared.Value.TheVariants.{Number, Reference}
use Rattle.machine.specs.declared.Fault.TheVariants.{NoMethod}
use Rattle.machine.specs.declared.Effect.{Effect}
use Rattle.machine.specs.declared.Effect.TheVariants.{Next, Jump, Write, LoadStatic, Make, StoreStatic, Exit, Fail}
use Rattle.machine.specs.State.{Frame, State, null, register, class_of}
use Rattle.machine.specs.Decide.{not_object, binop, unop, branch as branches, get_field, put_field, throw, instance_of, check_cast}
use Rattle.units.specs.declared.Branch.{Branch}
use Rattle.units.specs.declared.Branch.TheVariants.{Goto, Goto16, Goto32, If, IfZero}
use Rattle.units.specs.declared.Opcode.{Opcode}
use Rattle.units.specs.declared.Opcode.TheVariants.{NotTaken, Plain as plain, Branch as branch}
use Rattle.units.specs.declared.Plain.{Plain}
use Rattle.units.specs.declared.Plain.TheVariants.{Nop, Move, MoveFrom16, Move16, MoveResult, MoveException, ReturnVoid, Return}
use Rattle.units.specs.declared.Plain.TheVariants.{Const4, Const16, Const32, ConstHigh16, CheckCast, InstanceOf, NewInstance, Throw}
use Rattle.units.specs.declared.Plain.TheVariants.{Iget, Iput, Sget, Sput, InvokeVirtual, InvokeStatic, InvokeVirtualRange}
use Rattle.units.specs.declared.Plain.TheVariants.{InvokeStaticRange, Unop, Binop, BinopInPlace}
use Rattle.units.specs.Formats.{field_a_a, fieldA, fieldB, field_b_b, field_c_c, signed_by, wide_of, listed, ranged, target_of}
use Rattle.units.specs.Frames.{first_of}

-- an effect of document 01's machine, in which a jump goes to a unit place; or a call of a method, whose arguments stand one by one
-- in these registers of the caller
pub data Deed : Type 0 where
  does : Effect → Deed
  enters : (method : ℕ) → (from : List ℕ) → Deed

-- "Virtual calls look for name, argument count and kind 0 in the receiver's class, then upward"; "6 no method"
abbrev pub calling : Option ℕ → List ℕ → Deed
calling (Some m) rs = enters m rs
calling None rs = does (Fail NoMethod)

-- "Indexes are taken as my numbers, a virtual call's as the name": name n, count arguments in registers rs; the receiver v is an
-- object of class k
abbrev pub virtual_of : Program → ℕ → ℕ → ℕ → List ℕ → Value → Deed
virtual_of p k n count rs (Number z) = does (not_object z)
virtual_of p k n count rs (Reference o) = calling (virtual_callee p k n count) rs

-- the receiver is the first argument
abbrev pub virtual : Program → State → Frame → ℕ → ℕ → List ℕ → Deed
virtual p s f n count rs = virtual_of p (class_of s (register f (first_of rs))) n count rs (register f (first_of rs))

-- "Formats are those of Android's page"; "00 nop; 01 move a←b; 02 const a←d, signed", and so on: each clause says which bits of the
-- units are document 01's a, b and c
abbrev pub plain_deed : Program → State → Frame → Plain → ℕ → ℕ → ℕ → Deed
plain_deed p s f Nop u v w = does Next
plain_deed p s f Move u v w = does (Write (fieldA u) (register f (fieldB u)))
plain_deed p s f MoveFrom16 u v w = does (Write (field_a_a u) (register f v))
plain_deed p s f Move16 u v w = does (Write v (register f w))
-- "0e move-result a, 0f move-exception a: both copy the result, which stays"
plain_deed p s f MoveResult u v w = does (Write (field_a_a u) f.result)
plain_deed p s f MoveException u v w = does (Write (field_a_a u) f.result)
-- "10 return a; 11 return-void"; "its result becomes the value, or 0 after return-void"
plain_deed p s f ReturnVoid u v w = does (Exit null)
plain_deed p s f Return u v w = does (Exit (register f (field_a_a u)))
plain_deed p s f Const4 u v w = does (Write (fieldA u) (Number (signed_by 8 (fieldB u))))
plain_deed p s f Const16 u v w = does (Write (field_a_a u) (Number (signed_by 32768 v)))
plain_deed p s f Const32 u v w = does (Write (field_a_a u) (Number (signed_by 2147483648 (wide_of v w))))
plain_deed p s f ConstHigh16 u v w = does (Write (field_a_a u) (Number (signed_by 2147483648 (65536 * v))))
-- "12 throw a; 13 instance-of a←b, class c (1 if so, else 0); 14 check-cast a, class b"; "07 new-instance a of class b"
plain_deed p s f CheckCast u v w = does (check_cast p (class_of s (register f (field_a_a u))) (field_a_a u) v (register f (field_a_a u)))
plain_deed p s f InstanceOf u v w = does (instance_of p (class_of s (register f (fieldB u))) (fieldA u) v (register f (fieldB u)))
plain_deed p s f NewInstance u v w = does (Make (field_a_a u) v)
plain_deed p s f Throw u v w = does (throw p (class_of s (register f (field_a_a u))) (register f (field_a_a u)))
-- "08 iget a←field c of b; 09 iput field c of b←a; 0a sget a←static b; 0b sput static b←a"
plain_deed p s f Iget u v w = does (get_field p (class_of s (register f (fieldB u))) (fieldA u) v (register f (fieldB u)))
plain_deed p s f Iput u v w =
    does (put_field p (class_of s (register f (fieldB u))) v (register f (fieldA u)) (register f (fieldB u)))
plain_deed p s f Sget u v w = does (LoadStatic (field_a_a u) v)
plain_deed p s f Sput u v w = does (StoreStatic v (register f (field_a_a u)))
-- "0c invoke-virtual name a, b arguments"; "0d invoke-static method a"
plain_deed p s f InvokeVirtual u v w = virtual p s f v (fieldB u) (listed u w)
plain_deed p s f InvokeStatic u v w = enters v (listed u w)
plain_deed p s f InvokeVirtualRange u v w = virtual p s f v (field_a_a u) (ranged u w)
plain_deed p s f InvokeStaticRange u v w = enters v (ranged u w)
-- "05 binop a←b,c with d = 0 to 10"; "06 unop a←b, c = 0 neg, 1 not"
plain_deed p s f (Unop o) u v w = does (unop (fieldA u) o (register f (fieldB u)))
plain_deed p s f (Binop o) u v w = does (binop (field_a_a u) o (register f (field_b_b v)) (register f (field_c_c v)))
plain_deed p s f (BinopInPlace o) u v w = does (binop (fieldA u) o (register f (fieldA u)) (register f (fieldB u)))

-- "03 goto d; 04 if, target d, condition c: 0 to 5 are eq ne lt ge gt le of a, b; 6 to 11 the same of a and zero": a branch to
-- place `to`
abbrev pub branch_deed : Frame → ℕ → Branch → ℕ → Deed
branch_deed f to Goto u = does (Jump to)
branch_deed f to Goto16 u = does (Jump to)
branch_deed f to Goto32 u = does (Jump to)
branch_deed f to (If c) u = does (branches c (register f (fieldA u)) (register f (fieldB u)) to)
branch_deed f to (IfZero c) u = does (branches c (register f (field_a_a u)) null to)

-- the opcode at frame f's place, in a method that ends at `end`; no method that is translated has one that is not taken
abbrev pub deed : Program → State → Frame → ℕ → Opcode → ℕ → ℕ → ℕ → Deed
deed p s f end (plain o) u v w = plain_deed p s f o u v w
deed p s f end (branch b) u v w = branch_deed f (target_of end f.address b u v w) b u
deed p s f end NotTaken u v w = does Next
