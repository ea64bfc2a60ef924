-- The instruction frame of each opcode, and what refusal 27 asks of its units. Definitions only.
use Rattle.std.specs.Prelude.{ℕ, ◌+◌, ◌*◌, ◌/◌, ◌%◌, List, eqb, ltb, leb, length, get_or}
use Rattle.instruction.specs.declared.Instruction.{Instruction}
use Rattle.instruction.specs.declared.Instruction.TheVariants as Frame
use Rattle.instruction.specs.Test.{Test, always, under, most, same, ◌&◌, given, never}
use Rattle.units.specs.declared.Branch.{Branch}
use Rattle.units.specs.declared.Branch.TheVariants.{Goto, Goto16, Goto32, If, IfZero}
use Rattle.units.specs.declared.Opcode.{Opcode}
use Rattle.units.specs.declared.Opcode.TheVariants.{NotTaken, Plain as plain, Branch as branch}
use Rattle.units.specs.declared.Plain.{Plain}
use Rattle.units.specs.declared.Plain.TheVariants.{Nop, Move, MoveFrom16, Move16, MoveResult, MoveException, ReturnVoid, Return}
use Rattle.units.specs.declared.Plain.TheVariants.{Const4, Const16, Const32, ConstHigh16, CheckCast, InstanceOf, NewInstance, Throw}
use Rattle.units.specs.declared.Plain.TheVariants.{Iget, Iput, Sget, Sput, InvokeVirtual, InvokeStatic, InvokeVirtualRange}
use Rattle.units.specs.declared.Plain.TheVariants.{InvokeStaticRange, Unop, Binop, BinopInPlace}
use Rattle.units.specs.Units.{unit_at, starts_of, address_in}
use Rattle.units.specs.Formats.{opcode_at, field_a_a, fieldA, fieldB, field_b_b, field_c_c, signed_by, wide_of, listed, ranged, target_of}

-- the first register of a call; "with none, c is 0"
abbrev pub first_of : List ℕ → ℕ
first_of rs = get_or rs 0 0

-- "Indexes are taken as my numbers, a virtual call's as the name"
abbrev pub plain_frame : Plain → ℕ → ℕ → ℕ → Instruction
plain_frame Nop u v w = Frame.Nop
plain_frame Move u v w = Frame.Move (fieldA u) (fieldB u)
plain_frame MoveFrom16 u v w = Frame.Move (field_a_a u) v
plain_frame Move16 u v w = Frame.Move v w
plain_frame MoveResult u v w = Frame.MoveResult (field_a_a u)
plain_frame MoveException u v w = Frame.MoveException (field_a_a u)
plain_frame ReturnVoid u v w = Frame.ReturnVoid
plain_frame Return u v w = Frame.Return (field_a_a u)
plain_frame Const4 u v w = Frame.Const (fieldA u) (signed_by 8 (fieldB u))
plain_frame Const16 u v w = Frame.Const (field_a_a u) (signed_by 32768 v)
plain_frame Const32 u v w = Frame.Const (field_a_a u) (signed_by 2147483648 (wide_of v w))
plain_frame ConstHigh16 u v w = Frame.Const (field_a_a u) (signed_by 2147483648 (65536 * v))
plain_frame CheckCast u v w = Frame.CheckCast (field_a_a u) v
plain_frame InstanceOf u v w = Frame.InstanceOf (fieldA u) (fieldB u) v
plain_frame NewInstance u v w = Frame.NewInstance (field_a_a u) v
plain_frame Throw u v w = Frame.Throw (field_a_a u)
plain_frame Iget u v w = Frame.Iget (fieldA u) (fieldB u) v
plain_frame Iput u v w = Frame.Iput (fieldA u) (fieldB u) v
plain_frame Sget u v w = Frame.Sget (field_a_a u) v
plain_frame Sput u v w = Frame.Sput (field_a_a u) v
plain_frame InvokeVirtual u v w = Frame.InvokeVirtual v (fieldB u) (first_of (listed u w))
plain_frame InvokeStatic u v w = Frame.InvokeStatic v (fieldB u) (first_of (listed u w))
plain_frame InvokeVirtualRange u v w = Frame.InvokeVirtual v (field_a_a u) (first_of (ranged u w))
plain_frame InvokeStaticRange u v w = Frame.InvokeStatic v (field_a_a u) (first_of (ranged u w))
plain_frame (Unop o) u v w = Frame.Unop o (fieldA u) (fieldB u)
plain_frame (Binop o) u v w = Frame.Binop o (field_a_a u) (field_b_b v) (field_c_c v)
plain_frame (BinopInPlace o) u v w = Frame.Binop o (fieldA u) (fieldA u) (fieldB u)

-- "Branch offsets in units become addresses": the target has address `to`
abbrev pub branch_frame : ℕ → Branch → ℕ → Instruction
branch_frame to Goto u = Frame.Goto to
branch_frame to Goto16 u = Frame.Goto to
branch_frame to Goto32 u = Frame.Goto to
branch_frame to (If c) u = Frame.If c (fieldA u) (fieldB u) to
branch_frame to (IfZero c) u = Frame.IfZero c (field_a_a u) to

-- "a value fits no frame field"
abbrev pub fits : ℕ → Test
fits x = under x 256

-- nibble j of five, with n arguments of which the first stands in register c: "Call arguments must be consecutive and rising", "an
-- unused .. nibble not 0"
abbrev pub in_row : ℕ → ℕ → ℕ → ℕ → Test
in_row n c j x = given (ltb j n) (same x (c + j)) & given (leb n j) (same x 0)

-- "arguments not so or over five outside a range"
abbrev pub five_fine : ℕ → ℕ → Test
five_fine u w =
    most (fieldB u) 5
    & in_row (fieldB u) (w % 16) 0 (w % 16)
    & in_row (fieldB u) (w % 16) 1 (w / 16 % 16)
    & in_row (fieldB u) (w % 16) 2 (w / 256 % 16)
    & in_row (fieldB u) (w % 16) 3 (w / 4096 % 16)
    & in_row (fieldB u) (w % 16) 4 (fieldA u)

-- "(a range's CCCC unread)" with none
abbrev pub range_fine : ℕ → ℕ → Test
range_fine u w = given (ltb 0 (field_a_a u)) (fits w)

-- "an unused byte or nibble not 0, a value fits no frame field"
abbrev pub plain_fine : Plain → ℕ → ℕ → ℕ → Test
plain_fine Nop u v w = same (field_a_a u) 0
plain_fine Move u v w = always
plain_fine MoveFrom16 u v w = fits v
plain_fine Move16 u v w = same (field_a_a u) 0 & fits v & fits w
plain_fine MoveResult u v w = always
plain_fine MoveException u v w = always
plain_fine ReturnVoid u v w = same (field_a_a u) 0
plain_fine Return u v w = always
plain_fine Const4 u v w = always
plain_fine Const16 u v w = always
plain_fine Const32 u v w = always
plain_fine ConstHigh16 u v w = always
plain_fine CheckCast u v w = fits v
plain_fine InstanceOf u v w = fits v
plain_fine NewInstance u v w = fits v
plain_fine Throw u v w = always
plain_fine Iget u v w = fits v
plain_fine Iput u v w = fits v
plain_fine Sget u v w = fits v
plain_fine Sput u v w = fits v
plain_fine InvokeVirtual u v w = fits v & five_fine u w
plain_fine InvokeStatic u v w = fits v & five_fine u w
plain_fine InvokeVirtualRange u v w = fits v & range_fine u w
plain_fine InvokeStaticRange u v w = fits v & range_fine u w
plain_fine (Unop o) u v w = always
plain_fine (Binop o) u v w = always
plain_fine (BinopInPlace o) u v w = always

-- "offset 0 outside 2a, .. an unused byte .. not 0"; `there` asks for the target
abbrev pub branch_fine : Test → Branch → ℕ → ℕ → Test
branch_fine there Goto u v = never (eqb (field_a_a u) 0) & there
branch_fine there Goto16 u v = same (field_a_a u) 0 & never (eqb v 0) & there
branch_fine there Goto32 u v = same (field_a_a u) 0 & there
branch_fine there (If c) u v = never (eqb v 0) & there
branch_fine there (IfZero c) u v = never (eqb v 0) & there

-- "target is no start"; its address goes into the four bytes of its field
abbrev pub reached : List ℕ → ℕ → Test
reached us place = under (address_in us place) (length (starts_of us)) & under (address_in us place) 4294967296

-- the frame of the opcode at a place with the units u, v and w, and what 27 asks of it; no frame is made of an opcode that is not taken
abbrev pub framed : List ℕ → ℕ → Opcode → ℕ → ℕ → ℕ → Instruction
framed us at (plain o) u v w = plain_frame o u v w
framed us at (branch b) u v w = branch_frame (address_in us (target_of (length us) at b u v w)) b u
framed us at NotTaken u v w = Frame.Nop

abbrev pub fine : List ℕ → ℕ → Opcode → ℕ → ℕ → ℕ → Test
fine us at (plain o) u v w = plain_fine o u v w
fine us at (branch b) u v w = branch_fine (reached us (target_of (length us) at b u v w)) b u v
fine us at NotTaken u v w = always

-- the same of the opcode and the units that stand there
abbrev pub frame_at : List ℕ → ℕ → Instruction
frame_at us at = framed us at (opcode_at us at) (unit_at us at) (unit_at us (at + 1)) (unit_at us (at + 2))

abbrev pub fine_at : List ℕ → ℕ → Test
fine_at us at = fine us at (opcode_at us at) (unit_at us at) (unit_at us (at + 1)) (unit_at us (at + 2))
