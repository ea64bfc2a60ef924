-- The opcodes that are taken, and the fields of their formats, as Android's page "Dalvik executable instruction format" letters
-- them: u, v and w are an instruction's first, second and third unit. Definitions only.
use Rattle.std.specs.Prelude.{Bool, ◌&&◌, List, [], ◌∷◌, ℕ, ◌+◌, ◌*◌, ◌-◌, ◌/◌, ◌%◌, ltb, leb, eqb, ℤ, take}
use Rattle.std.specs.Int.{w32}
use Rattle.std.proofs.Common.{to_z}
use Rattle.instruction.specs.declared.Unary.TheVariants.{Neg, Not}
use Rattle.instruction.specs.Word.{pick, condition_of, operation_of}
use Rattle.program.specs.Lists.{tab}
use Rattle.units.specs.Units.{unit_at}
use Rattle.units.specs.declared.Branch.{Branch}
use Rattle.units.specs.declared.Branch.TheVariants.{Goto, Goto16, Goto32, If, IfZero}
use Rattle.units.specs.declared.Opcode.{Opcode}
use Rattle.units.specs.declared.Opcode.TheVariants.{NotTaken, Plain as plain, Branch as branch}
use Rattle.units.specs.declared.Plain.TheVariants.{Nop, Move, MoveFrom16, Move16, MoveResult, MoveException, ReturnVoid, Return}
use Rattle.units.specs.declared.Plain.TheVariants.{Const4, Const16, Const32, ConstHigh16, CheckCast, InstanceOf, NewInstance, Throw}
use Rattle.units.specs.declared.Plain.TheVariants.{Iget, Iput, Sget, Sput, InvokeVirtual, InvokeStatic, InvokeVirtualRange}
use Rattle.units.specs.declared.Plain.TheVariants.{InvokeStaticRange, Unop, Binop, BinopInPlace}

abbrev pub within : ℕ → ℕ → ℕ → Bool
within n from to = leb from n && ltb n to

-- "Taken, in hexadecimal: 00-03, 07-09, 0a, 0c-0f, 11-15, 1f, 20, 22, 27-2a, 32-3d, 52, 54, 59, 5b, 60, 62, 67, 69, 6e, 71, 74,
-- 77, 7b, 7c, 90-9a, b0-ba"
unfoldable pub opcode_of : ℕ → Opcode
opcode_of n =
    pick (within n 0x32 0x38) (branch (If (condition_of (n - 0x32))))
    (pick (within n 0x38 0x3e) (branch (IfZero (condition_of (n - 0x38))))
    (pick (within n 0x90 0x9b) (plain (Binop (operation_of (n - 0x90))))
    (pick (within n 0xb0 0xbb) (plain (BinopInPlace (operation_of (n - 0xb0))))
    (pick (eqb n 0x00) (plain Nop)
    (pick (eqb n 0x01) (plain Move)
    (pick (eqb n 0x02) (plain MoveFrom16)
    (pick (eqb n 0x03) (plain Move16)
    (pick (eqb n 0x07) (plain Move)
    (pick (eqb n 0x08) (plain MoveFrom16)
    (pick (eqb n 0x09) (plain Move16)
    (pick (eqb n 0x0a) (plain MoveResult)
    (pick (eqb n 0x0c) (plain MoveResult)
    (pick (eqb n 0x0d) (plain MoveException)
    (pick (eqb n 0x0e) (plain ReturnVoid)
    (pick (eqb n 0x0f) (plain Return)
    (pick (eqb n 0x11) (plain Return)
    (pick (eqb n 0x12) (plain Const4)
    (pick (eqb n 0x13) (plain Const16)
    (pick (eqb n 0x14) (plain Const32)
    (pick (eqb n 0x15) (plain ConstHigh16)
    (pick (eqb n 0x1f) (plain CheckCast)
    (pick (eqb n 0x20) (plain InstanceOf)
    (pick (eqb n 0x22) (plain NewInstance)
    (pick (eqb n 0x27) (plain Throw)
    (pick (eqb n 0x28) (branch Goto)
    (pick (eqb n 0x29) (branch Goto16)
    (pick (eqb n 0x2a) (branch Goto32)
    (pick (eqb n 0x52) (plain Iget)
    (pick (eqb n 0x54) (plain Iget)
    (pick (eqb n 0x59) (plain Iput)
    (pick (eqb n 0x5b) (plain Iput)
    (pick (eqb n 0x60) (plain Sget)
    (pick (eqb n 0x62) (plain Sget)
    (pick (eqb n 0x67) (plain Sput)
    (pick (eqb n 0x69) (plain Sput)
    (pick (eqb n 0x6e) (plain InvokeVirtual)
    (pick (eqb n 0x71) (plain InvokeStatic)
    (pick (eqb n 0x74) (plain InvokeVirtualRange)
    (pick (eqb n 0x77) (plain InvokeStaticRange)
    (pick (eqb n 0x7b) (plain (Unop Neg))
    (pick (eqb n 0x7c) (plain (Unop Not)) NotTaken)))))))))))))))))))))))))))))))))))))))))

-- the opcode at a place
abbrev pub opcode_at : List ℕ → ℕ → Opcode
opcode_at us at = opcode_of (unit_at us at % 256)

-- the first unit's high byte, as one field AA or as two fields B|A
abbrev pub field_a_a : ℕ → ℕ
field_a_a u = u / 256 % 256

abbrev pub fieldA : ℕ → ℕ
fieldA u = u / 256 % 16

abbrev pub fieldB : ℕ → ℕ
fieldB u = u / 4096 % 16

-- the second unit's two bytes, CC|BB
abbrev pub field_b_b : ℕ → ℕ
field_b_b v = v % 256

abbrev pub field_c_c : ℕ → ℕ
field_c_c v = v / 256

-- a field of 2 h values, of which the upper half are negative, as a signed number of 32 bits
unfoldable pub signed_by : ℕ → ℕ → ℤ
signed_by h x = to_z w32 (pick (ltb x h) x (x + (4294967296 - 2 * h)))

-- two units as one field, the low one first
abbrev pub wide_of : ℕ → ℕ → ℕ
wide_of v w = v + 65536 * w

-- the five registers of format 35c, `A|G|op BBBB F|E|D|C`, in the order C D E F G
abbrev pub five_of : ℕ → ℕ → List ℕ
five_of u w = w % 16 ∷ w / 16 % 16 ∷ w / 256 % 16 ∷ w / 4096 % 16 ∷ fieldA u ∷ []

-- the registers of a call's arguments: A of the five of format 35c; AA from CCCC on, of format 3rc
abbrev pub listed : ℕ → ℕ → List ℕ
listed u w = take (fieldB u) (five_of u w)

abbrev pub ranged : ℕ → ℕ → List ℕ
ranged u w = tab (field_a_a u) (λ j. w + j)

-- a branch's offset: AA of format 10t, the second unit of 20t, 21t and 22t, the second and the third of 30t
abbrev pub offset_of : Branch → ℕ → ℕ → ℕ → ℕ
offset_of Goto u v w = field_a_a u
offset_of Goto16 u v w = v
offset_of Goto32 u v w = wide_of v w
offset_of (If c) u v w = v
offset_of (IfZero c) u v w = v

-- half of how many values it can have
abbrev pub half_of : Branch → ℕ
half_of Goto = 128
half_of Goto16 = 32768
half_of Goto32 = 2147483648
half_of (If c) = 32768
half_of (IfZero c) = 32768

-- where an offset of 2 h values, the upper half negative, leads from a place; a place before the first is none, and stands for the end
unfoldable pub landing : ℕ → ℕ → ℕ → ℕ → ℕ
landing end at h x = pick (ltb x h) (at + x) (pick (ltb (at + x) (2 * h)) end (at + x - 2 * h))

-- "Branch offsets in units": the place that a branch at a place leads to, in a method that ends at `end`
abbrev pub target_of : ℕ → ℕ → Branch → ℕ → ℕ → ℕ → ℕ
target_of end at b u v w = landing end at (half_of b) (offset_of b u v w)
