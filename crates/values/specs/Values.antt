-- Field values: refusal 5, "a field value not allowed above", and refusal 6, "last instruction falls through". Definitions
-- only.
use Rattle.std.specs.Prelude.{Bool, true, false, ◌&&◌, ℕ, ◌+◌, eqb, leb, Option, Some, None}
use Rattle.operands.specs.declared.Limits.{Limits}
use Rattle.instruction.specs.declared.Instruction.{Instruction}
use Rattle.instruction.specs.declared.Instruction.TheVariants.{Nop, Move, Const, Goto, If, IfZero, Binop, Unop, NewInstance, Iget, Iput, Sget, Sput, InvokeVirtual, InvokeStatic, MoveResult, MoveException, Return, ReturnVoid, Throw, InstanceOf, CheckCast}
use Rattle.instruction.specs.Test.{Test, always, under, most, same, ◌&◌, given, never, passes}
use Rattle.instruction.specs.Word.{pick, word_of, falls_through}
use Rattle.operands.specs.Names.{named}
use Rattle.program.specs.Lists.{first}
use Rattle.program.specs.Program.{Program, throwable_class, null_class, cast_class, class_count, field_count, method_count, superclass}
use Rattle.program.specs.Program.{field_class, method_class, method_name, method_kind, registers, arguments, code_length, word_at}
use Rattle.program.specs.Program.{instruction_at, handler_from, handler_to, handler_target, handler_class}

-- the classes that the machine itself makes objects of: null, arithmetic and cast
abbrev pub built_in : ℕ → Bool
built_in c = leb null_class c && leb c cast_class

-- "Class 0 has s = ff. Any other class has a superclass number lower than its own"; "Classes 2, 3 and 4, each directly below 1"
abbrev pub super_test : ℕ → ℕ → Test
super_test c s = pick (eqb c 0) (same s 255) (under s c & given (built_in c) (same s throwable_class))

abbrev pub class_test : Program → ℕ → Test
class_test p c = super_test c (superclass p c)

-- "instance field of class c": the class exists
abbrev pub field_test : Program → ℕ → Test
field_test p f = under (field_class p f) (class_count p)

-- "method: class, name, kind (0 virtual, 1 static), r registers (1 to 16), a arguments (at most r; at least 1 if virtual)",
-- "Method 0 is static, without arguments"
abbrev pub header_test : ℕ → ℕ → ℕ → ℕ → ℕ → ℕ → Test
header_test classes m class kind r a =
    under class classes
    & under kind 2
    & under 0 r
    & most r 16
    & most a r
    & given (eqb kind 0) (under 0 a)
    & given (eqb m 0) (same kind 1 & same a 0)

-- methods k and m share class and name
unfoldable pub alike : Program → ℕ → ℕ → Bool
alike p m k = eqb (method_class p k) (method_class p m) && eqb (method_name p k) (method_name p m)

abbrev pub some? : Option ℕ → Bool
some? None = false
some? (Some k) = true

-- "No two share class and name", "class and name repeated: the later line"
unfoldable pub repeated : Program → ℕ → Bool
repeated p m = some? (first m (alike p m))

abbrev pub method_test : Program → ℕ → Test
method_test p m =
    header_test (class_count p) m (method_class p m) (method_kind p m) (registers p m) (arguments p m)
    & never (repeated p m)

-- what an instruction of method m can name
abbrev pub limits_of : Program → ℕ → Limits
limits_of p m =
    record {
      registers = registers p m;
      length = code_length p m;
      classes = class_count p;
      fields = field_count p;
      statics = p.statics;
      methods = method_count p;
    }

-- "invoke-static method a (kind 1), likewise, b equal to its argument count (c = 0 if b = 0)", by the method's own line
abbrev pub static_test : ℕ → ℕ → ℕ → ℕ → Test
static_test kind arguments b c = same kind 1 & same arguments b & given (eqb b 0) (same c 0)

abbrev pub call_test : Program → Instruction → Test
call_test p Nop = always
call_test p (Move a b) = always
call_test p (Const a d) = always
call_test p (Goto d) = always
call_test p (If c a b d) = always
call_test p (IfZero c a d) = always
call_test p (Binop d a b c) = always
call_test p (Unop c a b) = always
call_test p (NewInstance a b) = always
call_test p (Iget a b c) = always
call_test p (Iput a b c) = always
call_test p (Sget a b) = always
call_test p (Sput a b) = always
call_test p (InvokeVirtual a b c) = always
call_test p (InvokeStatic a b c) = static_test (method_kind p a) (arguments p a) b c
call_test p (MoveResult a) = always
call_test p (MoveException a) = always
call_test p (Return a) = always
call_test p ReturnVoid = always
call_test p (Throw a) = always
call_test p (InstanceOf a b c) = always
call_test p (CheckCast a b) = always

-- an instruction's word is that of its instruction, so that opcode, condition and operation are known and "unused fields 0";
-- what it names exists
abbrev pub instruction_test : Program → ℕ → ℕ → Test
instruction_test p m pc =
    same (word_of (instruction_at p m pc)) (word_at p m pc)
    & named (limits_of p m) (instruction_at p m pc)
    & call_test p (instruction_at p m pc)

-- "The last instruction is 03, 10, 11 or 12"
abbrev pub last_test : Program → ℕ → ℕ → Test
last_test p m pc = never (eqb (pc + 1) (code_length p m) && falls_through (instruction_at p m pc))

-- "f < t ≤ length", g and c exist
abbrev pub range_test : ℕ → ℕ → ℕ → ℕ → ℕ → ℕ → Test
range_test length classes f t g c = under f t & most t length & under g length & under c classes

abbrev pub handler_test : Program → ℕ → ℕ → Test
handler_test p m h =
    range_test (code_length p m) (class_count p) (handler_from p m h) (handler_to p m h) (handler_target p m h)
    (handler_class p m h)

-- the mark of a line: its refusal, or 0
unfoldable pub value_mark : Test → ℕ
value_mark test = pick (passes test) 0 5

unfoldable pub instruction_mark : Program → ℕ → ℕ → ℕ
instruction_mark p m pc =
    pick (passes (instruction_test p m pc)) (pick (passes (last_test p m pc)) 0 6) 5
