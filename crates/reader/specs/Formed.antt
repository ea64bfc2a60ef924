-- What holds of every program that the reader takes. Definitions only.
use Rattle.std.specs.Prelude.{◌≡◌, false, ℕ, ◌-◌, ◌≤◌, ◌<◌}
use Rattle.instruction.specs.Test.{Holds}
use Rattle.instruction.specs.Word.{word_of, falls_through}
use Rattle.operands.specs.Names.{named}
use Rattle.program.specs.Program.{Program, throwable_class, null_class, cast_class, class_count, field_count, method_count, superclass}
use Rattle.program.specs.Program.{field_class, method_class, method_name, method_kind, registers, arguments, code_length, word_at}
use Rattle.program.specs.Program.{instruction_at, handler_count, handler_from, handler_to, handler_target, handler_class}
use Rattle.program.specs.Tables.{Limited}
use Rattle.values.specs.Values.{limits_of, call_test}

-- what holds of method m
pub record FormedMethod (p : Program) (m : ℕ) : Type 0 where
  pub class : method_class p m < class_count p
  pub kind : method_kind p m < 2
  -- 1 to 16 registers, arguments at most registers, at least 1 if virtual
  pub registers_from : 1 ≤ registers p m
  pub registers_to : registers p m ≤ 16
  pub arguments_to : arguments p m ≤ registers p m
  pub receiver : method_kind p m ≡ 0 → 1 ≤ arguments p m
  -- 1 to 32 instructions, 0 to 8 handlers
  pub code_from : 1 ≤ code_length p m
  pub code_to : code_length p m ≤ 32
  pub handlers_to : handler_count p m ≤ 8
  -- each instruction has its own word; what it names exists; a static call fits its method
  pub words : (pc : ℕ) → pc < code_length p m → word_of (instruction_at p m pc) ≡ word_at p m pc
  pub names : (pc : ℕ) → pc < code_length p m → Holds (named (limits_of p m) (instruction_at p m pc))
  pub calls : (pc : ℕ) → pc < code_length p m → Holds (call_test p (instruction_at p m pc))
  -- the last instruction does not fall through
  pub last : falls_through (instruction_at p m (code_length p m - 1)) ≡ false
  -- f < t ≤ length, g < length, the class exists
  pub covers : (h : ℕ) → h < handler_count p m → handler_from p m h < handler_to p m h
  pub within : (h : ℕ) → h < handler_count p m → handler_to p m h ≤ code_length p m
  pub target : (h : ℕ) → h < handler_count p m → handler_target p m h < code_length p m
  pub caught : (h : ℕ) → h < handler_count p m → handler_class p m h < class_count p

pub record Formed (p : Program) : Type 0 where
  -- 5 to 60 classes, 0 to 16 fields and statics, 1 to 16 methods
  pub classes_from : 5 ≤ class_count p
  pub methods_from : 1 ≤ method_count p
  pub limited : Limited p
  -- superclass numbers fall; class 0 has none
  pub top : superclass p 0 ≡ 255
  pub supers : (c : ℕ) → c < class_count p → 1 ≤ c → superclass p c < c
  -- classes 2, 3 and 4 are directly below class 1
  pub built_in : (c : ℕ) → null_class ≤ c → c ≤ cast_class → superclass p c ≡ throwable_class
  -- a field's class exists
  pub fields : (f : ℕ) → f < field_count p → field_class p f < class_count p
  pub methods : (m : ℕ) → m < method_count p → FormedMethod p m
  -- method 0 is static, without arguments
  pub main_static : method_kind p 0 ≡ 1
  pub main_arguments : arguments p 0 ≡ 0
  -- no two methods share class and name
  pub alone : (m k : ℕ) → m < method_count p → k < method_count p → method_class p k ≡ method_class p m
      → method_name p k ≡ method_name p m → k ≡ m
