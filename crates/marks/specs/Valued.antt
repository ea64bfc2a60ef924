-- What holds of a program without a marked line. Definitions only.
use Rattle.std.specs.Prelude.{ℕ, ◌<◌}
use Rattle.instruction.specs.Test.{Holds}
use Rattle.program.specs.Program.{Program, class_count, field_count, method_count, code_length, handler_count}
use Rattle.values.specs.Values.{class_test, field_test, method_test, instruction_test, last_test, handler_test}

pub record Valued (p : Program) : Type 0 where
  pub classes : (c : ℕ) → c < class_count p → Holds (class_test p c)
  pub fields : (f : ℕ) → f < field_count p → Holds (field_test p f)
  pub methods : (m : ℕ) → m < method_count p → Holds (method_test p m)
  pub code : (m pc : ℕ) → m < method_count p → pc < code_length p m → Holds (instruction_test p m pc)
  pub last : (m pc : ℕ) → m < method_count p → pc < code_length p m → Holds (last_test p m pc)
  pub handlers : (m h : ℕ) → m < method_count p → h < handler_count p m → Holds (handler_test p m h)
