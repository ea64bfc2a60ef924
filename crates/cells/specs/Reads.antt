-- What the functions over lent values read and write. Nothing here needs to be believed to read a promise of the stepper.
-- Definitions only.
use Rattle.std.specs.Prelude.{ℕ, zero, suc, ltb, pos}
use Rattle.instruction.specs.Word.{pick}
use Rattle.machine.specs.declared.Value as machine
use Rattle.machine.specs.declared.Value.TheVariants.{Number, Reference}
use Rattle.cells.specs.declared.Value.{Value}
use Rattle.cells.specs.Cells.{zero_value}

-- a reference to object o, to none where no 32 bits hold it
abbrev pub reference_of : ℕ → Value
reference_of o = pick (ltb o 4294967295) (record { object = suc o; number = pos 0 }) zero_value

abbrev pub cell_in : machine.Value → Value
cell_in (Number z) = record { object = 0; number = z }
cell_in (Reference o) = reference_of o

-- which object a value is; for a number one past every slice
abbrev pub place_by : ℕ → ℕ
place_by zero = 18446744073709551615
place_by (suc o) = o

abbrev pub object_place : Value → ℕ
object_place c = place_by c.object
