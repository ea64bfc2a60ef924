-- What the functions over lent slices read and write. Nothing here needs to be believed to read a promise of the stepper.
-- Definitions only.
use Rattle.std.specs.Prelude.{List, [], ℕ, zero, suc, set}
use Rattle.cells.specs.declared.Value.{Value}
use Rattle.cells.specs.declared.Frame.{Frame}
use Rattle.cells.specs.declared.Object.{Object}
use Rattle.cells.specs.Cells.{zero_value}

-- what stands where there is no frame and no object: it has no register and no cell
abbrev pub absent_frame : Frame
absent_frame = record { method = 0; address = 0; registers = []; result = zero_value }

abbrev pub absent_object : Object
absent_object = record { class = 0; cells = [] }

-- a frame's parts, and the frame with another one
abbrev pub method_of : Frame → ℕ
method_of f = f.method

abbrev pub address_of : Frame → ℕ
address_of f = f.address

abbrev pub result_of : Frame → Value
result_of f = f.result

abbrev pub registers_of : Frame → List Value
registers_of f = f.registers

abbrev pub with_method : Frame → ℕ → Frame
with_method f m = record { method = m; address = f.address; registers = f.registers; result = f.result }

abbrev pub with_address : Frame → ℕ → Frame
with_address f a = record { method = f.method; address = a; registers = f.registers; result = f.result }

abbrev pub with_result : Frame → Value → Frame
with_result f v = record { method = f.method; address = f.address; registers = f.registers; result = v }

abbrev pub with_registers : Frame → List Value → Frame
with_registers f xs = record { method = f.method; address = f.address; registers = xs; result = f.result }

abbrev pub with_register : Frame → ℕ → Value → Frame
with_register f r v = with_registers f (set f.registers r v)

-- an object's
abbrev pub class_of : Object → ℕ
class_of o = o.class

abbrev pub cells_of : Object → List Value
cells_of o = o.cells

abbrev pub with_class : Object → ℕ → Object
with_class o k = record { class = k; cells = o.cells }

abbrev pub with_cells : Object → List Value → Object
with_cells o xs = record { class = o.class; cells = xs }

abbrev pub with_cell : Object → ℕ → Value → Object
with_cell o x v = with_cells o (set o.cells x v)

-- the first n elements are c
unfoldable pub filled : {A : Type 0} → ℕ → A → List A → List A
filled zero c ys = ys
filled (suc n) c ys = set (filled n c ys) n c
