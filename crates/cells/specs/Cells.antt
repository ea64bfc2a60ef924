-- How a state lies in the frames, objects and statics that the caller lends. Left free by document 01. Definitions only.
-- "unused frames, objects, cells, statics and registers are zero; memory beyond these sizes is untouched"
use Rattle.std.specs.Prelude.{List, [], ◌∷◌, ℕ, zero, suc, eqb, ltb, ℤ, pos, length, get_or, replicate}
use Rattle.instruction.specs.Word.{pick}
use Rattle.program.specs.Lists.{tab}
use Rattle.machine.specs.declared.Value as machine
use Rattle.machine.specs.declared.Value.TheVariants.{Number, Reference}
use Rattle.machine.specs.State as state
use Rattle.machine.specs.State.{State, null, no_frame, register, object_at, static}
use Rattle.cells.specs.declared.Value.{Value}
use Rattle.cells.specs.declared.Frame.{Frame}
use Rattle.cells.specs.declared.Object.{Object}

-- a number is itself, an object one more than its number, so that object 0 and number 0 differ
abbrev pub cell_of : machine.Value → Value
cell_of (Number z) = record { object = 0; number = z }
cell_of (Reference o) = record { object = suc o; number = pos 0 }

-- the value that is lent so
abbrev pub value_by : ℕ → ℤ → machine.Value
value_by zero z = Number z
value_by (suc o) z = Reference o

abbrev pub value_of : Value → machine.Value
value_of c = value_by c.object c.number

-- all zero
abbrev pub zero_value : Value
zero_value = record { object = 0; number = pos 0 }

abbrev pub zero_frame : Frame
zero_frame = record { method = 0; address = 0; registers = replicate 16 zero_value; result = zero_value }

abbrev pub zero_object : Object
zero_object = record { class = 0; cells = replicate 16 zero_value }

-- a frame and an object, with 16 registers and 16 cells
abbrev pub frame_of : state.Frame → Frame
frame_of f =
    record {
      method = f.method;
      address = f.address;
      registers = tab 16 (λ r. cell_of (register f r));
      result = cell_of f.result;
    }

abbrev pub object_of : state.Object → Object
object_of o = record { class = o.class; cells = tab 16 (λ x. cell_of (get_or o.cells x null)) }

-- frame i of a state, the bottom one is frame 0; object i, or zero where there is none; static i
abbrev pub frame_at : List state.Frame → ℕ → state.Frame
frame_at [] i = no_frame
frame_at (f ∷ rest) i = pick (eqb i (length rest)) f (frame_at rest i)

abbrev pub object_in : State → ℕ → Object
object_in s i = pick (ltb i (length s.objects)) (object_of (object_at s i)) zero_object

-- slices with a state in them, of which they held what was before
unfoldable pub frames_of : State → List Frame → List Frame
frames_of s before = tab (length before) (λ i. pick (ltb i 32) (frame_of (frame_at s.frames i)) (get_or before i zero_frame))

unfoldable pub objects_of : State → List Object → List Object
objects_of s before = tab (length before) (λ i. pick (ltb i 256) (object_in s i) (get_or before i zero_object))

unfoldable pub statics_of : State → List Value → List Value
statics_of s before = tab (length before) (λ i. pick (ltb i 16) (cell_of (static s i)) (get_or before i zero_value))
