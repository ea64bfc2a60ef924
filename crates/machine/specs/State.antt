-- The machine's state: values, call frames, objects, statics, and how far the run has come. Definitions only.
use Rattle.std.specs.Prelude.{List, [], ◌∷◌, ℕ, pos, get_or, replicate}
use Rattle.program.specs.Program.{Program, registers}
use Rattle.machine.specs.declared.Value.{Value}
use Rattle.machine.specs.declared.Value.TheVariants.{Number, Reference}
use Rattle.machine.specs.declared.Fault.{Fault}
use Rattle.machine.specs.declared.Fault.TheVariants.{NumberAsObject, ObjectAsNumber, FieldNotHad, NoMethod, NotThrowable}

-- "null is number 0"
abbrev pub null : Value
null = Number (pos 0)

-- "A call frame has method, address, registers, result"
pub record Frame : Type 0 where
  pub method : ℕ
  pub address : ℕ
  pub registers : List Value
  pub result : Value

-- an object: its class, and a cell for each field of the program; field f lies in cell f
pub record Object : Type 0 where
  pub class : ℕ
  pub cells : List Value

-- how far the run has come: it goes on, an object is pending, or one of the ends
pub data Status : Type 0 where
  running : Status
  raised : (object : ℕ) → Status
  -- "Ends: done (last frame returns), uncaught (last frame dropped), or fault"
  done : Status
  uncaught : (object : ℕ) → Status
  failed : Fault → Status

-- the open frames, the top one first; the objects in order of making; the statics
pub record State : Type 0 where
  pub frames : List Frame
  pub objects : List Object
  pub statics : List Value
  pub status : Status

-- "2 other number as object, 3 object as number", "5 field not had, 6 no method, 7 throw of no Throwable"; "faults 1, 4 and 8
-- cease"
abbrev pub fault_number : Fault → ℕ
fault_number NumberAsObject = 2
fault_number ObjectAsNumber = 3
fault_number FieldNotHad = 5
fault_number NoMethod = 6
fault_number NotThrowable = 7

-- what stands where there is no frame, and no object: no class has number 64
abbrev pub no_frame : Frame
no_frame = record { method = 0; address = 0; registers = []; result = null }

abbrev pub no_object : Object
no_object = record { class = 64; cells = [] }

abbrev pub register : Frame → ℕ → Value
register f r = get_or f.registers r null

abbrev pub object_at : State → ℕ → Object
object_at s o = get_or s.objects o no_object

abbrev pub cell : State → ℕ → ℕ → Value
cell s o x = get_or (object_at s o).cells x null

abbrev pub static : State → ℕ → Value
static s x = get_or s.statics x null

-- the class of a value that is an object
abbrev pub class_of : State → Value → ℕ
class_of s (Number z) = 64
class_of s (Reference o) = (object_at s o).class

-- the top frame
abbrev pub top : List Frame → Frame
top [] = no_frame
top (f ∷ rest) = f

-- "It starts with one frame, of method 0 at address 0, with no object and nothing pending", "Fields and statics start at 0"
abbrev pub start : Program → State
start p =
    record {
      frames = record { method = 0; address = 0; registers = replicate (registers p 0) null; result = null } ∷ [];
      objects = [];
      statics = replicate p.statics null;
      status = running;
    }
