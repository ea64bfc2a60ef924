-- Values and a small state in lent slices, by computation. Assumes nothing.
use mathlib.Core.Path.{◌≡◌, refl}
use mathlib.Core.Bool.{false}
use mathlib.Core.List.{List, [], ◌∷◌, ◌++◌}
use lib.Dec.{eqb}
use lib.IntN.{pos, negsuc}
use lib.ListN.{get_or, replicate, length}
use Rattle.machine.specs.declared.Value.TheVariants.{Number, Reference}
use Rattle.machine.specs.State.{State, null, running}
use Rattle.cells.specs.declared.Value.{Value}
use Rattle.cells.specs.declared.Frame.{Frame}
use Rattle.cells.specs.declared.Object.{Object}
use Rattle.cells.specs.Cells.{cell_of, zero_value, zero_frame, zero_object, frames_of, objects_of, statics_of}

-- object 0 and number 0 differ
object_0_number_0 : eqb (cell_of (Reference 0)).object (cell_of (Number (pos 0))).object ≡ false
object_0_number_0 = refl

-- ---- a state of two frames, one object and two statics, in slices of other values
abbrev state : State
state =
    record {
      frames =
          record { method = 3; address = 5; registers = Number (negsuc 0) ∷ Reference 0 ∷ []; result = Number (pos 9) }
          ∷ record { method = 0; address = 2; registers = Number (pos 4) ∷ []; result = Reference 0 }
          ∷ [];
      objects = record { class = 6; cells = null ∷ Number (pos 8) ∷ [] } ∷ [];
      statics = Reference 0 ∷ Number (pos 1) ∷ [];
      status = running;
    }

abbrev other : Value
other = record { object = 7; number = pos 7 }

abbrev other_frame : Frame
other_frame = record { method = 7; address = 7; registers = replicate 16 other; result = other }

abbrev other_object : Object
other_object = record { class = 7; cells = replicate 16 other }

abbrev frames : List Frame
frames = frames_of state (replicate 34 other_frame)

abbrev objects : List Object
objects = objects_of state (replicate 258 other_object)

abbrev statics : List Value
statics = statics_of state (replicate 18 other)

-- the bottom frame comes first; registers that a method has not are zero
bottom :
    get_or frames 0 other_frame
    ≡ record {
      method = 0;
      address = 2;
      registers = record { object = 0; number = pos 4 } ∷ replicate 15 zero_value;
      result = record { object = 1; number = pos 0 };
    }
unfolding frames_of
bottom = refl

top :
    get_or frames 1 other_frame
    ≡ record {
      method = 3;
      address = 5;
      registers = record { object = 0; number = negsuc 0 } ∷ record { object = 1; number = pos 0 } ∷ replicate 14 zero_value;
      result = record { object = 0; number = pos 9 };
    }
unfolding frames_of
top = refl

-- "unused frames, objects, cells, statics and registers are zero; memory beyond these sizes is untouched"
unused_frame : get_or frames 31 other_frame ≡ zero_frame
unfolding frames_of
unused_frame = refl

beyond_frames : get_or frames 32 zero_frame ≡ other_frame
unfolding frames_of
beyond_frames = refl

as_many_frames : length frames ≡ 34
unfolding frames_of
as_many_frames = refl

one_object : get_or objects 0 other_object ≡ record { class = 6; cells = zero_value ∷ record { object = 0; number = pos 8 } ∷ replicate 14 zero_value }
unfolding objects_of
one_object = refl

unused_object : get_or objects 255 other_object ≡ zero_object
unfolding objects_of
unused_object = refl

beyond_objects : get_or objects 256 zero_object ≡ other_object
unfolding objects_of
beyond_objects = refl

two_statics : statics ≡ record { object = 1; number = pos 0 } ∷ record { object = 0; number = pos 1 } ∷ (replicate 14 zero_value ++ replicate 2 other)
unfolding statics_of
two_statics = refl
