-- What `step` leaves in the frames, objects and statics that are lent to it. Definitions only.
use Rattle.std.specs.Prelude.{Bool, ◌&&◌, List, ℕ, leb, length}
use Rattle.reader.specs.Read.{read_program}
use Rattle.cells.specs.declared.Value.{Value}
use Rattle.cells.specs.declared.Frame.{Frame}
use Rattle.cells.specs.declared.Object.{Object}
use Rattle.cells.specs.Cells.{frames_of, objects_of, statics_of}
use Rattle.bounded.specs.Step.{Stepping, turned_down, short, ran, stepping_by}

-- "23: fewer than 32 frames, 256 objects of 16 cells or 16 statics lent to the stepper"
abbrev pub enough : ℕ → ℕ → ℕ → Bool
enough frames objects statics = leb 32 frames && (leb 256 objects && leb 16 statics)

-- what becomes of a text, n, and so many frames, objects and statics lent
unfoldable pub lending : List ℕ → ℕ → List Frame → List Object → List Value → Stepping
lending text n frames objects statics =
    stepping_by (read_program text) n (enough (length frames) (length objects) (length statics))

-- the lent slices after it: untouched where a text is refused or too few are lent, else the state
abbrev pub frames_left : Stepping → List Frame → List Frame
frames_left (turned_down number line) before = before
frames_left short before = before
frames_left (ran x) before = frames_of x.state before

abbrev pub objects_left : Stepping → List Object → List Object
objects_left (turned_down number line) before = before
objects_left short before = before
objects_left (ran x) before = objects_of x.state before

abbrev pub statics_left : Stepping → List Value → List Value
statics_left (turned_down number line) before = before
statics_left short before = before
statics_left (ran x) before = statics_of x.state before
