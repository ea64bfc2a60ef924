-- What is printed of a state: a line for each open frame, object and static. Definitions only.
use Rattle.std.specs.Prelude.{List, [], ◌∷◌, ◌++◌, ℕ, length, get_or}
use Rattle.page.specs.Digits.{two, eight}
use Rattle.program.specs.Lists.{joined}
use Rattle.program.specs.Program.{Program, field_count, registers}
use Rattle.arithmetic.specs.Arithmetic.{low}
use Rattle.machine.specs.declared.Value.{Value}
use Rattle.machine.specs.declared.Value.TheVariants.{Number, Reference}
use Rattle.machine.specs.State.{Frame, Object, State, null, register, object_at, static}
use Rattle.memory.specs.Memory.{frame_at}

-- eight digits for a number, its 32 bits, `@` with two digits for an object
abbrev pub value_text : Value → List ℕ
value_text (Number z) = eight (low z)
value_text (Reference o) = 64 ∷ two o

-- the first values of some, a space before each
abbrev pub values_text : ℕ → (ℕ → Value) → List ℕ
values_text count v = joined count (λ i. 32 ∷ value_text (v i))

-- `frame`, `object`, `static`
abbrev pub frame_name : List ℕ
frame_name = 102 ∷ 114 ∷ 97 ∷ 109 ∷ 101 ∷ []

abbrev pub object_name : List ℕ
object_name = 111 ∷ 98 ∷ 106 ∷ 101 ∷ 99 ∷ 116 ∷ []

abbrev pub static_name : List ℕ
static_name = 115 ∷ 116 ∷ 97 ∷ 116 ∷ 105 ∷ 99 ∷ []

-- `frame MM AA RESULT R0 R1 ..`: a frame's method, address and result, and its method's registers
abbrev pub frame_text : Program → Frame → List ℕ
frame_text p f =
    frame_name
    ++ 32 ∷ two f.method
    ++ 32 ∷ two f.address
    ++ 32 ∷ value_text f.result
    ++ values_text (registers p f.method) (register f)
    ++ 10 ∷ []

-- `object CC V0 V1 ..`: an object's class, and a cell for each field of the program
abbrev pub object_text : Program → Object → List ℕ
object_text p o = object_name ++ 32 ∷ two o.class ++ values_text (field_count p) (λ x. get_or o.cells x null) ++ 10 ∷ []

-- `static V`
abbrev pub static_text : Value → List ℕ
static_text v = static_name ++ 32 ∷ value_text v ++ 10 ∷ []

-- each open frame, the bottom one first; each object, in order of making; each static
unfoldable pub state_text : Program → State → List ℕ
state_text p s =
    joined (length s.frames) (λ i. frame_text p (frame_at s.frames i))
    ++ joined (length s.objects) (λ i. object_text p (object_at s i))
    ++ joined p.statics (λ i. static_text (static s i))
