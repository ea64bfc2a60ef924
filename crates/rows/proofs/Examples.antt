-- What is printed of words and of a small state, by computation. Bytes: 48 is '0', 97 'a', 64 '@', 32 the space, 10 the line end.
-- Assumes nothing.
use mathlib.Core.Path.{◌≡◌, refl}
use mathlib.Core.List.{List, [], ◌∷◌, ◌++◌}
use Prim.Native.Nat.{ℕ, ◌*◌}
use lib.IntN.{pos, negsuc}
use lib.ListN.{replicate}
use Rattle.page.specs.Digits.{digit_of}
use Rattle.program.specs.Program.{Method, Program}
use Rattle.machine.specs.declared.Value.{Value}
use Rattle.machine.specs.declared.Value.TheVariants.{Number, Reference}
use Rattle.machine.specs.State.{State, null, running}
use Rattle.memory.specs.Memory.{frame_word, object_word, frames_of, objects_of, statics_of}
use Rattle.rows.specs.State.{state_text}
use Rattle.rows.specs.Rows.{word_text, rows_text, frame_rows, state_rows}

-- ---- words

-- `00000000`
zero : word_text 0 ≡ 48 ∷ 48 ∷ 48 ∷ 48 ∷ 48 ∷ 48 ∷ 48 ∷ 48 ∷ []
unfolding word_text digit_of
zero = refl

-- `ffffffff`
minus_one : word_text 4294967295 ≡ 102 ∷ 102 ∷ 102 ∷ 102 ∷ 102 ∷ 102 ∷ 102 ∷ 102 ∷ []
unfolding word_text digit_of
minus_one = refl

-- `01234567`
eight_digits : word_text 19088743 ≡ 48 ∷ 49 ∷ 50 ∷ 51 ∷ 52 ∷ 53 ∷ 54 ∷ 55 ∷ []
unfolding word_text digit_of
eight_digits = refl

-- `@00`
first_object : word_text 4294967296 ≡ 64 ∷ 48 ∷ 48 ∷ []
unfolding word_text digit_of
first_object = refl

-- `@ff`
last_object : word_text 4294967551 ≡ 64 ∷ 102 ∷ 102 ∷ []
unfolding word_text digit_of
last_object = refl

-- ---- a state of two frames, one object and one static

-- two fields and a static; method 0 has one register, method 1 two
abbrev method : ℕ → Method
method registers = record { header = 256 * registers; code = []; handlers = [] }

abbrev program : Program
program = record { supers = 255 ∷ 0 ∷ []; fields = 0 ∷ 0 ∷ []; statics = 1; methods = method 1 ∷ method 2 ∷ [] }

-- method 1 was called by method 0, below it; the object refers to itself
abbrev state : State
state =
    record {
      frames =
          record { method = 1; address = 31; registers = Number (negsuc 0) ∷ Reference 0 ∷ []; result = null }
          ∷ record { method = 0; address = 5; registers = Number (pos 42) ∷ []; result = Reference 0 }
          ∷ [];
      objects = record { class = 10; cells = Reference 0 ∷ Number (negsuc 0) ∷ [] } ∷ [];
      statics = Number (pos 4660) ∷ [];
      status = running;
    }

-- `frame 00 05 @00 0000002a`
abbrev bottom : List ℕ
bottom =
    102 ∷ 114 ∷ 97 ∷ 109 ∷ 101
    ∷ 32 ∷ 48 ∷ 48
    ∷ 32 ∷ 48 ∷ 53
    ∷ 32 ∷ 64 ∷ 48 ∷ 48
    ∷ 32 ∷ 48 ∷ 48 ∷ 48 ∷ 48 ∷ 48 ∷ 48 ∷ 50 ∷ 97 ∷ 10 ∷ []

-- `frame 01 1f 00000000 ffffffff @00`
abbrev top : List ℕ
top =
    102 ∷ 114 ∷ 97 ∷ 109 ∷ 101
    ∷ 32 ∷ 48 ∷ 49
    ∷ 32 ∷ 49 ∷ 102
    ∷ 32 ∷ 48 ∷ 48 ∷ 48 ∷ 48 ∷ 48 ∷ 48 ∷ 48 ∷ 48
    ∷ 32 ∷ 102 ∷ 102 ∷ 102 ∷ 102 ∷ 102 ∷ 102 ∷ 102 ∷ 102
    ∷ 32 ∷ 64 ∷ 48 ∷ 48 ∷ 10 ∷ []

-- `object 0a @00 ffffffff`
abbrev made : List ℕ
made =
    111 ∷ 98 ∷ 106 ∷ 101 ∷ 99 ∷ 116
    ∷ 32 ∷ 48 ∷ 97
    ∷ 32 ∷ 64 ∷ 48 ∷ 48
    ∷ 32 ∷ 102 ∷ 102 ∷ 102 ∷ 102 ∷ 102 ∷ 102 ∷ 102 ∷ 102 ∷ 10 ∷ []

-- `static 00001234`
abbrev shared : List ℕ
shared =
    115 ∷ 116 ∷ 97 ∷ 116 ∷ 105 ∷ 99
    ∷ 32 ∷ 48 ∷ 48 ∷ 48 ∷ 48 ∷ 49 ∷ 50 ∷ 51 ∷ 52 ∷ 10 ∷ []

-- the bottom frame first
lines : state_text program state ≡ bottom ++ top ++ made ++ shared
unfolding state_text digit_of
lines = refl

-- the same from the words in which it lies, in memory of sevens
lines_from_words :
    state_rows program (frames_of state (replicate 40 7)) 2 (objects_of state (replicate 20 7)) 1 (statics_of state (replicate 2 7))
    ≡ bottom ++ top ++ made ++ shared
unfolding frames_of frame_word objects_of object_word statics_of frame_rows rows_text word_text digit_of
lines_from_words = refl

-- no frame, no object: the static alone
one_static : state_text program (record { frames = []; objects = []; statics = Number (pos 4660) ∷ []; status = running }) ≡ shared
unfolding state_text digit_of
one_static = refl

-- as many registers as the method has, whatever the frame holds: `frame 00 00 00000000 00000000`
abbrev idle : List ℕ
idle =
    102 ∷ 114 ∷ 97 ∷ 109 ∷ 101
    ∷ 32 ∷ 48 ∷ 48
    ∷ 32 ∷ 48 ∷ 48
    ∷ 32 ∷ 48 ∷ 48 ∷ 48 ∷ 48 ∷ 48 ∷ 48 ∷ 48 ∷ 48
    ∷ 32 ∷ 48 ∷ 48 ∷ 48 ∷ 48 ∷ 48 ∷ 48 ∷ 48 ∷ 48 ∷ 10 ∷ []

abbrev single : Program
single = record { supers = []; fields = []; statics = 0; methods = method 1 ∷ [] }

abbrev alone : List Value → State
alone registers =
    record {
      frames = record { method = 0; address = 0; registers = registers; result = null } ∷ [];
      objects = [];
      statics = [];
      status = running;
    }

no_register_held : state_text single (alone []) ≡ idle
unfolding state_text digit_of
no_register_held = refl

two_registers_held : state_text single (alone (null ∷ Reference 9 ∷ [])) ≡ idle
unfolding state_text digit_of
two_registers_held = refl
