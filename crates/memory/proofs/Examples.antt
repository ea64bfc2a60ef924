-- The words of values and of a small state, by computation. Assumes nothing.
use mathlib.Core.Path.{◌≡◌, refl}
use mathlib.Core.Bool.{false}
use mathlib.Core.List.{[], ◌∷◌}
use lib.Dec.{eqb}
use lib.IntN.{pos, negsuc}
use lib.ListN.{get_or, replicate}
use Rattle.machine.specs.declared.Value.TheVariants.{Number, Reference}
use Rattle.machine.specs.State.{State, null, running}
use Rattle.memory.specs.Memory.{value_word, value_in, frame_word, object_word, frames_of, objects_of, statics_of}

-- ---- values

zero_back : value_in (value_word (Number (pos 0))) ≡ Number (pos 0)
unfolding value_in
zero_back = refl

minus_one_back : value_in (value_word (Number (negsuc 0))) ≡ Number (negsuc 0)
unfolding value_in
minus_one_back = refl

least_back : value_in (value_word (Number (negsuc 2147483647))) ≡ Number (negsuc 2147483647)
unfolding value_in
least_back = refl

greatest_back : value_in (value_word (Number (pos 2147483647))) ≡ Number (pos 2147483647)
unfolding value_in
greatest_back = refl

first_object_back : value_in (value_word (Reference 0)) ≡ Reference 0
unfolding value_in
first_object_back = refl

last_object_back : value_in (value_word (Reference 255)) ≡ Reference 255
unfolding value_in
last_object_back = refl

minus_one_word : value_word (Number (negsuc 0)) ≡ 4294967295
minus_one_word = refl

-- object 0 and number 0 differ
object_0_number_0 : eqb (value_word (Reference 0)) (value_word (Number (pos 0))) ≡ false
object_0_number_0 = refl

-- ---- a state of two frames, one object and two statics, in memory of sevens

abbrev state : State
state =
    record {
      frames =
          record { method = 3; address = 5; registers = Number (negsuc 0) ∷ Reference 0 ∷ []; result = Number (pos 9) }
          ∷ record { method = 0; address = 2; registers = Number (pos 4) ∷ []; result = Reference 0 }
          ∷ [];
      objects = record { class = 6; cells = null ∷ Number (pos 8) ∷ [] } ∷ [];
      statics = Reference 0 ∷ Number (pos 1) ∷ [];
      status = running;
    }

-- the bottom frame comes first
two_frames :
    frames_of state (replicate 40 7)
    ≡ 0 ∷ 2 ∷ 4294967296 ∷ 4 ∷ 0 ∷ 0 ∷ 0 ∷ 0 ∷ 0 ∷ 0 ∷ 0 ∷ 0 ∷ 0 ∷ 0 ∷ 0 ∷ 0 ∷ 0 ∷ 0 ∷ 0
    ∷ 3 ∷ 5 ∷ 9 ∷ 4294967295 ∷ 4294967296 ∷ 0 ∷ 0 ∷ 0 ∷ 0 ∷ 0 ∷ 0 ∷ 0 ∷ 0 ∷ 0 ∷ 0 ∷ 0 ∷ 0 ∷ 0 ∷ 0
    ∷ 0 ∷ 0 ∷ []
unfolding frames_of frame_word
two_frames = refl

one_object : objects_of state (replicate 20 7) ≡ 6 ∷ 0 ∷ 8 ∷ replicate 17 0
unfolding objects_of object_word
one_object = refl

-- "memory beyond these sizes is untouched"
two_statics : statics_of state (replicate 18 7) ≡ 4294967296 ∷ 1 ∷ 0 ∷ 0 ∷ 0 ∷ 0 ∷ 0 ∷ 0 ∷ 0 ∷ 0 ∷ 0 ∷ 0 ∷ 0 ∷ 0 ∷ 0 ∷ 0 ∷ 7 ∷ 7 ∷ []
unfolding statics_of
two_statics = refl

beyond_frames : get_or (frames_of state (replicate 610 7)) 608 0 ≡ 7
unfolding frames_of frame_word
beyond_frames = refl
