-- Lent frames, objects and statics as words, written one after another into lent words. Nothing here needs to be believed to read
-- a promise of the stepper. Definitions only.
use Rattle.std.specs.Prelude.{List, ℕ, zero, suc, ◌+◌, ◌-◌, ◌/◌, ◌%◌, eqb, get_or, set}
use Rattle.instruction.specs.Word.{pick}
use Rattle.memory.specs.Memory.{value_word}
use Rattle.cells.specs.declared.Value.{Value}
use Rattle.cells.specs.declared.Frame.{Frame}
use Rattle.cells.specs.declared.Object.{Object}
use Rattle.cells.specs.Cells.{value_of, zero_value}
use Rattle.store.specs.Store.{absent_frame, absent_object}

-- n words from a place on: g 0, g 1, .., g (n - 1)
unfoldable pub put : ℕ → (ℕ → ℕ) → List ℕ → ℕ → List ℕ
put zero g ws from = ws
put (suc n) g ws from = set (put n g ws from) (from + n) (g n)

-- the word of value j
unfoldable pub word_in : List Value → ℕ → ℕ
word_in cs j = value_word (value_of (get_or cs j zero_value))

-- a value has one word
abbrev pub value_word_in : Value → ℕ → ℕ
value_word_in c j = value_word (value_of c)

-- word j of a frame, and of an object
unfoldable pub frame_word_in : Frame → ℕ → ℕ
frame_word_in f j =
    pick (eqb j 0) f.method
    (pick (eqb j 1) f.address (pick (eqb j 2) (value_word (value_of f.result)) (word_in f.registers (j - 3))))

unfoldable pub object_word_in : Object → ℕ → ℕ
object_word_in o j = pick (eqb j 0) o.class (word_in o.cells (j - 1))

-- word k of structs of so many words each that stand one after another, of frames, and of objects; what is said of one that is not
-- there is not asked
abbrev pub each_word : {A : Type 0} → ℕ → (A → ℕ → ℕ) → A → List A → ℕ → ℕ
each_word size word absent xs k = word (get_or xs (k / size) absent) (k % size)

unfoldable pub frames_word : List Frame → ℕ → ℕ
frames_word fs k = each_word 19 frame_word_in absent_frame fs k

unfoldable pub objects_word : List Object → ℕ → ℕ
objects_word os k = each_word 17 object_word_in absent_object os k
