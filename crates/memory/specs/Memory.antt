-- How a state lies in memory that the caller lends, words of 64 bits. Left free by document 01. Definitions only.
--     frames     19 words each, the bottom one first: method, address, result, 16 registers
--     objects    17 words each, in order of making: class, 16 cells
--     statics    a word each
-- "unused frames, objects, cells, statics and registers are zero; memory beyond these sizes is untouched"
use Rattle.std.specs.Prelude.{List, [], ◌∷◌, ℕ, ◌+◌, ◌-◌, ◌/◌, ◌%◌, eqb, ltb, length, get_or}
use Rattle.std.specs.Int.{w32}
use Rattle.std.proofs.Common.{to_z}
use Rattle.instruction.specs.Word.{pick}
use Rattle.arithmetic.specs.Arithmetic.{low}
use Rattle.program.specs.Lists.{tab}
use Rattle.machine.specs.declared.Value.{Value}
use Rattle.machine.specs.declared.Value.TheVariants.{Number, Reference}
use Rattle.machine.specs.State.{Frame, Object, State, null, no_frame, register, object_at, static}

-- a number is its 32 bits, an object 2 ^ 32 and its number, so that object 0 and number 0 differ
abbrev pub value_word : Value → ℕ
value_word (Number z) = low z
value_word (Reference o) = 4294967296 + o

-- the value that a word says
unfoldable pub value_in : ℕ → Value
value_in w = pick (ltb w 4294967296) (Number (to_z w32 w)) (Reference (w % 4294967296))

-- word j of a frame, and of an object
unfoldable pub frame_word : Frame → ℕ → ℕ
frame_word f j =
    pick (eqb j 0) f.method
    (pick (eqb j 1) f.address (pick (eqb j 2) (value_word f.result) (value_word (register f (j - 3)))))

unfoldable pub object_word : Object → ℕ → ℕ
object_word o j = pick (eqb j 0) o.class (value_word (get_or o.cells (j - 1) null))

-- frame i, the bottom one is frame 0
abbrev pub frame_at : List Frame → ℕ → Frame
frame_at [] i = no_frame
frame_at (f ∷ rest) i = pick (eqb i (length rest)) f (frame_at rest i)

-- the frames' memory with a state in it, of which it held the words before
unfoldable pub frames_of : State → List ℕ → List ℕ
frames_of s before =
    tab (length before) (λ i. pick (ltb i 608) (frame_word (frame_at s.frames (i / 19)) (i % 19)) (get_or before i 0))

unfoldable pub objects_of : State → List ℕ → List ℕ
objects_of s before =
    tab (length before)
    (λ i.
    pick (ltb i 4352)
    (pick (ltb (i / 17) (length s.objects)) (object_word (object_at s (i / 17)) (i % 17)) 0)
    (get_or before i 0))

unfoldable pub statics_of : State → List ℕ → List ℕ
statics_of s before = tab (length before) (λ i. pick (ltb i 16) (value_word (static s i)) (get_or before i 0))
