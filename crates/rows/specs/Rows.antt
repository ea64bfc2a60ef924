-- What is printed of a state, from the words of lent memory. For words in which a state lies it is what State.antt says of that
-- state (proofs/Lying.antt). Definitions only.
use Rattle.std.specs.Prelude.{cond as pick, List, [], ◌∷◌, ◌++◌, ℕ, ◌+◌, ◌*◌, min, ltb, get_or}
use Rattle.page.specs.Digits.{two, eight}
use Rattle.program.specs.Lists.{joined}
use Rattle.program.specs.Program.{Program, field_count, registers}
use Rattle.rows.specs.State.{frame_name, object_name, static_name}

-- a word that holds a value
unfoldable pub word_text : ℕ → List ℕ
word_text w = pick (ltb w 4294967296) (eight w) (64 ∷ two w)

-- words from a place on: numbers of two digits, and values, a space before each
abbrev pub heads_text : List ℕ → ℕ → ℕ → List ℕ
heads_text ws from count = joined count (λ j. 32 ∷ two (get_or ws (from + j) 0))

abbrev pub cells_text : List ℕ → ℕ → ℕ → List ℕ
cells_text ws from count = joined count (λ j. 32 ∷ word_text (get_or ws (from + j) 0))

-- a line: a name, some numbers, some values
abbrev pub row_text : List ℕ → List ℕ → ℕ → ℕ → ℕ → List ℕ
row_text name ws from heads cells = name ++ heads_text ws from heads ++ cells_text ws (from + heads) cells ++ 10 ∷ []

-- lines of as many numbers and values each, from the start of memory on, so many words apart
unfoldable pub rows_text : List ℕ → List ℕ → ℕ → ℕ → ℕ → ℕ → List ℕ
rows_text name ws apart heads cells count = joined count (λ i. row_text name ws (apart * i) heads cells)

-- frame i: its result and its method's registers
abbrev pub frame_row : Program → List ℕ → ℕ → List ℕ
frame_row p ws i = row_text frame_name ws (19 * i) 2 (1 + registers p (get_or ws (19 * i) 0))

unfoldable pub frame_rows : Program → List ℕ → ℕ → List ℕ
frame_rows p ws count = joined count (frame_row p ws)

-- so many objects, and the statics
abbrev pub object_rows : Program → List ℕ → ℕ → List ℕ
object_rows p objects made = rows_text object_name objects 17 1 (field_count p) (min made 256)

abbrev pub static_rows : Program → List ℕ → List ℕ
static_rows p statics = rows_text static_name statics 1 0 1 p.statics

-- so many frames and objects, and the statics
abbrev pub state_rows : Program → List ℕ → ℕ → List ℕ → ℕ → List ℕ → List ℕ
state_rows p frames depth objects made statics =
    frame_rows p frames (min depth 32)
    ++ object_rows p objects made
    ++ static_rows p statics
