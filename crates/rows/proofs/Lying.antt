-- What is printed from the words in which a state lies is what is printed of that state. Assumes nothing.
use mathlib.Core.Path.{◌≡◌, refl, sym, ap, ◌∙◌}
use mathlib.Core.List.{List, [], ◌∷◌, ◌++◌, append-nil}
use Prim.Native.Nat.{ℕ, suc, ◌+◌, ◌*◌, ◌≤◌, ◌<◌, min}
use native.Mathlib.Nat.{add-zero}
use native.Mathlib.Omega.{arith}
use lib.ListN.{length, get_or}
use Rattle.page.specs.Digits.{two}
use Rattle.program.specs.Lists.{joined}
use Rattle.program.specs.Program.{Program, field_count, registers}
use Rattle.program.proofs.Joined.{joined_cong}
use Rattle.machine.specs.declared.Value.{Value}
use Rattle.machine.specs.State.{Frame, Object, State, null, register, object_at, static}
use Rattle.memory.specs.Memory.{value_word, frame_word, object_word, frame_at, frames_of, objects_of, statics_of}
use Rattle.rows.specs.State.{value_text, values_text, frame_name, object_name, static_name, frame_text, object_text, static_text, state_text}
use Rattle.rows.specs.Rows.{word_text, row_text, rows_text, frame_row, frame_rows, object_rows, static_rows, state_rows}
use Rattle.rows.proofs.Values.{value_word_lem}
use Rattle.rows.proofs.Words.{frame_at_lem, object_at_lem, static_at, register_word, cell_word}

-- words that hold values, printed
values_are : (n : ℕ) (w : ℕ → ℕ) (v : ℕ → Value) → ((j : ℕ) → j < n → w j ≡ value_word (v j))
    → joined n (λ j. 32 ∷ word_text (w j)) ≡ values_text n v
values_are n w v e =
    joined_cong n (λ j. 32 ∷ word_text (w j)) (λ j. 32 ∷ value_text (v j))
    (λ j l. ap (λ (t : List ℕ). 32 ∷ t) (ap word_text (e j l) ∙ value_word_lem (v j)))

-- a line, from what its words are
row_is : (name ws : List ℕ) (from heads cells : ℕ) (w : ℕ → ℕ) → ((j : ℕ) → j < heads + cells → get_or ws (from + j) 0 ≡ w j)
    → row_text name ws from heads cells
    ≡ name ++ joined heads (λ j. 32 ∷ two (w j)) ++ joined cells (λ j. 32 ∷ word_text (w (heads + j))) ++ 10 ∷ []
row_is name ws from heads cells w e =
    let first : joined heads (λ j. 32 ∷ two (get_or ws (from + j) 0)) ≡ joined heads (λ j. 32 ∷ two (w j)) =
    joined_cong heads (λ j. 32 ∷ two (get_or ws (from + j) 0)) (λ j. 32 ∷ two (w j)) (λ j l. ap (λ (n : ℕ). 32 ∷ two n) (e j (omega arith))) in
    let second : joined cells (λ j. 32 ∷ word_text (get_or ws (from + heads + j) 0)) ≡ joined cells (λ j. 32 ∷ word_text (w (heads + j))) =
    joined_cong cells (λ j. 32 ∷ word_text (get_or ws (from + heads + j) 0)) (λ j. 32 ∷ word_text (w (heads + j)))
    (λ j l.
    let place : from + heads + j ≡ from + (heads + j) = omega arith in
    ap (λ (n : ℕ). 32 ∷ word_text n) (ap (λ (q : ℕ). get_or ws q 0) place ∙ e (heads + j) (omega arith))) in
    cc

-- a static's line, from its word
static_row : (ws : List ℕ) (x : ℕ) (v : Value) → get_or ws x 0 ≡ value_word v → row_text static_name ws (1 * x) 0 1 ≡ static_text v
static_row ws x v e =
    let place : 1 * x + 0 + 0 ≡ x = omega arith in
    ap (λ (t : List ℕ). static_name ++ 32 ∷ t ++ 10 ∷ [])
    (append-nil (word_text (get_or ws (1 * x + 0 + 0) 0))
    ∙ ap word_text (ap (λ (q : ℕ). get_or ws q 0) place ∙ e)
    ∙ value_word_lem v)

module _ (p : Program) where
  -- an object's line, from its words
  object_row : (ws : List ℕ) (i : ℕ) (o : Object) → field_count p ≤ 16
      → ((j : ℕ) → j < 17 → get_or ws (17 * i + j) 0 ≡ object_word o j) → row_text object_name ws (17 * i) 1 (field_count p) ≡ object_text p o
  unfolding object_word
  object_row ws i o few e =
      row_is object_name ws (17 * i) 1 (field_count p) (object_word o) (λ j l. e j (omega arith))
      ∙ ap (λ (t : List ℕ). object_name ++ 32 ∷ two o.class ++ t ++ 10 ∷ [])
      (values_are (field_count p) (λ x. object_word o (1 + x)) (λ x. get_or o.cells x null) (λ x l. cell_word o x))

  -- a frame's result and registers, and its line, from its words
  module _ (f : Frame) (few : registers p f.method ≤ 16) where
    slots_are : joined (1 + registers p f.method) (λ j. 32 ∷ word_text (frame_word f (2 + j)))
        ≡ 32 ∷ value_text f.result ++ values_text (registers p f.method) (register f)
    unfolding frame_word
    slots_are =
        let n : ℕ = registers p f.method in
        let more : 1 + n ≡ suc n = omega arith in
        ap (λ (m : ℕ). joined m (λ j. 32 ∷ word_text (frame_word f (2 + j)))) more
        ∙ ap (λ (t : List ℕ). 32 ∷ t ++ joined n (λ r. 32 ∷ word_text (frame_word f (2 + suc r)))) (value_word_lem f.result)
        ∙ ap (λ (t : List ℕ). 32 ∷ value_text f.result ++ t)
        (values_are n (λ r. frame_word f (2 + suc r)) (register f) (λ r l. register_word f r))

    frame_row_lem : (ws : List ℕ) (i : ℕ) → ((j : ℕ) → j < 19 → get_or ws (19 * i + j) 0 ≡ frame_word f j) → frame_row p ws i ≡ frame_text p f
    unfolding frame_word
    frame_row_lem ws i e =
        let method : get_or ws (19 * i) 0 ≡ f.method = ap (λ (q : ℕ). get_or ws q 0) (sym (add-zero (19 * i))) ∙ e 0 (omega arith) in
        ap (λ (m : ℕ). row_text frame_name ws (19 * i) 2 (1 + registers p m)) method
        ∙ row_is frame_name ws (19 * i) 2 (1 + registers p f.method) (frame_word f) (λ j l. e j (omega arith))
        ∙ ap (λ (t : List ℕ). frame_name ++ 32 ∷ two f.method ++ 32 ∷ two f.address ++ t ++ 10 ∷ []) slots_are

-- a state's lines
module _ (p : Program) (s : State) where
  frames_rows : (before : List ℕ) → ((m : ℕ) → registers p m ≤ 16) → length s.frames ≤ 32 → 608 ≤ length before
      → frame_rows p (frames_of s before) (min (length s.frames) 32) ≡ joined (length s.frames) (λ i. frame_text p (frame_at s.frames i))
  unfolding frame_rows
  frames_rows before few most room =
      let all : min (length s.frames) 32 ≡ length s.frames = omega arith in
      rw all
      (joined_cong (length s.frames) (frame_row p (frames_of s before)) (λ i. frame_text p (frame_at s.frames i))
      (λ i l.
      frame_row_lem p (frame_at s.frames i) (few (frame_at s.frames i).method) (frames_of s before) i
      (λ j h. frame_at_lem s before room i j (omega arith) h)))

  objects_rows : (before : List ℕ) → field_count p ≤ 16 → length s.objects ≤ 256 → 4352 ≤ length before
      → object_rows p (objects_of s before) (length s.objects) ≡ joined (length s.objects) (λ i. object_text p (object_at s i))
  unfolding rows_text
  objects_rows before few most room =
      let all : min (length s.objects) 256 ≡ length s.objects = omega arith in
      rw all
      (joined_cong (length s.objects) (λ i. row_text object_name (objects_of s before) (17 * i) 1 (field_count p)) (λ i. object_text p (object_at s i))
      (λ i l.
      object_row p (objects_of s before) i (object_at s i) few (λ j h. object_at_lem s before room most i j l h)))

  statics_rows : (before : List ℕ) → p.statics ≤ 16 → 16 ≤ length before
      → static_rows p (statics_of s before) ≡ joined p.statics (λ x. static_text (static s x))
  unfolding rows_text
  statics_rows before few room =
      joined_cong p.statics (λ x. row_text static_name (statics_of s before) (1 * x) 0 1) (λ x. static_text (static s x))
      (λ x l.
      let low : x < 16 = omega arith in
      static_row (statics_of s before) x (static s x) (static_at s before room x low))

pub state_rows_lem : (p : Program) (s : State) (frames objects statics : List ℕ)
    → ((m : ℕ) → registers p m ≤ 16) → field_count p ≤ 16 → p.statics ≤ 16
    → length s.frames ≤ 32 → length s.objects ≤ 256
    → 608 ≤ length frames → 4352 ≤ length objects → 16 ≤ length statics
    → state_rows p (frames_of s frames) (length s.frames) (objects_of s objects) (length s.objects) (statics_of s statics) ≡ state_text p s
unfolding state_text
state_rows_lem p s frames objects statics few fields shared depth made a b c =
    rw (frames_rows p s frames few depth a, objects_rows p s objects fields made b, statics_rows p s statics shared c) refl
