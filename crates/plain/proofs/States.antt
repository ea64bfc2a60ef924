-- The words of frames, objects and statics that hold a state are the state's words. Assumes nothing.
use mathlib.Core.Path.{◌≡◌, refl, ap, ◌∙◌}
use mathlib.Core.Bool.{Bool, true, false}
use mathlib.Core.List.{List, [], ◌∷◌}
use Prim.Native.Nat.{ℕ, ◌-◌, ◌≤◌, ◌<◌, ◌/◌, ◌%◌}
use native.Mathlib.Decide.{dec_lt}
use native.Mathlib.Omega.{arith}
use lib.Dec.{ltb, eqb}
use lib.ListN.{length, get_or, replicate}
use borrow.Author.Tests.{lt-ltb, le-ltb}
use Rattle.instruction.specs.Word.{pick}
use Rattle.program.specs.Lists.{tab}
use Rattle.program.proofs.Lists.{getD_tab, tab_cong}
use Rattle.machine.specs.declared.Value as machine
use Rattle.machine.specs.State as state
use Rattle.machine.specs.State.{State, null, register, object_at, static}
use Rattle.memory.specs.Memory as memory
use Rattle.memory.specs.Memory.{value_word, frame_word, object_word}
use Rattle.cells.specs.declared.Value.{Value}
use Rattle.cells.specs.declared.Frame.{Frame}
use Rattle.cells.specs.declared.Object.{Object}
use Rattle.cells.specs.Cells.{cell_of, value_of, zero_value, zero_frame, zero_object, frame_of, object_of, object_in, frames_of, objects_of, statics_of}
use Rattle.cells.specs.Cells as cells
use Rattle.cells.proofs.Values.{reads}
use Rattle.store.specs.Store.{absent_frame, absent_object}
use Rattle.plain.specs.Words.{put, word_in, frame_word_in, object_word_in, frames_word, objects_word}
use Rattle.plain.proofs.Puts.{put_tab}

-- ---- a value, a frame, an object

values_word : (v : ℕ → machine.Value) (n j : ℕ) → j < n → word_in (tab n (λ r. cell_of (v r))) j ≡ value_word (v j)
unfolding word_in
values_word v n j l =
    ap (λ (c : Value). value_word (value_of c)) (getD_tab n (λ r. cell_of (v r)) j zero_value l) ∙ ap value_word (reads (v j))

frame_word_lem : (f : state.Frame) (j : ℕ) → j < 19 → frame_word_in (frame_of f) j ≡ frame_word f j
unfolding frame_word_in frame_word
frame_word_lem f j l =
    let a : value_word (value_of (cell_of f.result)) ≡ value_word f.result = ap value_word (reads f.result) in
    let b : word_in (tab 16 (λ r. cell_of (register f r))) (j - 3) ≡ value_word (register f (j - 3)) = values_word (register f) 16 (j - 3) (omega arith) in
    rw (a, b) refl

object_word_lem : (o : state.Object) (j : ℕ) → j < 17 → object_word_in (object_of o) j ≡ object_word o j
unfolding object_word_in object_word
object_word_lem o j l =
    let b : word_in (tab 16 (λ x. cell_of (get_or o.cells x null))) (j - 1) ≡ value_word (get_or o.cells (j - 1) null) = values_word (λ x. get_or o.cells x null) 16 (j - 1) (omega arith) in
    rw b refl

pick_same : (b : Bool) (x : ℕ) → pick b x x ≡ x
pick_same true x = refl
pick_same false x = refl

zero_word : (j : ℕ) → j < 17 → object_word_in zero_object j ≡ 0
unfolding object_word_in
zero_word j l =
    let b : word_in (replicate 16 zero_value) (j - 1) ≡ 0 = values_word (λ _. null) 16 (j - 1) (omega arith) in
    rw b (pick_same (eqb j 0) 0)

-- an object that may not be there
object_in_word : (s : State) (i j : ℕ) → j < 17 → object_word_in (object_in s i) j ≡ pick (ltb i (length s.objects)) (object_word (object_at s i) j) 0
object_in_word s i j l = by (ltb i (length s.objects))
  where
    by : (b : Bool) → object_word_in (pick b (object_of (object_at s i)) zero_object) j ≡ pick b (object_word (object_at s i) j) 0
    by true = object_word_lem (object_at s i) j l
    by false = zero_word j l

frame_at_lem : (fs : List state.Frame) (i : ℕ) → cells.frame_at fs i ≡ memory.frame_at fs i
frame_at_lem [] i = refl
frame_at_lem (f ∷ rest) i = ap (λ (x : state.Frame). pick (eqb i (length rest)) f x) (frame_at_lem rest i)

-- ---- all of them

-- words that are put, against words that are said index by index
said : (n : ℕ) (g h : ℕ → ℕ) (ws : List ℕ) → n ≤ length ws → ((i : ℕ) → i < n → g i ≡ h i)
    → put n g ws 0 ≡ tab (length ws) (λ i. pick (ltb i n) (h i) (get_or ws i 0))
said n g h ws u same =
    put_tab n g ws u
    ∙ tab_cong (length ws) (λ i. pick (ltb i n) (g i) (get_or ws i 0)) (λ i. pick (ltb i n) (h i) (get_or ws i 0))
    (λ i _.
    elim (dec_lt i n) [
      | yes l ↦ ap (λ (w : ℕ). pick (ltb i n) w (get_or ws i 0)) (same i l)
      | no l ↦ rw (le-ltb i n (omega arith)) refl
    ])

-- element i of what is said index by index, of n in all
element : {A : Type 0} (n : ℕ) (f g : ℕ → A) (i : ℕ) (d : A) → i < n → get_or (tab n (λ k. pick (ltb k n) (f k) (g k))) i d ≡ f i
element n f g i d l = getD_tab n (λ k. pick (ltb k n) (f k) (g k)) i d l ∙ rw (lt-ltb i n l) refl

module _ (s : State) (before : List ℕ) where
  pub frames_words : 608 ≤ length before → put 608 (frames_word (frames_of s (replicate 32 zero_frame))) before 0 ≡ memory.frames_of s before
  unfolding frames_of memory.frames_of frames_word
  frames_words u =
      said 608 (frames_word (frames_of s (replicate 32 zero_frame))) (λ i. frame_word (memory.frame_at s.frames (i / 19)) (i % 19)) before u
      (λ i l.
      ap (λ (f : Frame). frame_word_in f (i % 19)) (element 32 (λ k. frame_of (cells.frame_at s.frames k)) (λ k. get_or (replicate 32 zero_frame) k zero_frame) (i / 19) absent_frame (omega arith))
      ∙ frame_word_lem (cells.frame_at s.frames (i / 19)) (i % 19) (omega arith)
      ∙ ap (λ (f : state.Frame). frame_word f (i % 19)) (frame_at_lem s.frames (i / 19)))

  pub objects_words : 4352 ≤ length before → put 4352 (objects_word (objects_of s (replicate 256 zero_object))) before 0 ≡ memory.objects_of s before
  unfolding objects_of memory.objects_of objects_word
  objects_words u =
      said 4352 (objects_word (objects_of s (replicate 256 zero_object))) (λ i. pick (ltb (i / 17) (length s.objects)) (object_word (object_at s (i / 17)) (i % 17)) 0) before u
      (λ i l.
      ap (λ (o : Object). object_word_in o (i % 17)) (element 256 (object_in s) (λ k. get_or (replicate 256 zero_object) k zero_object) (i / 17) absent_object (omega arith))
      ∙ object_in_word s (i / 17) (i % 17) (omega arith))

  pub statics_words : 16 ≤ length before → put 16 (word_in (statics_of s (replicate 16 zero_value))) before 0 ≡ memory.statics_of s before
  unfolding statics_of memory.statics_of word_in
  statics_words u =
      said 16 (word_in (statics_of s (replicate 16 zero_value))) (λ i. value_word (static s i)) before u
      (λ i l.
      ap (λ (c : Value). value_word (value_of c)) (element 16 (λ k. cell_of (static s k)) (λ k. get_or (replicate 16 zero_value) k zero_value) i zero_value l)
      ∙ ap value_word (reads (static s i)))
