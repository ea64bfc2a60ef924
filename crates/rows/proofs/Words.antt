-- The words of lent memory in which a state lies: those of each frame, object and static. Assumes nothing.
use mathlib.Core.Path.{◌≡◌, refl, ap, ◌∙◌}
use mathlib.Core.List.{List}
use Prim.Native.Nat.{ℕ, suc, ◌+◌, ◌/◌, ◌%◌, ◌≤◌, ◌<◌}
use native.Mathlib.Omega.{arith}
use borrow.Author.Tests.{lt-ltb, ne_eqb}
use lib.Dec.{ltb}
use lib.ListN.{length, get_or}
use Rattle.instruction.specs.Word.{pick}
use Rattle.program.proofs.Lists.{getD_tab}
use Rattle.machine.specs.State.{Frame, Object, State, null, register, object_at, static}
use Rattle.memory.specs.Memory.{value_word, frame_word, object_word, frame_at, frames_of, objects_of, statics_of}
use Rattle.memory.specs.Writes.{frame_place, object_place}
use Rattle.memory.proofs.Places.{place_div, place_mod}

module _ (s : State) (before : List ℕ) where
  pub frame_at_lem : 608 ≤ length before → (i j : ℕ) → i < 32 → j < 19
      → get_or (frames_of s before) (frame_place i j) 0 ≡ frame_word (frame_at s.frames i) j
  unfolding frames_of
  frame_at_lem room i j l h =
      getD_tab (length before) (λ q. pick (ltb q 608) (frame_word (frame_at s.frames (q / 19)) (q % 19)) (get_or before q 0)) (frame_place i j) 0 (omega arith)
      ∙ rw (lt-ltb (frame_place i j) 608 (omega arith), place_div 19 i j h, place_mod 19 i j h) refl

  pub object_at_lem : 4352 ≤ length before → length s.objects ≤ 256 → (i j : ℕ) → i < length s.objects → j < 17
      → get_or (objects_of s before) (object_place i j) 0 ≡ object_word (object_at s i) j
  unfolding objects_of
  object_at_lem room few i j l h =
      getD_tab (length before)
      (λ q. pick (ltb q 4352) (pick (ltb (q / 17) (length s.objects)) (object_word (object_at s (q / 17)) (q % 17)) 0) (get_or before q 0))
      (object_place i j) 0 (omega arith)
      ∙ rw (lt-ltb (object_place i j) 4352 (omega arith), place_div 17 i j h, place_mod 17 i j h, lt-ltb i (length s.objects) l) refl

  pub static_at : 16 ≤ length before → (x : ℕ) → x < 16 → get_or (statics_of s before) x 0 ≡ value_word (static s x)
  unfolding statics_of
  static_at room x l =
      getD_tab (length before) (λ q. pick (ltb q 16) (value_word (static s q)) (get_or before q 0)) x 0 (omega arith)
      ∙ rw (lt-ltb x 16 l) refl

-- a frame's registers and an object's cells among its words
pub register_word : (f : Frame) (r : ℕ) → frame_word f (2 + suc r) ≡ value_word (register f r)
unfolding frame_word
register_word f r =
    rw (ne_eqb (2 + suc r) 0 (λ e. omega arith), ne_eqb (2 + suc r) 1 (λ e. omega arith), ne_eqb (2 + suc r) 2 (λ e. omega arith))
    (ap (λ (k : ℕ). value_word (register f k)) (omega arith))

pub cell_word : (o : Object) (x : ℕ) → object_word o (1 + x) ≡ value_word (get_or o.cells x null)
unfolding object_word
cell_word o x = rw (ne_eqb (1 + x) 0 (λ e. omega arith)) (ap (λ (k : ℕ). value_word (get_or o.cells k null)) (omega arith))
