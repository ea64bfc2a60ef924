-- What `step` answers and leaves, from what a run left and what the reader answered. Assumes nothing.
use mathlib.Core.Path.{◌≡◌, refl, sym, ap, ◌∙◌}
use mathlib.Core.Bool.{Bool, true, false, false≢true}
use mathlib.Core.List.{List}
use Prim.Native.Nat.{ℕ, suc, ◌≤◌, ◌*◌}
use native.Mathlib.Omega.{arith}
use lib.ListN.{length, replicate}
use Rattle.std.specs.Prelude.{Option}
use Rattle.turn.specs.declared.Halt.{Halt}
use Rattle.instruction.specs.Test.{most, ◌&◌}
use Rattle.instruction.proofs.Laws.{holds}
use Rattle.reader.specs.Read.{Reading, refused, taken, read_program, tables_after}
use Rattle.cells.specs.declared.Value.{Value}
use Rattle.cells.specs.declared.Frame.{Frame}
use Rattle.cells.specs.declared.Object.{Object}
use Rattle.cells.specs.Cells.{zero_value, zero_frame, zero_object}
use Rattle.bounded.specs.declared.Outcome.{Outcome}
use Rattle.bounded.specs.declared.Outcome.TheVariants.{Refused, Short, Ran}
use Rattle.bounded.specs.Step.{Stepping, turned_down, short, ran, enough, stepping_by, stepping, stepping_number, stepping_values, frames_after, objects_after, statics_after, tables_left, pending_in, pending_values, number_of, values_of}
use Rattle.bounded.specs.Lent.{lending, frames_left, objects_left, statics_left}
use Rattle.store.specs.Store.{absent_frame, absent_object}
use Rattle.plain.specs.Words.{put, word_in, value_word_in, frame_word_in, object_word_in, each_word, frames_word, objects_word}
use Rattle.plain.proofs.Elements.{values_put}
use Rattle.plain.proofs.States.{frames_words, objects_words, statics_words}

-- with too little memory nothing is written, and n says nothing
few : (x : Reading) (n : ℕ) → stepping_by x n false ≡ stepping_by x 0 false
few (refused number line) n = refl
few (taken p) n = refl

few_left : (x : Reading) (n : ℕ) (frames objects statics : List ℕ)
    → (frames ≡ frames_after (stepping_by x n false) frames) × (objects ≡ objects_after (stepping_by x n false) objects) × (statics ≡ statics_after (stepping_by x n false) statics)
few_left (refused number line) n frames objects statics = (refl, refl, refl)
few_left (taken p) n frames objects statics = (refl, refl, refl)

module _ (text : List ℕ) (n : ℕ) (frames objects statics : List ℕ) where
  abbrev all : Stepping
  all = stepping text n frames objects statics

  abbrev Answers : Outcome → Type 0
  Answers r = (number_of r ≡ stepping_number all) × (values_of r ≡ stepping_values all)

  abbrev Leaves : List ℕ → List ℕ → List ℕ → Type 0
  Leaves fs os ss = (fs ≡ frames_after all frames) × (os ≡ objects_after all objects) × (ss ≡ statics_after all statics)

  pub few_answers : enough (length frames) (length objects) (length statics) ≡ false → (r : Outcome)
      → (number_of r ≡ stepping_number (stepping_by (read_program text) 0 false)) × (values_of r ≡ stepping_values (stepping_by (read_program text) 0 false))
      → Answers r × Leaves frames objects statics
  unfolding stepping
  few_answers room r e =
      rw room
      ((e.0 ∙ ap stepping_number (sym (few (read_program text) n)), e.1 ∙ ap stepping_values (sym (few (read_program text) n))), few_left (read_program text) n frames objects statics)

-- ---- tables for the program

-- where memory suffices they hold what is read
room_tables : (x : Reading) (n : ℕ) (t : List ℕ) → tables_after x t ≡ tables_left (stepping_by x n true) x t
room_tables (refused number line) n t = refl
room_tables (taken p) n t = refl

few_tables : (x : Reading) (n : ℕ) (t : List ℕ) → t ≡ tables_left (stepping_by x n false) x t
few_tables (refused number line) n t = refl
few_tables (taken p) n t = refl

module _ (text : List ℕ) (n : ℕ) (frames objects statics t : List ℕ) where
  pub tables_read : enough (length frames) (length objects) (length statics) ≡ true
      → tables_after (read_program text) t ≡ tables_left (stepping text n frames objects statics) (read_program text) t
  unfolding stepping
  tables_read room = rw room (room_tables (read_program text) n t)

  pub tables_kept : enough (length frames) (length objects) (length statics) ≡ false
      → t ≡ tables_left (stepping text n frames objects statics) (read_program text) t
  unfolding stepping
  tables_kept room = rw room (few_tables (read_program text) n t)

-- ---- what is written where a program ran

-- whether a program ran, by an answer and in what becomes of a text
abbrev pub has_run : Outcome → Bool
has_run (Refused number line) = false
has_run Short = false
has_run (Ran halt steps frames objects pending) = true

pub no_run : (r : Outcome) → ((h : Halt) (k f o : ℕ) (p : Option ℕ) → r ≡ Ran h k f o p → ⊥) → has_run r ≡ false
no_run (Refused number line) d = refl
no_run Short d = refl
no_run (Ran h k f o p) d = absurd (d h k f o p refl)

abbrev ran_in : Stepping → Bool
ran_in (turned_down number line) = false
ran_in short = false
ran_in (ran x) = true

-- an answer with its values says so
has_run_is : (r : Outcome) (x : Stepping) → values_of r ≡ stepping_values x → has_run r ≡ ran_in x
has_run_is (Refused number line) (turned_down k l) e = refl
has_run_is (Refused number line) short e = refl
has_run_is (Refused number line) (ran x) e =
    let l : 1 ≡ suc (suc (suc (length (pending_in x.state.status)))) = ap length e in absurd (omega arith)
has_run_is Short (turned_down k l) e = refl
has_run_is Short short e = refl
has_run_is Short (ran x) e =
    let l : 0 ≡ suc (suc (suc (length (pending_in x.state.status)))) = ap length e in absurd (omega arith)
has_run_is (Ran halt steps frames objects pending) (turned_down k l) e =
    let l : suc (suc (suc (length (pending_values pending)))) ≡ 1 = ap length e in absurd (omega arith)
has_run_is (Ran halt steps frames objects pending) short e =
    let l : suc (suc (suc (length (pending_values pending)))) ≡ 0 = ap length e in absurd (omega arith)
has_run_is (Ran halt steps frames objects pending) (ran x) e = refl

written : (x : Stepping) (frames objects statics : List ℕ) → ran_in x ≡ true → 608 ≤ length frames → 4352 ≤ length objects → 16 ≤ length statics
    → (put 608 (frames_word (frames_left x (replicate 32 zero_frame))) frames 0 ≡ frames_after x frames)
    × (put 4352 (objects_word (objects_left x (replicate 256 zero_object))) objects 0 ≡ objects_after x objects)
    × (put 16 (word_in (statics_left x (replicate 16 zero_value))) statics 0 ≡ statics_after x statics)
written (turned_down number line) frames objects statics t a b c = absurd (false≢true t)
written short frames objects statics t a b c = absurd (false≢true t)
written (ran x) frames objects statics t a b c =
    (frames_words x.state frames a, objects_words x.state objects b, statics_words x.state statics c)

untouched : (x : Stepping) (frames objects statics : List ℕ) → ran_in x ≡ false
    → (frames ≡ frames_after x frames) × (objects ≡ objects_after x objects) × (statics ≡ statics_after x statics)
untouched (turned_down number line) frames objects statics t = (refl, refl, refl)
untouched short frames objects statics t = (refl, refl, refl)
untouched (ran x) frames objects statics t = absurd (false≢true (sym t))

enough_is : (a b c : ℕ) → enough a b c ≡ true → (608 ≤ a) × (4352 ≤ b) × (16 ≤ c)
enough_is a b c e =
    let h = holds (most 608 a & (most 4352 b & most 16 c)) e in
    (h.0, h.1.0, h.1.1)

module _ (text : List ℕ) (n : ℕ) (frames objects statics : List ℕ) (room : enough (length frames) (length objects) (length statics) ≡ true)
    (f : Frame) (o : Object) (v : Value) (f-is : f ≡ zero_frame) (o_is : o ≡ zero_object) (v-is : v ≡ zero_value) (r : Outcome) where
  -- what becomes of the text in slices of its own, and in the words
  abbrev y : Stepping
  y = lending text n (replicate 32 f) (replicate 256 o) (replicate 16 v)

  abbrev x : Stepping
  x = all text n frames objects statics

  same : y ≡ x
  unfolding stepping lending
  same = rw room refl

  module _ (e : (number_of r ≡ stepping_number y) × (values_of r ≡ stepping_values y)) where
    pub answers : Answers text n frames objects statics r
    answers = (e.0 ∙ ap stepping_number same, e.1 ∙ ap stepping_values same)

    ran_is : (b : Bool) → has_run r ≡ b → ran_in x ≡ b
    ran_is b h = sym (has_run_is r x answers.1) ∙ h

    pub leaves_none : has_run r ≡ false → Leaves text n frames objects statics frames objects statics
    leaves_none h = untouched x frames objects statics (ran_is false h)

    -- its own frames, objects and statics, of which there are as many as a state has
    module _ (fs : List Frame) (os : List Object) (ss : List Value) (many : length fs ≡ 32) (more : length os ≡ 256) (few-statics : length ss ≡ 16) where
      pub leaves : has_run r ≡ true
          → (fs ≡ frames_left y (replicate 32 f)) × (os ≡ objects_left y (replicate 256 o)) × (ss ≡ statics_left y (replicate 16 v))
          → (frames' objects' statics' : List ℕ) → frames' ≡ put (19 * length fs) (each_word 19 frame_word_in absent_frame fs) frames 0
          → objects' ≡ put (17 * length os) (each_word 17 object_word_in absent_object os) objects 0
          → statics' ≡ put (1 * length ss) (each_word 1 value_word_in zero_value ss) statics 0
          → Leaves text n frames objects statics frames' objects' statics'
      unfolding frames_word objects_word
      leaves h m frames' objects' statics' a b c =
          let u = enough_is (length frames) (length objects) (length statics) room in
          let w = written x frames objects statics (ran_is true h) u.0 u.1 u.2 in
          let i : 19 * length fs ≡ 608 = omega arith in
          let j : 17 * length os ≡ 4352 = omega arith in (
            a ∙ ap (λ (k : ℕ). put k (frames_word fs) frames 0) i ∙ ap (λ (l : List Frame). put 608 (frames_word l) frames 0) (m.0 ∙ ap (λ (z : Stepping). frames_left z (replicate 32 f)) same ∙ ap (λ (g : Frame). frames_left x (replicate 32 g)) f-is) ∙ w.0,
            b ∙ ap (λ (k : ℕ). put k (objects_word os) objects 0) j ∙ ap (λ (l : List Object). put 4352 (objects_word l) objects 0) (m.1 ∙ ap (λ (z : Stepping). objects_left z (replicate 256 o)) same ∙ ap (λ (g : Object). objects_left x (replicate 256 g)) o_is) ∙ w.1,
            c ∙ values_put ss statics 0 (length ss) ∙ ap (λ (k : ℕ). put k (word_in ss) statics 0) few-statics ∙ ap (λ (l : List Value). put 16 (word_in l) statics 0) (m.2 ∙ ap (λ (z : Stepping). statics_left z (replicate 16 v)) same ∙ ap (λ (g : Value). statics_left x (replicate 16 g)) v-is) ∙ w.2,
          )
