-- What is left of lent frames, objects and statics: all as it was where a text is refused or too few are lent; past the sizes as it
-- was; zero where the state has nothing. Assumes nothing.
use mathlib.Core.Path.{◌≡◌, refl, sym, ap, subst, ◌∙◌}
use mathlib.Core.Bool.{Bool, false}
use mathlib.Core.List.{List, [], ◌∷◌}
use Prim.Native.Nat.{ℕ, zero, suc, ◌≤◌, ◌<◌}
use native.Mathlib.Omega.{arith}
use lib.Dec.{ltb, leb-suc-suc}
use lib.ListN.{length, get_or, drop, get_or-eq_default}
use borrow.Author.Tests.{lt-ltb, le-ltb, le-leb, ne_eqb}
use Rattle.instruction.specs.Word.{pick}
use Rattle.instruction.proofs.Flags.{pick_cases}
use Rattle.program.specs.Lists.{tab}
use Rattle.program.specs.Program.{Program}
use Rattle.program.proofs.Lists.{getD_tab, tab_cong, tab_getD}
use Rattle.search.specs.Search.{has_field}
use Rattle.reader.specs.Read.{refused, taken, read_program}
use Rattle.machine.specs.declared.Value as machine
use Rattle.machine.specs.State as state
use Rattle.machine.specs.State.{State, null, no_frame, object_at}
use Rattle.machine.proofs.NotHad.{NotHad, cell_not_had}
use Rattle.cells.specs.declared.Value.{Value}
use Rattle.cells.specs.declared.Frame.{Frame}
use Rattle.cells.specs.declared.Object.{Object}
use Rattle.cells.specs.Cells.{cell_of, zero_value, zero_frame, zero_object, frame_of, object_of, frame_at, object_in, frames_of, objects_of, statics_of}
use Rattle.bounded.specs.Bounded.{Stopped, bounded}
use Rattle.bounded.specs.Step.{Stepping, turned_down, short, ran}
use Rattle.bounded.specs.Lent.{enough, lending, frames_left, objects_left, statics_left}
use Rattle.bounded.proofs.Laws.{state_left}

-- ---- refused or short
abbrev pub Unchanged : Stepping → List Frame → List Object → List Value → Type 0
Unchanged x frames objects statics = (frames_left x frames ≡ frames) × (objects_left x objects ≡ objects) × (statics_left x statics ≡ statics)

module _ (text : List ℕ) (n : ℕ) (frames : List Frame) (objects : List Object) (statics : List Value) where
  -- "Each gives number and line .. and touches no lent memory", however little is lent
  pub lending_refused : (number line : ℕ) → read_program text ≡ refused number line
      → lending text n frames objects statics ≡ turned_down number line
  unfolding lending
  lending_refused number line h = rw h

  pub refused_unchanged : (number line : ℕ) → read_program text ≡ refused number line
      → Unchanged (lending text n frames objects statics) frames objects statics
  refused_unchanged number line h = rw (lending_refused number line h) (refl, refl, refl)

  module _ (p : Program) (h : read_program text ≡ taken p) where
    -- "23 .. untouched, after all of the above"
    pub lending_short : enough (length frames) (length objects) (length statics) ≡ false → lending text n frames objects statics ≡ short
    unfolding lending
    lending_short e = rw (h, e)

    pub short_unchanged : enough (length frames) (length objects) (length statics) ≡ false
        → Unchanged (lending text n frames objects statics) frames objects statics
    short_unchanged e = rw (lending_short e) (refl, refl, refl)

    pub lending_ran : 32 ≤ length frames → 256 ≤ length objects → 16 ≤ length statics
        → lending text n frames objects statics ≡ ran (bounded p n)
    unfolding lending
    lending_ran f o s =
        rw (h, le-leb 32 (length frames) f, le-leb 256 (length objects) o, le-leb 16 (length statics) s)

-- ---- a list of which the first m elements are written
module _ {A : Type 0} (d : A) where
  abbrev laid : ℕ → (ℕ → A) → List A → List A
  laid m g before = tab (length before) (λ i. pick (ltb i m) (g i) (get_or before i d))

  laid_at : (m : ℕ) (g : ℕ → A) (before : List A) (i : ℕ) (e : A) → i < m → m ≤ length before → get_or (laid m g before) i e ≡ g i
  laid_at m g before i e l k =
      getD_tab (length before) (λ i. pick (ltb i m) (g i) (get_or before i d)) i e (omega arith) ∙ rw (lt-ltb i m l) refl

  -- the rest is as it was
  laid_past : (m : ℕ) (g : ℕ → A) (before : List A) → drop m (laid m g before) ≡ drop m before
  laid_past zero g before =
      tab_cong (length before) _ (λ i. get_or before i d) (λ i l. rw (le-ltb i 0 (omega arith)) refl) ∙ tab_getD before d
  laid_past (suc m) g [] = refl
  laid_past (suc m) g (x ∷ before) =
      ap (drop m)
      (tab_cong (length before) _ (λ i. pick (ltb i m) (g (suc i)) (get_or before i d))
      (λ i _. ap (λ (t : Bool). pick t (g (suc i)) (get_or before i d)) (leb-suc-suc (suc i) m)))
      ∙ laid_past m (λ i. g (suc i)) before

-- ---- past the sizes
-- "memory beyond these sizes is untouched": past 32 frames, 256 objects and 16 statics, whatever became of it
pub past_frames : (x : Stepping) (frames : List Frame) → drop 32 (frames_left x frames) ≡ drop 32 frames
unfolding frames_of
past_frames (turned_down number line) frames = refl
past_frames short frames = refl
past_frames (ran y) frames = laid_past zero_frame 32 (λ i. frame_of (frame_at y.state.frames i)) frames

pub past_objects : (x : Stepping) (objects : List Object) → drop 256 (objects_left x objects) ≡ drop 256 objects
unfolding objects_of
past_objects (turned_down number line) objects = refl
past_objects short objects = refl
past_objects (ran y) objects = laid_past zero_object 256 (object_in y.state) objects

pub past_statics : (x : Stepping) (statics : List Value) → drop 16 (statics_left x statics) ≡ drop 16 statics
unfolding statics_of
past_statics (turned_down number line) statics = refl
past_statics short statics = refl
past_statics (ran y) statics = laid_past zero_value 16 (λ i. cell_of (state.static y.state i)) statics

-- ---- what the state does not use
-- a value past the end of registers, cells or statics
unused_value : (vs : List machine.Value) (k : ℕ) → length vs ≤ k → cell_of (get_or vs k null) ≡ zero_value
unused_value vs k l = ap cell_of (get_or-eq_default vs null l)

no_frame_lem : (fs : List state.Frame) (k : ℕ) → length fs ≤ k → frame_at fs k ≡ no_frame
no_frame_lem [] k l = refl
no_frame_lem (f ∷ fs) k l = rw (ne_eqb k (length fs) (λ e. omega arith)) (no_frame_lem fs k (omega arith))

-- "unused frames, objects, cells, statics and registers are zero", in slices of the sizes or more
module _ (y : Stopped) where
  module _ (frames : List Frame) (room : 32 ≤ length frames) (k : ℕ) (l : k < 32) (d : Frame) where
    left_frame : get_or (frames_left (ran y) frames) k d ≡ frame_of (frame_at y.state.frames k)
    unfolding frames_of
    left_frame = laid_at zero_frame 32 (λ i. frame_of (frame_at y.state.frames i)) frames k d l room

    pub unused_frame : length y.state.frames ≤ k → get_or (frames_left (ran y) frames) k d ≡ zero_frame
    unused_frame h = left_frame ∙ ap frame_of (no_frame_lem y.state.frames k h)

    pub unused_register : (r : ℕ) (v : Value) → length (frame_at y.state.frames k).registers ≤ r → r < 16
        → get_or (get_or (frames_left (ran y) frames) k d).registers r v ≡ zero_value
    unused_register r v h m =
        ap (λ (f : Frame). get_or f.registers r v) left_frame
        ∙ getD_tab 16 (λ r. cell_of (state.register (frame_at y.state.frames k) r)) r v m
        ∙ unused_value (frame_at y.state.frames k).registers r h

  module _ (objects : List Object) (room : 256 ≤ length objects) (k : ℕ) (l : k < 256) (d : Object) where
    left_object : get_or (objects_left (ran y) objects) k d ≡ object_in y.state k
    unfolding objects_of
    left_object = laid_at zero_object 256 (object_in y.state) objects k d l room

    pub unused_object : length y.state.objects ≤ k → get_or (objects_left (ran y) objects) k d ≡ zero_object
    unused_object h = left_object ∙ rw (le-ltb k (length y.state.objects) h) refl

    zero_cell : (x : ℕ) (v : Value) → get_or (object_at y.state k).cells x null ≡ null → x < 16
        → get_or (get_or (objects_left (ran y) objects) k d).cells x v ≡ zero_value
    zero_cell x v h m =
        ap (λ (o : Object). get_or o.cells x v) left_object
        ∙ pick_cases (λ (o : Object). get_or o.cells x v ≡ zero_value) (ltb k (length y.state.objects))
        (object_of (object_at y.state k)) zero_object
        (λ _. getD_tab 16 (λ x. cell_of (get_or (object_at y.state k).cells x null)) x v m ∙ ap cell_of h)
        (λ _. getD_tab 16 (λ _. zero_value) x v m)

  module _ (statics : List Value) (room : 16 ≤ length statics) (k : ℕ) (l : k < 16) (d : Value) where
    pub unused_static : length y.state.statics ≤ k → get_or (statics_left (ran y) statics) k d ≡ zero_value
    unfolding statics_of
    unused_static h =
        laid_at zero_value 16 (λ i. cell_of (state.static y.state i)) statics k d l room
        ∙ unused_value y.state.statics k h

-- a cell of a field that the object's class does not have
pub unused_cell : (p : Program) (n : ℕ) (objects : List Object) → 256 ≤ length objects → (k : ℕ) → k < 256
    → (d : Object) (x : ℕ) (v : Value)
    → has_field p (object_at (bounded p n).state k).class x ≡ false → x < 16
    → get_or (get_or (objects_left (ran (bounded p n)) objects) k d).cells x v ≡ zero_value
unused_cell p n objects room k l d x v h =
    zero_cell (bounded p n) objects room k l d x v
    (subst (λ (s : State). NotHad p (object_at s k)) (sym (state_left p n)) (cell_not_had p (bounded p n).count k) x h)
