-- What is printed and told of a run, from what the stepper and the report did. Assumes nothing.
use mathlib.Core.Path.{◌≡◌, refl, ap, ◌∙◌}
use mathlib.Core.List.{List, [], ◌∷◌}
use Prim.Native.Nat.{ℕ, ◌-◌, ◌≤◌, ◌<◌}
use native.Mathlib.Omega.{arith}
use lib.Dec.{ltb}
use lib.ListN.{length, get_or, get_or-eq_default}
use borrow.Author.Tests.{ltb-true, ltb-false, eq-eqb}
use Rattle.text.proofs.Cases.{by_test}
use Rattle.program.specs.Program.{Program, method_count, registers}
use Rattle.program.specs.Tables.{program_in}
use Rattle.program.proofs.Tables.{program_of_tables}
use Rattle.reader.specs.Formed.{Formed}
use Rattle.reader.specs.Read.{Reading, refused, taken, read_program, tables_after}
use Rattle.reader.proofs.WellFormed.{well_formed}
use Rattle.machine.specs.State.{Frame, Status, running, raised, done, uncaught, failed, top}
use Rattle.memory.specs.Memory.{frame_word, frame_at, frames_of, objects_of, statics_of}
use Rattle.memory.specs.Writes.{frame_place}
use Rattle.bounded.specs.declared.Outcome.{Outcome}
use Rattle.bounded.specs.Bounded.{bounded}
use Rattle.bounded.specs.Step.{Stepping, turned_down, ran, stepping, stepping_number, stepping_values, frames_after, objects_after, statics_after, tables_left, number_of, values_of, pending_in, pending_values}
use Rattle.bounded.proofs.Laws.{frames_most, objects_most, text_refused, program_ran}
use Rattle.bounded.proofs.Outcomes.{pending_for, outcome_for, outcome_is}
use Rattle.rows.specs.Rows.{state_rows}
use Rattle.rows.specs.State.{state_text}
use Rattle.rows.proofs.Lying.{state_rows_lem}
use Rattle.rows.proofs.Words.{frame_at_lem}
use Rattle.report.specs.Run.{stopped_text, printed_run}
use Rattle.words.specs.Told.{run_told}
use Rattle.response.specs.Inside.{top_of}
use Rattle.response.specs.Stepped.{run_said_of, run_said, stopped_told, run_told_of, run_told_for}

-- what the stepper did with a panel in lent memory: the outcome, the tables and the words after it
pub record Stepped (panel : List ℕ) (n : ℕ) (t fs os ss : List ℕ) (o : Outcome) (t₁ fs₁ os₁ ss₁ : List ℕ) : Type 0 where
  pub frames_lent : 608 ≡ length fs
  pub objects_lent : 4352 ≡ length os
  pub statics_lent : 16 ≡ length ss
  pub number : number_of o ≡ stepping_number (stepping panel n fs os ss)
  pub values : values_of o ≡ stepping_values (stepping panel n fs os ss)
  pub frames : fs₁ ≡ frames_after (stepping panel n fs os ss) fs
  pub objects : os₁ ≡ objects_after (stepping panel n fs os ss) os
  pub statics : ss₁ ≡ statics_after (stepping panel n fs os ss) ss
  pub tables : t₁ ≡ tables_left (stepping panel n fs os ss) (read_program panel) t

-- ---- a program that is read
pub registers_few : (p : Program) → Formed p → (m : ℕ) → registers p m ≤ 16
registers_few p formed m =
    by_test (ltb m (method_count p)) (λ t. (formed.methods m (ltb-true m (method_count p) t)).registers_to)
    (λ t.
    let out : method_count p ≤ m = ltb-false m (method_count p) t in
    rw get_or-eq_default (omega arith))

pending_back : (e : Status) → pending_values (pending_for e) ≡ pending_in e
pending_back running = refl
pending_back (raised o) = refl
pending_back done = refl
pending_back (uncaught o) = refl
pending_back (failed e) = refl

-- the place of the top frame, from its words
top_is : (fs : List Frame) → frame_at fs (length fs - 1) ≡ top fs
top_is [] = refl
top_is (f ∷ rest) =
    let last : length (f ∷ rest) - 1 ≡ length rest = omega arith in
    rw (eq-eqb (length (f ∷ rest) - 1) (length rest) last)

module _ (panel : List ℕ) (n : ℕ) (t fs os ss : List ℕ) (o : Outcome) (t₁ fs₁ os₁ ss₁ : List ℕ)
    (d : Stepped panel n t fs os ss o t₁ fs₁ os₁ ss₁) where
  is_outcome : (x : Stepping) → stepping panel n fs os ss ≡ x → o ≡ outcome_for x
  is_outcome x e = outcome_is x o (d.number ∙ ap stepping_number e) (d.values ∙ ap stepping_values e)

  module _ (p : Program) (e : read_program panel ≡ taken p) where
    formed : Formed p
    formed = well_formed panel p e

    ran_there : stepping panel n fs os ss ≡ ran (bounded p n)
    ran_there =
        program_ran panel n fs os ss p e (omega (arith, d.frames_lent)) (omega (arith, d.objects_lent)) (omega (arith, d.statics_lent))

    is_program : program_in t₁ ≡ p
    is_program =
        ap program_in
        (d.tables
        ∙ ap (λ (y : Stepping). tables_left y (read_program panel) t) ran_there
        ∙ ap (λ (r : Reading). tables_after r t) e)
        ∙ program_of_tables p formed.limited

    is_frames : fs₁ ≡ frames_of (bounded p n).state fs
    is_frames = d.frames ∙ ap (λ (y : Stepping). frames_after y fs) ran_there

    is_objects : os₁ ≡ objects_of (bounded p n).state os
    is_objects = d.objects ∙ ap (λ (y : Stepping). objects_after y os) ran_there

    is_statics : ss₁ ≡ statics_of (bounded p n).state ss
    is_statics = d.statics ∙ ap (λ (y : Stepping). statics_after y ss) ran_there

    rows_are : state_rows p (frames_of (bounded p n).state fs) (length (bounded p n).state.frames) (objects_of (bounded p n).state os) (length (bounded p n).state.objects) (statics_of (bounded p n).state ss)
        ≡ state_text p (bounded p n).state
    rows_are =
        state_rows_lem p (bounded p n).state fs os ss (registers_few p formed) formed.limited.fields formed.limited.statics
        (frames_most p n) (objects_most p n)
        (omega (arith, d.frames_lent)) (omega (arith, d.objects_lent)) (omega (arith, d.statics_lent))

    printed_taken : printed_run o (program_in t₁) fs₁ os₁ ss₁ ≡ stopped_text p (bounded p n)
    printed_taken =
        rw (is_outcome (ran (bounded p n)) ran_there, is_program, is_frames, is_objects, is_statics, pending_back (bounded p n).state.status, rows_are)

    word_is : (j : ℕ) → j < 19 → get_or fs₁ (frame_place (top_of o) j) 0 ≡ frame_word (top (bounded p n).state.frames) j
    word_is j l =
        rw (is_outcome (ran (bounded p n)) ran_there, is_frames)
        (frame_at_lem (bounded p n).state fs (omega (arith, d.frames_lent)) (length (bounded p n).state.frames - 1) j (omega (arith, frames_most p n)) l
        ∙ ap (λ (f : Frame). frame_word f j) (top_is (bounded p n).state.frames))

    told_taken : (table : List ℕ) → run_told table o (get_or fs₁ (frame_place (top_of o) 0) 0) (get_or fs₁ (frame_place (top_of o) 1) 0) ≡ stopped_told table (bounded p n)
    unfolding frame_word
    told_taken table =
        rw (word_is 0 (omega arith), word_is 1 (omega arith), is_outcome (ran (bounded p n)) ran_there)

  -- ---- what is printed and told
  printed_by : (r : Reading) → read_program panel ≡ r → printed_run o (program_in t₁) fs₁ os₁ ss₁ ≡ run_said_of r n
  printed_by (refused number line) e =
      rw (is_outcome (turned_down number line) (text_refused panel n fs os ss number line e))
  printed_by (taken p) e = printed_taken p e

  pub run_printed : printed_run o (program_in t₁) fs₁ os₁ ss₁ ≡ run_said panel n
  unfolding run_said
  run_printed = printed_by (read_program panel) refl

  told_by : (table : List ℕ) (r : Reading) → read_program panel ≡ r
      → run_told table o (get_or fs₁ (frame_place (top_of o) 0) 0) (get_or fs₁ (frame_place (top_of o) 1) 0) ≡ run_told_of table r n
  told_by table (refused number line) e =
      rw (is_outcome (turned_down number line) (text_refused panel n fs os ss number line e))
  told_by table (taken p) e = told_taken p e table

  pub run_told_lem : (table : List ℕ) → run_told table o (get_or fs₁ (frame_place (top_of o) 0) 0) (get_or fs₁ (frame_place (top_of o) 1) 0) ≡ run_told_for table panel n
  unfolding run_told_for
  run_told_lem table = told_by table (read_program panel) refl
