-- An object that is made or raised, a throw and a fault, in the lent slices. Assumes nothing.
use mathlib.Core.Path.{◌≡◌, refl, ap, ◌∙◌}
use mathlib.Core.List.{List, [], ◌∷◌, ◌++◌}
use mathlib.Core.Option.{none, some}
use Prim.Native.Nat.{ℕ, suc, ◌+◌, ◌≤◌, ◌<◌}
use native.Mathlib.Omega.{arith}
use lib.Dec.{ltb}
use lib.ListN.{length, length-append}
use borrow.Author.Tests.{ltb-true, ltb-false, lt-ltb, le-ltb}
use Rattle.text.proofs.Cases.{by_test}
use Rattle.instruction.specs.Word.{pick}
use Rattle.program.specs.Program.{Program}
use Rattle.machine.specs.declared.Effect.TheVariants.{Make, RaiseNew}
use Rattle.machine.specs.declared.Value as machine
use Rattle.machine.specs.declared.Value.TheVariants.{Reference}
use Rattle.machine.specs.State.{Frame, State, raised}
use Rattle.machine.specs.Run as run
use Rattle.machine.specs.Run.{with_frames, fresh, apply, step}
use Rattle.turn.specs.declared.Status.{Status}
use Rattle.turn.specs.declared.Status.TheVariants.{Running, Raised}
use Rattle.turn.specs.declared.Halt.TheVariants.{FullStore}
use Rattle.turn.specs.Stop.{room, stop_of}
use Rattle.cells.specs.declared.Frame as cells
use Rattle.cells.specs.Cells.{cell_of, frames_of}
use Rattle.cells.specs.Reads.{reference_of}
use native.Mathlib.Numerals.{add-one}
use Rattle.cells.proofs.Values.{reference_is}
use Rattle.laid.proofs.Frames.{frames_length, frames_same}
use Rattle.laid.proofs.Objects.{object_make, objects_same}
use Rattle.laid.proofs.Statics.{statics_same}
use Rattle.site.specs.Work.{nowhere}
use Rattle.shift.specs.declared.At.{At}
use Rattle.shift.specs.declared.Shift.{Shift}
use Rattle.shift.specs.declared.Stop.TheVariants as stop
use Rattle.shift.specs.Places.{top_of}
use Rattle.shift.specs.Shift.{with_status, only, one_more, grown_by, made_by, raised_new_by}
use Rattle.drive.specs.Models.{Lent}
use Rattle.turns.specs.Turns.{resumed, moved, wrote, entered}
use Rattle.lies.specs.Lies.{status_of, Waiting}
use Rattle.shifting.specs.Shifting.{Shifted, written, frames_by, Topped}
use Rattle.shifting.proofs.Looked.{top_of_lem}
use Rattle.shifting.proofs.Written.{popped_none, resumed_none, entered_none, frames_unshifted, nothing_written, address_on}
use Rattle.shifting.proofs.Written.{register_on}
use Rattle.shifting.proofs.Ways.{frames_end_lem, objects_end_lem, deep, few_below, all_wait, goes_on_lem, goes_alone, stops}

module _ (t : List ℕ) (p : Program) (s : State) (before now : Lent) (h : At) (f : Frame) (rest : List Frame)
    (c : Topped s before now h.run f rest) where
  -- ---- one object more

  -- the top frame goes one on with a register written
  wrote_frames_lem : (e : Shift) (a : ℕ) (v : machine.Value) → a < length f.registers → e.popped ≡ nowhere → e.resumed ≡ nowhere
      → e.moved ≡ length rest → e.next ≡ suc f.address → e.wrote ≡ length rest → e.to ≡ a → e.value ≡ cell_of v → e.entered ≡ nowhere
      → frames_by now.frames e ≡ frames_of (with_frames s (run.wrote f a v ∷ rest)) before.frames
  wrote_frames_lem e a v l none-popped none-resumed moves next writes to value none-entered =
      let few : length rest < 32 = few_below s before now h.run f rest c in
      let enough : 32 ≤ length before.frames = c.roomy.frames in
      let end : length now.frames ≤ nowhere = frames_end_lem s before now h.run c.roomy c.lies in
      let g : Frame = run.moved f (suc f.address) in
      let there : State = with_frames s (g ∷ rest) in
      let u : State = with_frames s (run.wrote f a v ∷ rest) in
      let size : length (frames_of u before.frames) ≡ length before.frames = frames_length u before.frames in
      let on : moved now.frames e ≡ frames_of there before.frames =
      rw (moves, next, c.lies.frames) (address_on s before.frames f rest c.frames few enough (suc f.address)) in
      let put : wrote (frames_of there before.frames) e ≡ frames_of u before.frames =
      rw (writes, to, value) (register_on there before.frames g rest refl few enough a v l c.small) in
      ap (λ (fs : List cells.Frame). entered (wrote (moved (resumed fs e) e) e) e) (popped_none now.frames e end none-popped)
      ∙ ap (λ (fs : List cells.Frame). entered (wrote (moved fs e) e) e) (resumed_none now.frames e end none-resumed)
      ∙ ap (λ (fs : List cells.Frame). entered (wrote fs e) e) on
      ∙ ap (λ (fs : List cells.Frame). entered fs e) put
      ∙ entered_none (frames_of u before.frames) e (omega (arith, size, c.roomy.frames_end)) none-entered

  -- no frame changes
  kept_frames : (e : Shift) → e.popped ≡ nowhere → e.resumed ≡ nowhere → e.moved ≡ nowhere → e.wrote ≡ nowhere → e.entered ≡ nowhere
      → frames_by now.frames e ≡ now.frames
  kept_frames e none-popped none-resumed none-moved none-wrote none-entered =
      let end : length now.frames ≤ nowhere = frames_end_lem s before now h.run c.roomy c.lies in
      ap (λ (fs : List cells.Frame). entered fs e)
      (frames_unshifted now.frames e end none-popped none-resumed none-moved none-wrote)
      ∙ entered_none now.frames e end none-entered

  -- the next state u has an object of class n more, and frames that lie in the slices
  module _ (n place to : ℕ) (x : Status) (u : State) (next : step p s ≡ u) (objects : u.objects ≡ s.objects ++ fresh p n ∷ [])
      (statics : s.statics ≡ u.statics) (status : status_of x ≡ u.status) (depth : h.run.tally.depth ≡ length u.frames)
      (few-frames : length u.frames ≤ 32) (waiting : Waiting u.frames)
      (frames : length s.objects < 256 → frames_by now.frames (one_more h n place to x) ≡ frames_of u before.frames) where
    grown_going : stop_of p s ≡ none → length s.objects < 256 → Shifted p s before now h.run (written t now (one_more h n place to x))
    grown_going free space =
        let more : length u.objects ≡ length s.objects + 1 = ap length objects ∙ length-append s.objects (fresh p n ∷ []) in
        goes_alone t p s before now h.run (one_more h n place to x) u next free c.going refl refl
        (record {
          depth = depth;
          made = omega (arith, more, c.lies.made);
          status = status;
          frames = frames space;
          objects = rw (c.lies.objects, c.lies.made) (object_make s u before.objects p n space c.roomy.objects objects);
          statics = c.lies.statics ∙ statics_same s u before.statics statics;
          few_frames = few-frames;
          few_objects = omega (arith, more, space);
          waiting = waiting;
        })

    -- "20: new-instance at 256 objects", "a full store gives 20": the step is not made
    grown_lies : stop_of p s ≡ pick (ltb (length s.objects) 256) none (some FullStore)
        → Shifted p s before now h.run (written t now (grown_by h n place to x))
    grown_lies free =
        let many : h.run.tally.made ≡ length s.objects = c.lies.made in
        by_test (ltb h.run.tally.made 256)
        (λ q.
        let space : length s.objects < 256 = omega (arith, many, ltb-true h.run.tally.made 256 q) in
        rw q (grown_going (free ∙ rw (lt-ltb (length s.objects) 256 space) refl) space))
        (λ q.
        let full : 256 ≤ length s.objects = omega (arith, many, ltb-false h.run.tally.made 256 q) in
        rw q
        (stops t p s before now h.run stop.Store c.roomy c.lies
        (free ∙ rw (le-ltb (length s.objects) 256 full) refl, refl)))

  -- new-instance
  pub make_lies : (a n : ℕ) → a < length f.registers → h.pc ≡ f.address → h.run.tally.status ≡ Running
      → step p s ≡ apply p s f rest (Make a n) → stop_of p s ≡ room s (Make a n)
      → Shifted p s before now h.run (written t now (made_by h a n))
  make_lies a n l at status next free =
      let u : State = apply p s f rest (Make a n) in
      let v : machine.Value = Reference (length s.objects) in
      let depth = deep s before now h.run f rest c in
      let top = top_of_lem h.run.tally.depth (length rest) depth in
      grown_lies n (top_of h.run.tally.depth) a h.run.tally.status u next refl refl (ap status_of status) depth
      (few_below s before now h.run f rest c)
      (all_wait s before now h.run f rest c)
      (λ few.
      wrote_frames_lem (one_more h n (top_of h.run.tally.depth) a h.run.tally.status) a v l refl refl top
      (add-one h.pc ∙ ap suc at)
      top
      refl
      (ap reference_of c.lies.made ∙ reference_is (length s.objects) (omega (arith, few)))
      refl
      ∙ frames_same (with_frames s (run.wrote f a v ∷ rest)) u before.frames refl)
      free

  -- an object that the instruction raises
  pub raise_lies : (n : ℕ) → step p s ≡ apply p s f rest (RaiseNew n) → stop_of p s ≡ room s (RaiseNew n)
      → Shifted p s before now h.run (written t now (raised_new_by h n))
  raise_lies n next free =
      let u : State = apply p s f rest (RaiseNew n) in
      let x : Status = Raised h.run.tally.made in
      grown_lies n nowhere 16 x u next refl refl (ap raised c.lies.made) c.lies.depth c.lies.few_frames c.lies.waiting
      (λ _.
      kept_frames (one_more h n nowhere 16 x) refl refl refl refl refl
      ∙ c.lies.frames
      ∙ frames_same s u before.frames refl)
      free

  -- ---- the status alone

  pub status_lies : (x : Status) → step p s ≡ run.with_status s (status_of x) → stop_of p s ≡ none
      → Shifted p s before now h.run (written t now (only (with_status h.run x)))
  status_lies x next free =
      let u : State = run.with_status s (status_of x) in
      goes_on_lem t p s before now h.run (only (with_status h.run x)) u next free c.going refl
      (rw
      (nothing_written t now (with_status h.run x) (frames_end_lem s before now h.run c.roomy c.lies)
      (objects_end_lem s before now h.run c.roomy c.lies))
      (record {
        depth = c.lies.depth;
        made = c.lies.made;
        status = refl;
        frames = c.lies.frames ∙ frames_same s u before.frames refl;
        objects = c.lies.objects ∙ objects_same s u before.objects refl;
        statics = c.lies.statics ∙ statics_same s u before.statics refl;
        few_frames = c.lies.few_frames;
        few_objects = c.lies.few_objects;
        waiting = c.lies.waiting;
      }))
