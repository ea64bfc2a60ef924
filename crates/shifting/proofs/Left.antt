-- A top frame that is left: it returns, or a pending object takes it; in the lent slices. Assumes nothing.
use mathlib.Core.Path.{◌≡◌, refl, sym, ap, ◌∙◌}
use mathlib.Core.List.{List, [], ◌∷◌}
use mathlib.Core.Option.{none}
use Prim.Native.Nat.{ℕ, suc, ◌≤◌, ◌<◌}
use native.Mathlib.Omega.{arith}
use lib.ListN.{length}
use borrow.Author.Tests.{lt-ltb, le-ltb}
use Rattle.std.specs.Prelude.{Some, None}
use Rattle.program.specs.Lists.{Every}
use Rattle.program.specs.Program.{Program, handler_target}
use Rattle.machine.specs.declared.Value as machine
use Rattle.machine.specs.declared.Value.TheVariants.{Number, Reference}
use Rattle.machine.specs.State.{Frame, State}
use Rattle.machine.specs.Run as run
use Rattle.machine.specs.Run.{with_frames, returned, dropped, step}
use Rattle.machine.specs.Shaped.{Known}
use Rattle.turn.specs.declared.Status.{Status}
use Rattle.turn.specs.declared.Status.TheVariants.{Running, Raised, Done, Uncaught}
use Rattle.turn.specs.Stop.{stop_of}
use Rattle.cells.specs.declared.Frame as cells
use Rattle.cells.specs.Cells.{cell_of, frames_of}
use Rattle.cells.specs.Reads.{cell_in}
use native.Mathlib.Numerals.{add-one}
use Rattle.cells.proofs.Values.{reference_is}
use Rattle.laid.proofs.Frames.{frames_length, frames_same, top_pop}
use Rattle.laid.proofs.Objects.{objects_same}
use Rattle.laid.proofs.Statics.{statics_same}
use Rattle.site.specs.Work.{nowhere}
use Rattle.shift.specs.declared.At.{At}
use Rattle.shift.specs.declared.Run.{Run}
use Rattle.shift.specs.declared.Shift.{Shift}
use Rattle.shift.specs.Shift.{tallied, counted, leaving, following_of, exited_by, unwound_by}
use Rattle.drive.specs.Models.{Lent}
use Rattle.turns.specs.Turns.{popped, resumed, moved, wrote, entered}
use Rattle.lies.specs.Lies.{status_of, Waiting}
use Rattle.shifting.specs.Shifting.{Shifted, written, frames_by, Topped}
use Rattle.shifting.proofs.Looked.{top_of_lem, below_of_lem, below_none}
use Rattle.shifting.proofs.Written.{popped_none, resumed_none, moved_none, wrote_none, entered_none, made_none, address_on, result_on}
use Rattle.shifting.proofs.Ways.{frames_end_lem, objects_end_lem, deep, few_below, all_wait, goes_alone}

-- a value that refers to none but the objects made, of which there are at most 256
cell_in_lem : (n : ℕ) (v : machine.Value) → n ≤ 256 → Known n v → cell_in v ≡ cell_of v
cell_in_lem n (Number z) few k = refl
cell_in_lem n (Reference o) few k = reference_is o (omega (arith, few, k))

-- where all wait, all but the top one do
waits : (fs : List Frame) → Every (λ (g : Frame). g.address < 32) fs → Waiting fs
waits [] w = tt
waits (f ∷ rest) w = w.1

-- the frame left was the last one, or not
leaving_last : (k : Run) (last other : Status) → k.tally.depth ≡ 1 → leaving k last other ≡ counted k (tallied 0 k.tally.made last)
leaving_last k last other e = rw (le-ltb 1 k.tally.depth (omega (arith, e))) refl

leaving_other : (k : Run) (last other : Status) (n : ℕ) → k.tally.depth ≡ suc (suc n)
    → leaving k last other ≡ counted k (tallied (suc n) k.tally.made other)
leaving_other k last other n e =
    rw (lt-ltb 1 k.tally.depth (omega (arith, e)))
    (ap (λ (d : ℕ). counted k (tallied d k.tally.made other)) (omega (arith, e)))

-- the top frame g of a state takes a result and an address
resumed_frames : (s : State) (before : List cells.Frame) (g : Frame) (rest : List Frame) (e : Shift) (to : ℕ) (v : machine.Value)
    → s.frames ≡ g ∷ rest → length rest < 32 → 32 ≤ length before → length before ≤ nowhere
    → e.resumed ≡ length rest → e.value ≡ cell_of v → e.moved ≡ length rest → e.next ≡ to → e.wrote ≡ nowhere → e.entered ≡ nowhere
    → entered (wrote (moved (resumed (frames_of s before) e) e) e) e ≡ frames_of (with_frames s (run.resumed g to v ∷ rest)) before
resumed_frames s before g rest e to v is few enough end resumes value moves next writes enters =
    let with : State = with_frames s (run.resumed g g.address v ∷ rest) in
    let u : State = with_frames s (run.resumed g to v ∷ rest) in
    let size : length (frames_of u before) ≡ length before = frames_length u before in
    let first : resumed (frames_of s before) e ≡ frames_of with before = rw (resumes, value) (result_on s before g rest is few enough v) in
    let second : moved (frames_of with before) e ≡ frames_of u before =
    rw (moves, next) (address_on with before (run.resumed g g.address v) rest refl few enough to) in
    ap (λ (fs : List cells.Frame). entered (wrote (moved fs e) e) e) first
    ∙ ap (λ (fs : List cells.Frame). entered (wrote fs e) e) second
    ∙ ap (λ (fs : List cells.Frame). entered fs e) (wrote_none (frames_of u before) e (omega (arith, size, end)) writes)
    ∙ entered_none (frames_of u before) e (omega (arith, size, end)) enters

module _ (t : List ℕ) (p : Program) (s : State) (before now : Lent) (h : At) (f : Frame) where
  module _ (rest : List Frame) (c : Topped s before now h.run f rest) where
    popped_first : (e : Shift) → e.popped ≡ length rest → popped now.frames e ≡ frames_of (with_frames s rest) before.frames
    popped_first e pops =
        rw (pops, c.lies.frames)
        (top_pop s (with_frames s rest) before.frames f rest c.frames refl (few_below s before now h.run f rest c) c.roomy.frames)

    -- frames that change while objects and statics stay
    frames_lie : (e : Shift) (u : State) → step p s ≡ u → stop_of p s ≡ none → u.objects ≡ s.objects → u.statics ≡ s.statics
        → e.made ≡ nowhere → e.pass.count ≡ 0 → (d : ℕ) (x : Status) → e.run ≡ counted h.run (tallied d h.run.tally.made x)
        → d ≡ length u.frames → status_of x ≡ u.status → length u.frames ≤ 32 → Waiting u.frames
        → frames_by now.frames e ≡ frames_of u before.frames → Shifted p s before now h.run (written t now e)
    frames_lie e u next free objects statics makes alone d x runs depth status few waiting frames =
        goes_alone t p s before now h.run e u next free (ap (λ (k : Run). k.stop) runs ∙ c.going) (ap (λ (k : Run). k.left) runs) alone
        (record {
          depth = ap (λ (k : Run). k.tally.depth) runs ∙ depth;
          made = ap (λ (k : Run). k.tally.made) runs ∙ c.lies.made ∙ sym (ap length objects);
          status = ap (λ (k : Run). status_of k.tally.status) runs ∙ status;
          frames = frames;
          objects =
              made_none now.objects e (objects_end_lem s before now h.run c.roomy c.lies) makes
              ∙ c.lies.objects
              ∙ objects_same s u before.objects (sym objects);
          statics = c.lies.statics ∙ statics_same s u before.statics (sym statics);
          few_frames = few;
          few_objects = rw objects c.lies.few_objects;
          waiting = waiting;
        })

    -- the top frame is dropped, and nothing else is written
    dropped_by : (e : Shift) (u : State) → step p s ≡ u → stop_of p s ≡ none → u.frames ≡ rest → u.objects ≡ s.objects → u.statics ≡ s.statics
        → (x : Status) → e.run ≡ counted h.run (tallied (length rest) h.run.tally.made x) → status_of x ≡ u.status
        → e.popped ≡ length rest → e.resumed ≡ nowhere → e.moved ≡ nowhere → e.wrote ≡ nowhere → e.made ≡ nowhere → e.entered ≡ nowhere
        → e.pass.count ≡ 0 → Shifted p s before now h.run (written t now e)
    dropped_by e u next free is objects statics x runs status pops resumes moves writes makes enters alone =
        let left : State = with_frames s rest in
        let size : length (frames_of left before.frames) ≡ length before.frames = frames_length left before.frames in
        let end : length (frames_of left before.frames) ≤ nowhere = omega (arith, size, c.roomy.frames_end) in
        let few : length rest < 32 = few_below s before now h.run f rest c in
        frames_lie e u next free objects statics makes alone (length rest) x runs (sym (ap length is)) status (rw is (omega (arith, few)))
        (rw is (waits rest (all_wait s before now h.run f rest c)))
        (ap (λ (fs : List cells.Frame). entered (wrote (moved (resumed fs e) e) e) e) (popped_first e pops)
        ∙ ap (λ (fs : List cells.Frame). entered (wrote (moved fs e) e) e) (resumed_none (frames_of left before.frames) e end resumes)
        ∙ ap (λ (fs : List cells.Frame). entered (wrote fs e) e) (moved_none (frames_of left before.frames) e end moves)
        ∙ ap (λ (fs : List cells.Frame). entered fs e) (wrote_none (frames_of left before.frames) e end writes)
        ∙ entered_none (frames_of left before.frames) e end enters
        ∙ frames_same left u before.frames (sym is))

    -- "takes the top frame's handler at its address (the object becomes the result)"
    pub caught_lies : (o m j : ℕ) → o < length s.objects → step p s ≡ with_frames s (run.resumed f (handler_target p m j) (Reference o) ∷ rest)
        → stop_of p s ≡ none → Shifted p s before now h.run (written t now (unwound_by p h o m (Some j)))
    caught_lies o m j l next free =
        let depth : h.run.tally.depth ≡ length (f ∷ rest) = deep s before now h.run f rest c in
        let top = top_of_lem h.run.tally.depth (length rest) depth in
        let end : length now.frames ≤ nowhere = frames_end_lem s before now h.run c.roomy c.lies in
        let e : Shift = unwound_by p h o m (Some j) in
        frames_lie e (with_frames s (run.resumed f (handler_target p m j) (Reference o) ∷ rest)) next free refl refl refl refl h.run.tally.depth Running
        refl depth refl (few_below s before now h.run f rest c) (all_wait s before now h.run f rest c)
        (ap (λ (fs : List cells.Frame). entered (wrote (moved (resumed fs e) e) e) e) (popped_none now.frames e end refl ∙ c.lies.frames)
        ∙ resumed_frames s before.frames f rest e (handler_target p m j) (Reference o) c.frames (few_below s before now h.run f rest c)
        c.roomy.frames c.roomy.frames_end top (reference_is o (omega (arith, l, c.lies.few_objects))) top (omega arith) refl refl)

  -- "drops the frame"; "uncaught (last frame dropped)"
  pub drop_lies : (rest : List Frame) (c : Topped s before now h.run f rest) (o m : ℕ) → step p s ≡ dropped s o rest → stop_of p s ≡ none
      → Shifted p s before now h.run (written t now (unwound_by p h o m None))
  drop_lies [] c o m next free =
      let depth : h.run.tally.depth ≡ 1 = deep s before now h.run f [] c in
      dropped_by [] c _ (dropped s o []) next free refl refl refl (Uncaught o) (leaving_last h.run (Uncaught o) (Raised o) depth) refl
      (top_of_lem h.run.tally.depth 0 depth) refl refl refl refl refl refl
  drop_lies (g ∷ rest) c o m next free =
      let depth : h.run.tally.depth ≡ suc (suc (length rest)) = deep s before now h.run f (g ∷ rest) c in
      dropped_by (g ∷ rest) c _ (dropped s o (g ∷ rest)) next free refl refl refl (Raised o)
      (leaving_other h.run (Uncaught o) (Raised o) (length rest) depth) refl (top_of_lem h.run.tally.depth (suc (length rest)) depth) refl refl refl refl
      refl refl

  -- "done (last frame returns)"
  pub last_lies : (c : Topped s before now h.run f []) (b : ℕ) (v : machine.Value) → step p s ≡ returned s v [] → stop_of p s ≡ none
      → Shifted p s before now h.run (written t now (exited_by h b v))
  last_lies c b v next free =
      let depth : h.run.tally.depth ≡ 1 = deep s before now h.run f [] c in
      let none = below_none h.run.tally.depth depth in
      dropped_by [] c _ (returned s v []) next free refl refl refl Done (leaving_last h.run Done Running depth) refl
      (top_of_lem h.run.tally.depth 0 depth) none none refl refl refl refl

  -- "A caller stays at its call until the return, then goes one on; its result becomes the value"
  pub return_lies : (g : Frame) (rest : List Frame) (c : Topped s before now h.run f (g ∷ rest)) (b : ℕ) (v : machine.Value) → b ≡ g.address
      → Known (length s.objects) v → step p s ≡ returned s v (g ∷ rest) → stop_of p s ≡ none
      → Shifted p s before now h.run (written t now (exited_by h b v))
  return_lies g rest c b v at known next free =
      let depth : h.run.tally.depth ≡ suc (suc (length rest)) = deep s before now h.run f (g ∷ rest) c in
      let few : length (g ∷ rest) < 32 = few_below s before now h.run f (g ∷ rest) c in
      let all : Every (λ (g : Frame). g.address < 32) (g ∷ rest) = all_wait s before now h.run f (g ∷ rest) c in
      let below = below_of_lem h.run.tally.depth (length rest) depth in
      let onward : following_of b ≡ suc g.address = rw (at, lt-ltb g.address 4294967295 (omega (arith, all.0))) (add-one g.address) in
      let e : Shift = exited_by h b v in
      frames_lie (g ∷ rest) c e (returned s v (g ∷ rest)) next free refl refl refl refl (suc (length rest)) Running
      (leaving_other h.run Done Running (length rest) depth) refl refl (omega (arith, few)) all.1
      (ap (λ (fs : List cells.Frame). entered (wrote (moved (resumed fs e) e) e) e)
      (popped_first (g ∷ rest) c e (top_of_lem h.run.tally.depth (suc (length rest)) depth))
      ∙ resumed_frames (with_frames s (g ∷ rest)) before.frames g rest e (suc g.address) v refl (omega (arith, few)) c.roomy.frames
      c.roomy.frames_end below (cell_in_lem (length s.objects) v c.lies.few_objects known) below onward refl refl
      ∙ frames_same (with_frames (with_frames s (g ∷ rest)) (run.resumed g (suc g.address) v ∷ rest)) (returned s v (g ∷ rest)) before.frames refl)
