-- Laws of the history: a step makes a call exactly where the top frame's instruction has the effect of one, and an exception
-- leaves a method exactly where no handler takes it. Assumes nothing.
use mathlib.Core.Path.{◌≡◌, refl, ap, ◌∙◌}
use mathlib.Core.List.{List, [], ◌∷◌, ◌++◌, append-nil}
use Prim.Native.Nat.{ℕ, suc, ◌≤◌, ◌<◌}
use native.Mathlib.Nat.{lt_irrefl}
use native.Mathlib.Omega.{arith}
use lib.ListN.{length}
use borrow.Author.Tests.{lt-ltb, le-ltb}
use Rattle.std.specs.Prelude.{Option, Some, None}
use Rattle.instruction.specs.declared.Instruction.TheVariants.{InvokeVirtual, InvokeStatic}
use Rattle.program.specs.Program.{Program}
use Rattle.search.specs.Search.{virtual_callee}
use Rattle.machine.specs.declared.Value.TheVariants.{Reference}
use Rattle.machine.specs.declared.Effect.{Effect}
use Rattle.machine.specs.declared.Effect.TheVariants.{Next, Jump, Write, Load, LoadStatic, Make, Store, StoreStatic, Call, Exit}
use Rattle.machine.specs.declared.Effect.TheVariants.{Raise, RaiseNew, Fail}
use Rattle.machine.specs.State.{Frame, Status, running, raised, done, uncaught, failed, State, register, object_at, top}
use Rattle.machine.specs.Decide.{decide}
use Rattle.machine.specs.Run.{entered, with_frames, apply, dropped, unwound, step, run}
use Rattle.machine.specs.History.{left_by, calls, leavings}
use Rattle.machine.proofs.Continues.{effect_at, handling_at, At, step_running, step_raised, Stepped, runs, unwinds, stays, stepped}

dropped_frames : (s : State) (o : ℕ) (rest : List Frame) → (dropped s o rest).frames ≡ rest
dropped_frames s o [] = refl
dropped_frames s o (g ∷ rest) = refl

-- ---- calls
-- a state whose next step is a call: its top frame and the frames below, the callee and the first argument's register
pub record Calling (p : Program) (s : State) : Type 0 where
  pub frame : Frame
  pub rest : List Frame
  pub callee : ℕ
  pub first : ℕ
  pub at : At p s running frame rest
  pub effect : effect_at p s frame ≡ Call callee first

module _ (p : Program) (s : State) where
  pub call_step : (c : Calling p s) → step p s ≡ with_frames s (entered p c.callee c.first c.frame ∷ c.frame ∷ c.rest)
  call_step c = step_running p s c.frame c.rest c.at ∙ ap (apply p s c.frame c.rest) c.effect

  -- of all effects only a call makes the frames longer
  pub longer_apply : (f : Frame) (rest : List Frame) (e : Effect) → s.frames ≡ f ∷ rest → length (f ∷ rest) < length (apply p s f rest e).frames → (m : ℕ) × (c : ℕ) × (e ≡ Call m c)
  longer_apply f rest Next here l = absurd (lt_irrefl _ l)
  longer_apply f rest (Jump to) here l = absurd (lt_irrefl _ l)
  longer_apply f rest (Write a v) here l = absurd (lt_irrefl _ l)
  longer_apply f rest (Load a o x) here l = absurd (lt_irrefl _ l)
  longer_apply f rest (LoadStatic a x) here l = absurd (lt_irrefl _ l)
  longer_apply f rest (Make a k) here l = absurd (lt_irrefl _ l)
  longer_apply f rest (Store o x v) here l = absurd (lt_irrefl _ l)
  longer_apply f rest (StoreStatic x v) here l = absurd (lt_irrefl _ l)
  longer_apply f rest (Call m c) here l = (m, c, refl)
  longer_apply f [] (Exit v) here l = absurd (omega arith)
  longer_apply f (g ∷ rest) (Exit v) here l = absurd (omega arith)
  longer_apply f rest (Raise o) here l = absurd (omega (arith, ap length here))
  longer_apply f rest (RaiseNew k) here l = absurd (omega (arith, ap length here))
  longer_apply f rest (Fail e) here l = absurd (omega (arith, ap length here))

  unwound_most : (f : Frame) (rest : List Frame) (o : ℕ) (h : Option ℕ) → length (unwound p s f rest o h).frames ≤ length (f ∷ rest)
  unwound_most f rest o (Some h) = omega arith
  unwound_most f rest o None = rw dropped_frames (omega arith)

  longer_by : (t : State) → Stepped p s t → length s.frames < length t.frames → Calling p s
  longer_by t (runs f rest h e) l =
      let c = longer_apply f rest (effect_at p s f) h.frames (rw (h.frames, e) at l) in
      record { frame = f; rest = rest; callee = c.0; first = c.1; at = h; effect = c.2 }
  longer_by t (unwinds f rest o h e) l =
      let l' : length (f ∷ rest) < length (unwound p s f rest o (handling_at p s f o)).frames = rw (h.frames, e) at l in
      absurd (omega (arith, unwound_most f rest o (handling_at p s f o)))
  longer_by t (stays e) l = absurd (lt_irrefl _ (rw e at l))

  pub longer_step : length s.frames < length (step p s).frames → Calling p s
  longer_step = longer_by (step p s) (stepped p s)

module _ (p : Program) (n : ℕ) where
  -- "A call is made by a step that adds a frame: the caller's method and address at that step, and the callee"
  pub call_added : length (run p n).frames < length (run p (suc n)).frames → calls p (suc n) ≡ calls p n ++ (record { caller = (top (run p n).frames).method; address = (top (run p n).frames).address; callee = (top (run p (suc n)).frames).method } ∷ [])
  unfolding calls
  call_added l = rw (lt-ltb (length (run p n).frames) (length (run p (suc n)).frames) l)

  -- the frame added is one new frame on the frames before
  pub frame_added : length (run p n).frames < length (run p (suc n)).frames → (run p (suc n)).frames ≡ top (run p (suc n)).frames ∷ (run p n).frames
  unfolding run
  frame_added l =
      let c : Calling p (run p n) = longer_step p (run p n) l in
      rw (call_step p (run p n) c, c.at.frames)

  pub call_none : length (run p (suc n)).frames ≤ length (run p n).frames → calls p (suc n) ≡ calls p n
  unfolding calls
  call_none l = rw (le-ltb (length (run p n).frames) (length (run p (suc n)).frames) l, append-nil)

  -- exactly the effect of a call makes one
  pub call_made : (c : Calling p (run p n)) → calls p (suc n) ≡ calls p n ++ (record { caller = c.frame.method; address = c.frame.address; callee = c.callee } ∷ [])
  unfolding run calls
  call_made c =
      rw (call_step p (run p n) c, c.at.frames, lt-ltb (length (c.frame ∷ c.rest)) (suc (length (c.frame ∷ c.rest))) (omega arith))

  pub no_call : (Calling p (run p n) → ⊥) → calls p (suc n) ≡ calls p n
  unfolding run
  no_call h =
      let not-longer : ¬ (length (run p n).frames < length (step p (run p n)).frames) = λ l. h (longer_step p (run p n) l) in
      call_none (omega arith)

  -- so none by another effect, and none by another status
  pub other_effect : (f : Frame) (rest : List Frame) → At p (run p n) running f rest → ((m c : ℕ) → effect_at p (run p n) f ≡ Call m c → ⊥) → calls p (suc n) ≡ calls p n
  other_effect f rest at other = no_call (λ c. other c.callee c.first (cc))

  pub not_running : ((run p n).status ≡ running → ⊥) → calls p (suc n) ≡ calls p n
  not_running h = no_call (λ c. h c.at.status)

-- the two instructions whose effect is a call
module _ (p : Program) (s : State) (f : Frame) where
  pub static_effect : (m b c : ℕ) → decide p s f (InvokeStatic m b c) ≡ Call m c
  static_effect m b c = refl

  pub virtual_effect : (name b c o m : ℕ) → register f c ≡ Reference o → virtual_callee p (object_at s o).class name b ≡ Some m → decide p s f (InvokeVirtual name b c) ≡ Call m c
  virtual_effect name b c o m receiver found = rw (receiver, found)

-- ---- exceptions
-- a state whose next step has an exception leave its top frame's method
pub record Leaving (p : Program) (s : State) : Type 0 where
  pub frame : Frame
  pub rest : List Frame
  pub object : ℕ
  pub at : At p s (raised object) frame rest
  pub handling : handling_at p s frame object ≡ None

module _ (p : Program) (s : State) where
  pub leaving_step : (c : Leaving p s) → step p s ≡ dropped s c.object c.rest
  leaving_step c =
      step_raised p s c.frame c.rest c.object c.at
      ∙ ap (unwound p s c.frame c.rest c.object) c.handling

  shorter_unwound : (f : Frame) (rest : List Frame) (o : ℕ) (h : Option ℕ) → length (unwound p s f rest o h).frames < length (f ∷ rest) → h ≡ None
  shorter_unwound f rest o (Some h) l = absurd (lt_irrefl _ l)
  shorter_unwound f rest o None l = refl

  shorter_by : (t : State) (o : ℕ) → Stepped p s t → s.status ≡ raised o → length t.frames < length s.frames → Leaving p s
  shorter_by t o (runs f rest h e) status l = let d : ◌≡◌ {A = ℕ} 0 1 = cc in absurd (omega arith)
  shorter_by t o (unwinds f rest q h e) status l =
      record {
        frame = f;
        rest = rest;
        object = q;
        at = h;
        handling = shorter_unwound f rest q (handling_at p s f q) (rw (h.frames, e) at l);
      }
  shorter_by t o (stays e) status l = absurd (lt_irrefl _ (rw e at l))

  pub shorter_step : (o : ℕ) → s.status ≡ raised o → length (step p s).frames < length s.frames → Leaving p s
  shorter_step o = shorter_by (step p s) o (stepped p s)

left_none : (e : Status) (before after : State) → ((o : ℕ) → e ≡ raised o → length before.frames ≤ length after.frames) → left_by e before after ≡ []
left_none running before after h = refl
left_none (raised o) before after h = rw (le-ltb (length after.frames) (length before.frames) (h o refl))
left_none done before after h = refl
left_none (uncaught o) before after h = refl
left_none (failed e) before after h = refl

module _ (p : Program) (n : ℕ) where
  -- "An exception leaves a method when a step with an object pending drops a frame of that method"
  pub leaving_added : (o : ℕ) → (run p n).status ≡ raised o → length (run p (suc n)).frames < length (run p n).frames → leavings p (suc n) ≡ leavings p n ++ (record { method = (top (run p n).frames).method; object = o } ∷ [])
  unfolding leavings
  leaving_added o status l = rw (status, lt-ltb (length (run p (suc n)).frames) (length (run p n).frames) l)

  -- nothing else has one leave: a step of another status, or one that drops no frame
  pub leaving_none : ((o : ℕ) → (run p n).status ≡ raised o → length (run p n).frames ≤ length (run p (suc n)).frames) → leavings p (suc n) ≡ leavings p n
  unfolding leavings
  leaving_none h = rw (left_none (run p n).status (run p n) (run p (suc n)) h, append-nil)

  -- exactly an exception with no handler leaves, "the last frame included"
  pub leaving_made : (c : Leaving p (run p n)) → leavings p (suc n) ≡ leavings p n ++ (record { method = c.frame.method; object = c.object } ∷ [])
  unfolding run leavings
  leaving_made c =
      rw (leaving_step p (run p n) c, c.at.status, c.at.frames, dropped_frames, lt-ltb (length c.rest) (suc (length c.rest)) (omega arith))

  pub no_leaving : (Leaving p (run p n) → ⊥) → leavings p (suc n) ≡ leavings p n
  unfolding run
  no_leaving h = leaving_none not_shorter
    where
      not_shorter : (o : ℕ) → (run p n).status ≡ raised o → length (run p n).frames ≤ length (step p (run p n)).frames
      not_shorter o status =
          let not : ¬ (length (step p (run p n)).frames < length (run p n).frames) = λ l. h (shorter_step p (run p n) o status l) in
          omega arith

  -- so none of another status, and none that a handler takes
  pub not_raised : ((o : ℕ) → (run p n).status ≡ raised o → ⊥) → leavings p (suc n) ≡ leavings p n
  not_raised h = no_leaving (λ c. h c.object c.at.status)

  pub caught_stays : (o h : ℕ) (f : Frame) (rest : List Frame) → At p (run p n) (raised o) f rest → handling_at p (run p n) f o ≡ Some h → leavings p (suc n) ≡ leavings p n
  caught_stays o h f rest at caught =
      no_leaving (λ c. let d : ◌≡◌ {A = ℕ} 0 1 = cc in omega arith)
