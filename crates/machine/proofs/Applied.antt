-- An effect that fits leaves a shaped state shaped, and so does the unwinding of a pending object. Assumes nothing.
use mathlib.Core.Path.{◌≡◌, refl}
use mathlib.Core.List.{List, [], ◌∷◌, ◌++◌}
use Prim.Native.Nat.{ℕ, suc, ◌+◌, ◌≤◌, ◌<◌}
use native.Mathlib.Omega.{arith}
use lib.ListN.{length, get_or, set, length-append, length-set}
use Rattle.std.specs.Prelude.{Option, Some, None}
use Rattle.program.specs.Program.{Program}
use Rattle.machine.specs.declared.Value.{Value}
use Rattle.machine.specs.declared.Value.TheVariants.{Reference}
use Rattle.machine.specs.declared.Effect.{Effect}
use Rattle.machine.specs.declared.Effect.TheVariants.{Next, Jump, Write, Load, LoadStatic, Make, Store, StoreStatic, Call, Exit}
use Rattle.machine.specs.declared.Effect.TheVariants.{Raise, RaiseNew, Fail}
use Rattle.machine.specs.State.{Frame, Object, Status, running, raised, done, uncaught, failed, State, null, no_object, object_at, cell, static}
use Rattle.machine.specs.Run.{moved, wrote, fresh, stored, returned, apply, dropped, unwound}
use Rattle.program.specs.Lists.{Every}
use Rattle.machine.specs.Shaped.{Known, KnownStatus, ShapedFrame, ShapedObject, Shaped, Fitting}
use Rattle.machine.proofs.Elements.{set_at, append_at}
use Rattle.machine.proofs.Parts.{known_more, frames_more, object_more, moved_shaped, resumed_shaped, wrote_shaped, entered_shaped, fresh_shaped, stored_shaped}
use Rattle.machine.proofs.Fitting.{top_shaped}

-- a step that raises leaves the frames as they were
pub raise_keeps : (p : Program) (s : State) (f : Frame) (rest : List Frame) (k : ℕ) → (apply p s f rest (RaiseNew k)).frames ≡ s.frames
raise_keeps p s f rest k = refl

module _ (p : Program) (s : State) (shaped : Shaped p s) where
  -- other frames and another status
  with_frames_lem : (fs : List Frame) (e : Status) → Every (ShapedFrame p (length s.objects)) fs → KnownStatus (length s.objects) e
      → Shaped p (record { frames = fs; objects = s.objects; statics = s.statics; status = e })
  with_frames_lem fs e h k =
      record { frames = h; objects = shaped.objects; size = shaped.size; statics = shaped.statics; status = k }

  -- other frames, and other objects, not fewer
  with_objects : (fs : List Frame) (os : List Object) → length s.objects ≤ length os
      → Every (ShapedFrame p (length os)) fs
      → ((o : ℕ) → o < length os → ShapedObject p (length os) (get_or os o no_object))
      → (e : Status) → KnownStatus (length os) e → Shaped p (record { frames = fs; objects = os; statics = s.statics; status = e })
  with_objects fs os l h k e i =
      record {
        frames = h;
        objects = k;
        size = shaped.size;
        statics = λ x. known_more p (length s.objects) (length os) l (static s x) (shaped.statics x);
        status = i;
      }

  returned_shaped : (v : Value) (rest : List Frame) → Known (length s.objects) v → Every (ShapedFrame p (length s.objects)) rest → Shaped p (returned s v rest)
  returned_shaped v [] k h = with_frames_lem [] done tt tt
  returned_shaped v (g ∷ rest) k h = with_frames_lem _ running (resumed_shaped p _ g _ v k h.0, h.1) tt

  dropped_shaped : (o : ℕ) (rest : List Frame) → o < length s.objects → Every (ShapedFrame p (length s.objects)) rest → Shaped p (dropped s o rest)
  dropped_shaped o [] k h = with_frames_lem [] (uncaught o) tt k
  dropped_shaped o (g ∷ rest) k h = with_frames_lem (g ∷ rest) (raised o) h k

  unwound_by_lem : (f : Frame) (rest : List Frame) → Every (ShapedFrame p (length s.objects)) (f ∷ rest) → (o : ℕ) → o < length s.objects
      → (r : Option ℕ) → Shaped p (unwound p s f rest o r)
  unwound_by_lem f rest h o k (Some i) = with_frames_lem _ running (resumed_shaped p _ f _ (Reference o) k h.0, h.1) tt
  unwound_by_lem f rest h o k None = dropped_shaped o rest k h.1

  module _ (f : Frame) (rest : List Frame) (h : Every (ShapedFrame p (length s.objects)) (f ∷ rest)) where
    -- the top frame with a register written
    written : (a : ℕ) (v : Value) → Known (length s.objects) v → Every (ShapedFrame p (length s.objects)) (wrote f a v ∷ rest)
    written a v k = (wrote_shaped p _ f a v k h.0, h.1)

    on : (to : ℕ) → Every (ShapedFrame p (length s.objects)) (moved f to ∷ rest)
    on to = (moved_shaped p _ f to h.0, h.1)

    -- one object more: the objects before are shaped with it
    more_objects : (k o : ℕ) → o < length (s.objects ++ fresh p k ∷ [])
        → ShapedObject p (length (s.objects ++ fresh p k ∷ [])) (get_or (s.objects ++ fresh p k ∷ []) o no_object)
    more_objects k o =
        let n = length s.objects in
        let os = s.objects ++ fresh p k ∷ [] in
        let one : length os ≡ n + 1 = length-append s.objects (fresh p k ∷ []) in
        let l : n ≤ length os = omega arith in
        append_at (ShapedObject p (length os)) s.objects (fresh p k) no_object o (fresh_shaped p (length os) k)
        (λ m. object_more p n (length os) l (object_at s o) (shaped.objects o m))

    make_shaped : (a k : ℕ) → Shaped p (apply p s f rest (Make a k))
    make_shaped a k =
        let n = length s.objects in
        let os = s.objects ++ fresh p k ∷ [] in
        let one : length os ≡ n + 1 = length-append s.objects (fresh p k ∷ []) in
        let l : n ≤ length os = omega arith in
        let r = frames_more p n (length os) l (f ∷ rest) h in
        with_objects _ os l (wrote_shaped p (length os) f a (Reference n) (omega arith) r.0, r.1) (more_objects k) running tt

    raise_shaped : (k : ℕ) → Shaped p (apply p s f rest (RaiseNew k))
    raise_shaped k =
        let n = length s.objects in
        let os = s.objects ++ fresh p k ∷ [] in
        let one : length os ≡ n + 1 = length-append s.objects (fresh p k ∷ []) in
        let l : n ≤ length os = omega arith in
        with_objects s.frames os l (frames_more p n (length os) l s.frames shaped.frames) (more_objects k) (raised n) (omega arith)

    store_shaped : (o x : ℕ) (v : Value) → o < length s.objects → Known (length s.objects) v → Shaped p (apply p s f rest (Store o x v))
    store_shaped o x v m k =
        let n = length s.objects in
        let os = set s.objects o (stored (object_at s o) x v) in
        let one : length os ≡ n = length-set s.objects o (stored (object_at s o) x v) in
        let l : n ≤ length os = omega arith in
        with_objects _ os l (frames_more p n (length os) l (moved f (suc f.address) ∷ rest) (on (suc f.address)))
        (λ j b.
        object_more p n (length os) l (get_or os j no_object)
        (set_at (ShapedObject p n) s.objects o _ no_object j (stored_shaped p n (object_at s o) x v k (shaped.objects o m))
        (shaped.objects j (omega arith))))
        running tt

    applied : (e : Effect) → Fitting p s f e → Shaped p (apply p s f rest e)
    applied Next t = with_frames_lem _ running (on _) tt
    applied (Jump to) t = with_frames_lem _ running (on to) tt
    applied (Write a v) t = with_frames_lem _ running (written a v t.1) tt
    applied (Load a o x) t = with_frames_lem _ running (written a (cell s o x) ((shaped.objects o t.1).known x)) tt
    applied (LoadStatic a x) t = with_frames_lem _ running (written a (static s x) (shaped.statics x)) tt
    applied (Make a k) t = make_shaped a k
    applied (Store o x v) t = store_shaped o x v t.0 t.2
    applied (StoreStatic x v) t =
        record {
          frames = on _;
          objects = shaped.objects;
          size = rw length-set shaped.size;
          statics = λ y. set_at (Known (length s.objects)) s.statics x v null y t.1 (shaped.statics y);
          status = tt;
        }
    applied (Call m c) t = with_frames_lem _ running (entered_shaped p _ f m c h.0, h) tt
    applied (Exit v) t = returned_shaped v rest t h.1
    applied (Raise o) t = with_frames_lem _ (raised o) shaped.frames t
    applied (RaiseNew k) t = raise_shaped k
    applied (Fail e) t = with_frames_lem _ (failed e) shaped.frames tt

pub applied_shaped : (p : Program) → (s : State) → Shaped p s → (f : Frame) (rest : List Frame) → s.frames ≡ f ∷ rest → (e : Effect)
    → Fitting p s f e → Shaped p (apply p s f rest e)
applied_shaped p s shaped f rest e = applied p s shaped f rest (top_shaped p s shaped f rest e)

pub unwound_shaped : (p : Program) → (s : State) → Shaped p s → (f : Frame) (rest : List Frame) → s.frames ≡ f ∷ rest → (o : ℕ)
    → o < length s.objects → (r : Option ℕ) → Shaped p (unwound p s f rest o r)
unwound_shaped p s shaped f rest e = unwound_by_lem p s shaped f rest (top_shaped p s shaped f rest e)
