-- An safe effect keeps the invariant, one lemma an effect, and so does the unwinding of a pending object. Assumes nothing.
use mathlib.Core.Path.{◌≡◌, refl}
use mathlib.Core.Bool.{true}
use mathlib.Core.List.{List, [], ◌∷◌, ◌++◌}
use Prim.Native.Nat.{ℕ, suc, ◌<◌}
use lib.ListN.{length, set}
use Rattle.std.specs.Prelude.{Option, Some, None}
use Rattle.mask.specs.Mask.{has}
use Rattle.program.specs.Program.{Program, handler_target}
use Rattle.search.specs.Search.{handler_for}
use Rattle.reader.specs.Formed.{Formed}
use Rattle.machine.specs.declared.Value.{Value}
use Rattle.machine.specs.declared.Value.TheVariants.{Reference}
use Rattle.machine.specs.declared.Effect.{Effect}
use Rattle.machine.specs.declared.Effect.TheVariants.{Next, Jump, Write, Load, LoadStatic, Make, Store, StoreStatic, Call, Exit, Raise}
use Rattle.machine.specs.declared.Effect.TheVariants.{RaiseNew, Fail}
use Rattle.machine.specs.State.{Frame, Object, Status, running, raised, done, uncaught, failed, State, object_at, static}
use Rattle.machine.specs.Run.{moved, resumed, fresh, stored, returned, apply, dropped, unwound}
use Rattle.machine.specs.Shaped.{Shaped, Fitting}
use Rattle.flow.specs.Claim.{static_of, returned_by, leaving, Claim}
use Rattle.flow.specs.Flows.{Holds}
use Rattle.flow.specs.Rules.{carried}
use Rattle.flow.specs.Inside.{Asked, RaisedAt, Lies, FrameIn, CalledFrom, FramesIn, StaticsIn, PendingIn, Inside}
use Rattle.flow.specs.Safe.{SafeEffect}
use Rattle.flow.proofs.Frames.{Keeps, lies_kept, frame_kept, frames_kept, set_lies}
use Rattle.flow.proofs.Calls.{target_inside, call_rules, raised_by_call, raised_rules_lem}
use Rattle.flow.proofs.Objects.{made_keeps, made_class, stored_keeps, made_in, stored_in_lem}

module _ (p : Program) (c : Claim) (formed : Formed p) (asked : Asked p c) (s : State) (shaped : Shaped p s) (inside : Inside p c s) where
  -- other frames and another status
  with_frames_lem : (fs : List Frame) (e : Status) → FramesIn p c s.objects fs → PendingIn p c s.objects fs e
      → Inside p c (record { frames = fs; objects = s.objects; statics = s.statics; status = e })
  with_frames_lem fs e h k = record { frames = h; objects = inside.objects; statics = inside.statics; pending = k }

  statics_kept : (os : List Object) → Keeps s.objects os → StaticsIn p c os s.statics
  statics_kept os keeps x l = lies_kept p c s.objects os keeps (static s x) (static_of x) (inside.statics x l)

  -- rules 2 and 9: the frame goes to another address, its result becomes the value
  resumed_in : (f : Frame) (to : ℕ) (v : Value) → FrameIn p c s.objects f → to < Rattle.program.specs.Program.code_length p f.method
      → Holds c (carried p f.method f.address to) → Lies p c s.objects v (Rattle.flow.specs.Claim.result_at f.method to)
      → FrameIn p c s.objects (resumed f to v)
  resumed_in f to v h l w x =
      record { inside = l; masks = record { registers_in = λ r k. w r k _ (h.masks.registers_in r k); result_in = x } }

  -- rule 7: a return to the frame below
  returned_inside : (q : ℕ) (v : Value) → Lies p c s.objects v (returned_by q) → (rest : List Frame) → CalledFrom p c q rest
      → FramesIn p c s.objects rest → Inside p c (returned s v rest)
  returned_inside q v h [] called below = with_frames_lem [] done tt tt
  returned_inside q v h (g ∷ rest) called below =
      let w = call_rules p c formed asked g.method g.address below.0.inside q called in
      with_frames_lem _ running (resumed_in g (suc g.address) v below.0 w.goes w.carries (w.answers _ h), below.1, below.2) tt

  -- an exception of an object that leaves method q
  dropped_inside : (q o : ℕ) → o < length s.objects → has (c (leaving q)) (object_at s o).class ≡ true → (rest : List Frame)
      → CalledFrom p c q rest
      → FramesIn p c s.objects rest → Inside p c (dropped s o rest)
  dropped_inside q o l h [] called below = with_frames_lem [] (uncaught o) tt tt
  dropped_inside q o l h (g ∷ rest) called below =
      with_frames_lem (g ∷ rest) (raised o) below
      (raised_by_call p c formed asked g.method g.address below.0.inside q (object_at s o).class (inside.objects o l).class_in
      called
      h)

  module _ (f : Frame) (rest : List Frame) (e : s.frames ≡ f ∷ rest) where
    top_in : FramesIn p c s.objects (f ∷ rest)
    top_in = rw e at inside.frames

    -- another top frame of the same method
    top_changed : (g : Frame) → g.method ≡ f.method → FrameIn p c s.objects g → FramesIn p c s.objects (g ∷ rest)
    top_changed g same h = (h, rw same top_in.1, top_in.2)

    make_inside : (a k : ℕ) → SafeEffect p c s f (Make a k) → Inside p c (apply p s f rest (Make a k))
    make_inside a k safe =
        let os = s.objects ++ fresh p k ∷ [] in
        let keeps : Keeps s.objects os = made_keeps s.objects (fresh p k) in
        record {
          frames = (
            safe.1 os (frame_kept p c s.objects os keeps f top_in.0) (made_class s.objects (fresh p k)),
            top_in.1,
            frames_kept p c s.objects os keeps rest top_in.2,
          );
          objects = made_in p c s.objects inside.objects formed asked k safe.0;
          statics = statics_kept os keeps;
          pending = tt;
        }

    -- a new object, pending
    raise_inside : (k : ℕ) → SafeEffect p c s f (RaiseNew k) → Inside p c (apply p s f rest (RaiseNew k))
    raise_inside k safe =
        let os = s.objects ++ fresh p k ∷ [] in
        let keeps : Keeps s.objects os = made_keeps s.objects (fresh p k) in
        record {
          frames = frames_kept p c s.objects os keeps s.frames inside.frames;
          objects = made_in p c s.objects inside.objects formed asked k safe.0;
          statics = statics_kept os keeps;
          pending = rw (e, made_class s.objects (fresh p k)) safe.1;
        }

    store_inside : (o x : ℕ) (v : Value) → Fitting p s f (Store o x v) → SafeEffect p c s f (Store o x v) → Inside p c (apply p s f rest (Store o x v))
    store_inside o x v fits safe =
        let os = set s.objects o (stored (object_at s o) x v) in
        let keeps : Keeps s.objects os = stored_keeps s.objects o x v fits.0 in
        record {
          frames = (
            frame_kept p c s.objects os keeps (moved f (suc f.address)) safe.2,
            top_in.1,
            frames_kept p c s.objects os keeps rest top_in.2,
          );
          objects = stored_in_lem p c s.objects inside.objects o x v fits.0 (shaped.objects o fits.0).size safe.0 safe.1;
          statics = statics_kept os keeps;
          pending = tt;
        }

    store_static_inside : (x : ℕ) (v : Value) → Fitting p s f (StoreStatic x v) → SafeEffect p c s f (StoreStatic x v) → Inside p c (apply p s f rest (StoreStatic x v))
    store_static_inside x v fits safe =
        record {
          frames = top_changed _ refl safe.1;
          objects = inside.objects;
          statics = λ y l.
              set_lies p c s.objects s.statics x y v (static_of y) fits.0 (λ same. rw same safe.0)
              (λ _. inside.statics y l);
          pending = tt;
        }

    pub applied_inside : (effect : Effect) → Fitting p s f effect → SafeEffect p c s f effect → Inside p c (apply p s f rest effect)
    applied_inside Next fits safe = with_frames_lem _ running (top_changed _ refl safe) tt
    applied_inside (Jump to) fits safe = with_frames_lem _ running (top_changed _ refl safe) tt
    applied_inside (Write a v) fits safe = with_frames_lem _ running (top_changed _ refl safe) tt
    applied_inside (Load a o x) fits safe = with_frames_lem _ running (top_changed _ refl safe) tt
    applied_inside (LoadStatic a x) fits safe = with_frames_lem _ running (top_changed _ refl safe) tt
    applied_inside (Make a k) fits safe = make_inside a k safe
    applied_inside (Store o x v) fits safe = store_inside o x v fits safe
    applied_inside (StoreStatic x v) fits safe = store_static_inside x v fits safe
    applied_inside (Call m a) fits safe = with_frames_lem _ running (safe.1, safe.0, top_in) tt
    applied_inside (Exit v) fits safe = returned_inside f.method v safe rest top_in.1 top_in.2
    applied_inside (Raise o) fits safe = with_frames_lem s.frames (raised o) inside.frames (rw e safe)
    applied_inside (RaiseNew k) fits safe = raise_inside k safe
    applied_inside (Fail fault) fits safe = with_frames_lem s.frames (failed fault) inside.frames (rw e tt)

    module _ (o : ℕ) (l : o < length s.objects) (at : RaisedAt p c f.method f.address (object_at s o).class) where
      -- rule 10: with no handler the object's bit is in the method's mask
      pub leaves_in : handler_for p f.method f.address (object_at s o).class ≡ None → has (c (leaving f.method)) (object_at s o).class ≡ true
      leaves_in none =
          (raised_rules_lem p c formed asked f.method f.address top_in.0.inside (object_at s o).class at).1 none

      pub unwound_inside : (r : Option ℕ) → handler_for p f.method f.address (object_at s o).class ≡ r → Inside p c (unwound p s f rest o r)
      unwound_inside None none = dropped_inside f.method o l (leaves_in none) rest top_in.1 top_in.2
      unwound_inside (Some h) found =
          let w = (raised_rules_lem p c formed asked f.method f.address top_in.0.inside (object_at s o).class at).0 h found in
          with_frames_lem _ running
          (top_changed _ refl
          (resumed_in f (handler_target p f.method h) (Reference o) top_in.0
          (target_inside p c formed asked f.method f.address top_in.0.inside (object_at s o).class h found) w.0 w.1))
          tt
