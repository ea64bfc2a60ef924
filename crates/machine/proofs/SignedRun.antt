-- Every number of a run is a signed 32-bit number, for every program and every count of steps. Assumes nothing.
use mathlib.Core.List.{List, [], ◌∷◌, ◌++◌}
use Prim.Native.Nat.{ℕ, zero, suc, ◌-◌}
use lib.Dec.{ltb}
use Rattle.std.specs.Prelude.{Option, Some, None}
use Rattle.instruction.specs.Word.{pick}
use Rattle.instruction.proofs.Flags.{pick_cases}
use Rattle.program.specs.Lists.{Every}
use Rattle.program.specs.Program.{Program, field_count, registers, arguments, code_length, instruction_at, word_at}
use Rattle.program.proofs.Every.{every_append, every_tab}
use Rattle.search.specs.Search.{handler_for}
use Rattle.machine.specs.declared.Value.{Value}
use Rattle.machine.specs.declared.Value.TheVariants.{Reference}
use Rattle.machine.specs.declared.Effect.{Effect}
use Rattle.machine.specs.declared.Effect.TheVariants.{Next, Jump, Write, Load, LoadStatic, Make, Store, StoreStatic, Call, Exit}
use Rattle.machine.specs.declared.Effect.TheVariants.{Raise, RaiseNew, Fail}
use Rattle.machine.specs.State.{Frame, Status, running, raised, done, uncaught, failed, State, null, no_object, object_at, start}
use Rattle.machine.specs.Decide.{decide}
use Rattle.machine.specs.Run.{moved, wrote, resumed, entered, fresh, returned, apply, dropped, unwound, step_by, step, run}
use Rattle.machine.proofs.Elements.{every_at, every_set, every_replicate}
use Rattle.machine.proofs.Signed.{Signed, SignedFrame, SignedObject, SignedState, null_signed, Writes, register_signed, word_signed}

-- ---- the state after an effect
module _ (p : Program) (s : State) (signed : SignedState s) where
  with_frames_lem : (fs : List Frame) (e : Status) → Every SignedFrame fs
      → SignedState (record { frames = fs; objects = s.objects; statics = s.statics; status = e })
  with_frames_lem fs e h = record { frames = h; objects = signed.objects; statics = signed.statics }

  object_signed : (o : ℕ) → SignedObject (object_at s o)
  object_signed o = every_at SignedObject s.objects o no_object tt signed.objects

  resumed_signed : (f : Frame) (to : ℕ) (v : Value) → SignedFrame f → Signed v → SignedFrame (resumed f to v)
  resumed_signed f to v h k = record { registers = h.registers; result = k }

  returned_signed : (v : Value) (rest : List Frame) → Signed v → Every SignedFrame rest → SignedState (returned s v rest)
  returned_signed v [] k h = with_frames_lem [] done tt
  returned_signed v (g ∷ rest) k h = with_frames_lem _ running (resumed_signed g _ v h.0 k, h.1)

  dropped_signed : (o : ℕ) (rest : List Frame) → Every SignedFrame rest → SignedState (dropped s o rest)
  dropped_signed o [] h = with_frames_lem [] (uncaught o) tt
  dropped_signed o (g ∷ rest) h = with_frames_lem (g ∷ rest) (raised o) h

  module _ (f : Frame) (rest : List Frame) (h : Every SignedFrame (f ∷ rest)) where
    unwound_signed : (o : ℕ) (r : Option ℕ) → SignedState (unwound p s f rest o r)
    unwound_signed o (Some i) = with_frames_lem _ running (resumed_signed f _ (Reference o) h.0 tt, h.1)
    unwound_signed o None = dropped_signed o rest h.1

    on : (to : ℕ) → Every SignedFrame (moved f to ∷ rest)
    on to = (record { registers = h.0.registers; result = h.0.result }, h.1)

    written : (a : ℕ) (v : Value) → Signed v → Every SignedFrame (wrote f a v ∷ rest)
    written a v k = (
      record { registers = every_set Signed f.registers a v k h.0.registers; result = h.0.result },
      h.1,
    )

    entered_signed : (m c : ℕ) → SignedFrame (entered p m c f)
    entered_signed m c =
        record {
          registers = every_tab Signed (registers p m) _
              (λ i.
              pick_cases Signed (ltb i (registers p m - arguments p m)) null _ (λ _. null_signed)
              (λ _. register_signed p s f h.0 _));
          result = null_signed;
        }

    more_objects : (k : ℕ) → Every SignedObject (s.objects ++ fresh p k ∷ [])
    more_objects k =
        every_append SignedObject s.objects (fresh p k ∷ []) signed.objects
        (every_replicate Signed (field_count p) null null_signed, tt)

    applied : (e : Effect) → Writes p s e → SignedState (apply p s f rest e)
    applied Next k = with_frames_lem _ running (on _)
    applied (Jump to) k = with_frames_lem _ running (on to)
    applied (Write a v) k = with_frames_lem _ running (written a v k)
    applied (Load a o x) k =
        with_frames_lem _ running (written a _ (every_at Signed (object_at s o).cells x null null_signed (object_signed o)))
    applied (LoadStatic a x) k =
        with_frames_lem _ running (written a _ (every_at Signed s.statics x null null_signed signed.statics))
    applied (Make a k) t = record { frames = written a _ tt; objects = more_objects k; statics = signed.statics }
    applied (Store o x v) k =
        record {
          frames = on _;
          objects = every_set SignedObject s.objects o _
              (every_set Signed (object_at s o).cells x v k.0 (object_signed o)) signed.objects;
          statics = signed.statics;
        }
    applied (StoreStatic x v) k =
        record { frames = on _; objects = signed.objects; statics = every_set Signed s.statics x v k signed.statics }
    applied (Call m c) k = with_frames_lem _ running (entered_signed m c, h)
    applied (Exit v) k = returned_signed v rest k h.1
    applied (Raise o) k = with_frames_lem _ (raised o) signed.frames
    applied (RaiseNew k) t = record { frames = signed.frames; objects = more_objects k; statics = signed.statics }
    applied (Fail e) k = with_frames_lem _ (failed e) signed.frames

  -- ---- a step
  inside : (f : Frame) (after : State) → SignedState after → SignedState (pick (ltb f.address (code_length p f.method)) after s)
  inside f after h =
      pick_cases SignedState (ltb f.address (code_length p f.method)) after s (λ _. h) (λ _. signed)

  step_by_lem : (e : Status) (fs : List Frame) → Every SignedFrame fs → SignedState (step_by p s e fs)
  step_by_lem e [] h = signed
  step_by_lem running (f ∷ rest) h =
      inside f _
      (applied f rest h (decide p s f (instruction_at p f.method f.address))
      (word_signed p s f h.0 (word_at p f.method f.address)))
  step_by_lem (raised o) (f ∷ rest) h =
      inside f _ (unwound_signed f rest h o (handler_for p f.method f.address (object_at s o).class))
  step_by_lem done (f ∷ rest) h = signed
  step_by_lem (uncaught o) (f ∷ rest) h = signed
  step_by_lem (failed e) (f ∷ rest) h = signed

start_signed : (p : Program) → SignedState (start p)
start_signed p =
    record {
      frames = (record { registers = every_replicate Signed (registers p 0) null null_signed; result = null_signed }, tt);
      objects = tt;
      statics = every_replicate Signed p.statics null null_signed;
    }

-- every register, result, cell and static of every state of a run
pub run_signed : (p : Program) (n : ℕ) → SignedState (run p n)
unfolding run step
run_signed p zero = start_signed p
run_signed p (suc n) = step_by_lem p (run p n) (run_signed p n) (run p n).status (run p n).frames (run_signed p n).frames
