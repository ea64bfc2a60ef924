-- What each of the stepper's answers says of the state that it stops at, and what a step that nothing stops keeps: at most 32
-- frames and 256 objects, and which statuses have a frame. Assumes nothing.
use mathlib.Core.Path.{◌≡◌, refl, ap, ◌∙◌}
use mathlib.Core.Bool.{Bool, true, false}
use mathlib.Core.List.{List, [], ◌∷◌}
use mathlib.Core.Option as maybe
use Prim.Native.Nat.{ℕ, ◌≤◌, ◌<◌}
use native.Mathlib.Omega.{arith}
use lib.Dec.{ltb}
use lib.ListN.{length, length-append, length-set}
use borrow.Author.Tests.{ltb-true, ltb-false, le-ltb}
use Rattle.std.specs.Prelude.{Option, Some, None}
use Rattle.instruction.specs.Word.{pick}
use Rattle.program.specs.Program.{Program, code_length}
use Rattle.machine.specs.declared.Effect.{Effect}
use Rattle.machine.specs.declared.Effect.TheVariants.{Next, Jump, Write, Load, LoadStatic, Make, Store, StoreStatic, Call, Exit, Raise}
use Rattle.machine.specs.declared.Effect.TheVariants.{RaiseNew, Fail}
use Rattle.machine.specs.State.{Frame, Status, running, raised, done, uncaught, failed, State, object_at}
use Rattle.machine.specs.Run.{fresh, stored, apply, unwound, step_by, step}
use Rattle.instruction.proofs.Flags.{pick_cases}
use Rattle.machine.proofs.Continues.{effect_at, handling_at, At, Ended}
use Rattle.machine.proofs.History.{Calling}
use Rattle.turn.specs.declared.Halt.{Halt}
use Rattle.turn.specs.declared.Halt.TheVariants.{Done, Uncaught, Faulted, FullStore, FullStack, StepsMade, Outside}
use Rattle.turn.specs.Stop.{room, stop_by, stop_of}
use Rattle.turn.proofs.Stops.{running_stop}
use Rattle.bounded.specs.Bounded.{at_limit}

-- an effect that makes an object: new-instance's, or that of an instruction that raises one
pub data Makes (e : Effect) : Type 0 where
  by_new : (to class : ℕ) → e ≡ Make to class → Makes e
  by_raise : (class : ℕ) → e ≡ RaiseNew class → Makes e

-- a state whose next step makes an object: its top frame, inside its method, and the frames below
pub record Making (p : Program) (s : State) : Type 0 where
  pub frame : Frame
  pub rest : List Frame
  pub at : At p s running frame rest
  pub effect : Makes (effect_at p s frame)

-- no frame is open, or the top one is at an address outside its method
abbrev pub Beyond : Program → List Frame → Type 0
Beyond p [] = Unit {0}
Beyond p (f ∷ rest) = code_length p f.method ≤ f.address

-- what an answer says of a state to which k steps have led, of at most n
abbrev pub Says : Program → ℕ → ℕ → State → Halt → Type 0
Says p n k s Done = s.status ≡ done
Says p n k s Uncaught = (o : ℕ) × (s.status ≡ uncaught o)
Says p n k s (Faulted e) = s.status ≡ failed e
-- "20: new-instance at 256 objects", and a step that raises a new object: "a full store gives 20"
Says p n k s FullStore = Making p s × (256 ≤ length s.objects)
-- "21: a call without fault at 32 frames"
Says p n k s FullStack = Calling p s × (32 ≤ length s.frames)
-- "22: n steps made, not ended"
Says p n k s StepsMade = (k ≡ n) × ¬ Ended s.status
-- "24: an address outside its method"
Says p n k s Outside = Beyond p s.frames × ¬ Ended s.status

-- done and uncaught leave no frame, every other status has one
abbrev pub SomeFrame : List Frame → Type 0
SomeFrame [] = ⊥
SomeFrame (f ∷ rest) = Unit {0}

abbrev pub Framed : Status → List Frame → Type 0
Framed running fs = SomeFrame fs
Framed (raised o) fs = SomeFrame fs
Framed done fs = fs ≡ []
Framed (uncaught o) fs = fs ≡ []
Framed (failed e) fs = SomeFrame fs

abbrev pub Kept : State → Type 0
Kept s = (length s.frames ≤ 32) × (length s.objects ≤ 256) × Framed s.status s.frames

-- t is the state after the step, which nothing stops or an answer does
abbrev Judged : Program → ℕ → ℕ → State → State → maybe.Option Halt → Type 0
Judged p n k s t maybe.none = Kept s → Kept t
Judged p n k s t (maybe.some h) = Says p n k s h

module _ (p : Program) (n k : ℕ) (s : State) where
  -- u is the state after an effect that makes an object
  making_judged : (f : Frame) (rest : List Frame) → At p s running f rest → Makes (effect_at p s f) → (u : State)
      → (length s.objects < 256 → Kept s → Kept u) → Judged p n k s u (pick (ltb (length s.objects) 256) maybe.none (maybe.some FullStore))
  making_judged f rest at makes u kept =
      pick_cases (Judged p n k s u) (ltb (length s.objects) 256) maybe.none (maybe.some FullStore)
      (λ l. kept (ltb-true (length s.objects) 256 l))
      (λ l. (record { frame = f; rest = rest; at = at; effect = makes }, ltb-false (length s.objects) 256 l))

  effect_judged : (f : Frame) (rest : List Frame) → At p s running f rest → (e : Effect) → effect_at p s f ≡ e → Judged p n k s (apply p s f rest e) (room s e)
  effect_judged f rest at Next h = omega (arith, ap length at.frames)
  effect_judged f rest at (Jump to) h = omega (arith, ap length at.frames)
  effect_judged f rest at (Write a v) h = omega (arith, ap length at.frames)
  effect_judged f rest at (Load a o x) h = omega (arith, ap length at.frames)
  effect_judged f rest at (LoadStatic a x) h = omega (arith, ap length at.frames)
  effect_judged f rest at (Make a c) h =
      making_judged f rest at (by_new a c h) (apply p s f rest (Make a c))
      (λ l. omega (arith, ap length at.frames, length-append s.objects (fresh p c ∷ []), l))
  effect_judged f rest at (Store o x v) h =
      omega (arith, ap length at.frames, length-set s.objects o (stored (object_at s o) x v))
  effect_judged f rest at (StoreStatic x v) h = omega (arith, ap length at.frames)
  effect_judged f rest at (Call m c) h =
      pick_cases (Judged p n k s (apply p s f rest (Call m c))) (ltb (length s.frames) 32) maybe.none (maybe.some FullStack)
      (λ l. omega (arith, ap length at.frames, ltb-true (length s.frames) 32 l))
      (λ l.
      (record { frame = f; rest = rest; callee = m; first = c; at = at; effect = h }, ltb-false (length s.frames) 32 l))
  effect_judged f [] at (Exit v) h = λ kept. (omega arith, kept.1, refl)
  effect_judged f (g ∷ rest) at (Exit v) h = omega (arith, ap length at.frames)
  effect_judged f rest at (Raise o) h = λ kept. (kept.0, kept.1, rw at.frames tt)
  effect_judged f rest at (RaiseNew c) h =
      making_judged f rest at (by_raise c h) (apply p s f rest (RaiseNew c))
      (λ l kept. (kept.0, omega (arith, length-append s.objects (fresh p c ∷ []), l), rw at.frames tt))
  effect_judged f rest at (Fail e) h = λ kept. (kept.0, kept.1, rw at.frames tt)

  unwound_judged : (f : Frame) (rest : List Frame) (o : ℕ) → At p s (raised o) f rest → (h : Option ℕ) → Judged p n k s (unwound p s f rest o h) maybe.none
  unwound_judged f rest o at (Some h) = omega (arith, ap length at.frames)
  unwound_judged f [] o at None = λ kept. (omega arith, kept.1, refl)
  unwound_judged f (g ∷ rest) o at None = omega (arith, ap length at.frames)

  -- inside its method a frame is judged by what is done there
  inside_judged : (e : Status) (f : Frame) (rest : List Frame) (t : State) (o : maybe.Option Halt) → s.status ≡ e → s.frames ≡ f ∷ rest → ¬ Ended e
      → (At p s e f rest → Judged p n k s t o)
      → (b : Bool) → ltb f.address (code_length p f.method) ≡ b → Judged p n k s (pick b t s) (pick b o (maybe.some Outside))
  inside_judged e f rest t o status frames goes h true l =
      h (record { status = status; frames = frames; inside = ltb-true f.address (code_length p f.method) l })
  inside_judged e f rest t o status frames goes h false l =
      (rw frames (ltb-false f.address (code_length p f.method) l), rw status goes)

  judged_by : (e : Status) (fs : List Frame) → s.status ≡ e → s.frames ≡ fs → Judged p n k s (step_by p s e fs) (stop_by p s e fs)
  judged_by running [] status frames = (rw frames tt, rw status (λ e. e))
  judged_by running (f ∷ rest) status frames =
      inside_judged running f rest (apply p s f rest (effect_at p s f)) (room s (effect_at p s f)) status frames (λ e. e)
      (λ at. effect_judged f rest at (effect_at p s f) refl)
      (ltb f.address (code_length p f.method))
      refl
  judged_by (raised o) [] status frames = (rw frames tt, rw status (λ e. e))
  judged_by (raised o) (f ∷ rest) status frames =
      inside_judged (raised o) f rest (unwound p s f rest o (handling_at p s f o)) maybe.none status frames (λ e. e)
      (λ at. unwound_judged f rest o at (handling_at p s f o))
      (ltb f.address (code_length p f.method))
      refl
  judged_by done fs status frames = status
  judged_by (uncaught o) fs status frames = (o, status)
  judged_by (failed e) fs status frames = status

  judged : Judged p n k s (step p s) (stop_of p s)
  unfolding step stop_of
  judged = judged_by s.status s.frames refl refl

  pub stop_says : (h : Halt) → stop_of p s ≡ maybe.some h → Says p n k s h
  stop_says h e = rw e at judged

  pub step_kept : stop_of p s ≡ maybe.none → Kept s → Kept (step p s)
  step_kept e = rw e at judged

-- and where an object would be made at 256 objects, 20 it is
full_room : (s : State) (e : Effect) → Makes e → 256 ≤ length s.objects → room s e ≡ maybe.some FullStore
full_room s e (by_new to class q) l = rw (q, le-ltb (length s.objects) 256 l)
full_room s e (by_raise class q) l = rw (q, le-ltb (length s.objects) 256 l)

pub full_stops : (p : Program) (s : State) → Making p s → 256 ≤ length s.objects → stop_of p s ≡ maybe.some FullStore
full_stops p s m l =
    running_stop p s m.frame m.rest m.at ∙ full_room s (effect_at p s m.frame) m.effect l

module _ (p : Program) (n : ℕ) (s : State) where
  limit_by : (e : Status) → s.status ≡ e → Says p n n s (at_limit e)
  limit_by running status = (refl, rw status (λ e. e))
  limit_by (raised o) status = (refl, rw status (λ e. e))
  limit_by done status = status
  limit_by (uncaught o) status = (o, status)
  limit_by (failed e) status = status

  pub limit_says : Says p n n s (at_limit s.status)
  limit_says = limit_by s.status refl

module _ (p : Program) (s : State) where
  ended_by_lem : (e : Status) (fs : List Frame) → Ended e → stop_by p s e fs ≡ maybe.some (at_limit e)
  ended_by_lem running fs end = absurd end
  ended_by_lem (raised o) fs end = absurd end
  ended_by_lem done fs end = refl
  ended_by_lem (uncaught o) fs end = refl
  ended_by_lem (failed e) fs end = refl

  pub ended_stops : Ended s.status → stop_of p s ≡ maybe.some (at_limit s.status)
  unfolding stop_of
  ended_stops = ended_by_lem s.status s.frames

-- at n steps, what is not 22 has ended
pub limit_open : (e : Status) → ¬ (at_limit e ≡ StepsMade) → Ended e
limit_open running h = absurd (h refl)
limit_open (raised o) h = absurd (h refl)
limit_open done h = tt
limit_open (uncaught o) h = tt
limit_open (failed e) h = tt
