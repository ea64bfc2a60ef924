-- Laws of the step and of the run: the three ways of a step, that an end stays, and that a run goes on from the state that it
-- has come to. Assumes nothing.
use mathlib.Core.Path.{◌≡◌, refl, sym, ap, ◌∙◌}
use mathlib.Core.List.{List, [], ◌∷◌}
use Prim.Native.Nat.{ℕ, zero, suc, ◌+◌, ◌<◌}
use native.Mathlib.Nat.{add-zero, add-suc}
use lib.Dec.{ltb}
use borrow.Author.Tests.{ltb-true, lt-ltb}
use Rattle.std.specs.Prelude.{Option, Some, None}
use Rattle.instruction.specs.Word.{pick}
use Rattle.program.specs.Program.{Program, code_length, instruction_at}
use Rattle.search.specs.Search.{handler_for}
use Rattle.machine.specs.declared.Fault.{Fault}
use Rattle.machine.specs.declared.Effect.{Effect}
use Rattle.machine.specs.declared.Effect.TheVariants.{Next, Jump, Write, Load, LoadStatic, Make, Store, StoreStatic, Call, Exit}
use Rattle.machine.specs.declared.Effect.TheVariants.{Raise, RaiseNew, Fail}
use Rattle.machine.specs.State.{Frame, Status, running, raised, done, uncaught, failed, State, object_at}
use Rattle.machine.specs.Decide.{decide}
use Rattle.machine.specs.Run.{with_status, apply, unwound, step_by, step, run}
use Rattle.instruction.proofs.Flags.{pick_cases}

-- ---- the step
-- the effect of a frame's instruction, and the handling of object o at a frame
abbrev pub effect_at : Program → State → Frame → Effect
effect_at p s f = decide p s f (instruction_at p f.method f.address)

abbrev pub handling_at : Program → State → Frame → ℕ → Option ℕ
handling_at p s f o = handler_for p f.method f.address (object_at s o).class

-- a state with this status, and f on top of its frames at an address inside its method
pub record At (p : Program) (s : State) (e : Status) (f : Frame) (rest : List Frame) : Type 0 where
  pub status : s.status ≡ e
  pub frames : s.frames ≡ f ∷ rest
  pub inside : f.address < code_length p f.method

module _ (p : Program) (s : State) where
  module _ (f : Frame) (rest : List Frame) where
    pub step_running : At p s running f rest → step p s ≡ apply p s f rest (effect_at p s f)
    unfolding step
    step_running h = rw (h.status, h.frames, lt-ltb f.address (code_length p f.method) h.inside)

    pub step_raised : (o : ℕ) → At p s (raised o) f rest → step p s ≡ unwound p s f rest o (handling_at p s f o)
    unfolding step
    step_raised o h = rw (h.status, h.frames, lt-ltb f.address (code_length p f.method) h.inside)

  -- the three ways: the instruction's effect, an exception's way, or the state stays
  pub data Stepped (t : State) : Type 0 where
    runs : (f : Frame) (rest : List Frame) → At p s running f rest → t ≡ apply p s f rest (effect_at p s f) → Stepped t
    unwinds : (f : Frame) (rest : List Frame) (o : ℕ) → At p s (raised o) f rest → t ≡ unwound p s f rest o (handling_at p s f o) → Stepped t
    stays : t ≡ s → Stepped t

  -- t at an address inside the method, else s
  if_inside : (f : Frame) (t : State) → (f.address < code_length p f.method → Stepped t) → Stepped (pick (ltb f.address (code_length p f.method)) t s)
  if_inside f t h =
      pick_cases Stepped (ltb f.address (code_length p f.method)) t s
      (λ e. h (ltb-true f.address (code_length p f.method) e)) (λ _. stays refl)

  stepped_by : (e : Status) (fs : List Frame) → s.status ≡ e → s.frames ≡ fs → Stepped (step_by p s e fs)
  stepped_by e [] status frames = stays refl
  stepped_by running (f ∷ rest) status frames =
      if_inside f (apply p s f rest (effect_at p s f))
      (λ inside. runs f rest (record { status = status; frames = frames; inside = inside }) refl)
  stepped_by (raised o) (f ∷ rest) status frames =
      if_inside f (unwound p s f rest o (handling_at p s f o))
      (λ inside. unwinds f rest o (record { status = status; frames = frames; inside = inside }) refl)
  stepped_by done (f ∷ rest) status frames = stays refl
  stepped_by (uncaught o) (f ∷ rest) status frames = stays refl
  stepped_by (failed e) (f ∷ rest) status frames = stays refl

  pub stepped : Stepped (step p s)
  unfolding step
  stepped = stepped_by s.status s.frames refl refl

-- ---- ends
abbrev pub Ended : Status → Type 0
Ended running = ⊥
Ended (raised o) = ⊥
Ended done = Unit {0}
Ended (uncaught o) = Unit {0}
Ended (failed e) = Unit {0}

abbrev Faulty : Status → Type 0
Faulty running = ⊥
Faulty (raised o) = ⊥
Faulty done = ⊥
Faulty (uncaught o) = ⊥
Faulty (failed e) = Unit {0}

module _ (p : Program) where
  ended_by_lem : (s t : State) → Stepped p s t → Ended s.status → t ≡ s
  ended_by_lem s t (runs f rest h e) end = absurd (rw h.status at end)
  ended_by_lem s t (unwinds f rest o h e) end = absurd (rw h.status at end)
  ended_by_lem s t (stays e) end = e

  -- "after an end the state stays as the end left it"
  pub step_ended : (s : State) → Ended s.status → step p s ≡ s
  step_ended s = ended_by_lem s (step p s) (stepped p s)

  module _ (s : State) where
    fault_apply : (f : Frame) (rest : List Frame) (e : Effect) → Faulty (apply p s f rest e).status → apply p s f rest e ≡ with_status s (apply p s f rest e).status
    fault_apply f rest Next h = absurd h
    fault_apply f rest (Jump to) h = absurd h
    fault_apply f rest (Write a v) h = absurd h
    fault_apply f rest (Load a o x) h = absurd h
    fault_apply f rest (LoadStatic a x) h = absurd h
    fault_apply f rest (Make a k) h = absurd h
    fault_apply f rest (Store o x v) h = absurd h
    fault_apply f rest (StoreStatic x v) h = absurd h
    fault_apply f rest (Call m c) h = absurd h
    fault_apply f [] (Exit v) h = absurd h
    fault_apply f (g ∷ rest) (Exit v) h = absurd h
    fault_apply f rest (Raise o) h = absurd h
    fault_apply f rest (RaiseNew k) h = absurd h
    fault_apply f rest (Fail e) h = refl

    fault_unwound : (f : Frame) (rest : List Frame) (o : ℕ) (g : Option ℕ) → Faulty (unwound p s f rest o g).status → ⊥
    fault_unwound f rest o (Some g) h = h
    fault_unwound f [] o None h = h
    fault_unwound f (g ∷ rest) o None h = h

    fault_by : (t : State) → Stepped p s t → Faulty t.status → t ≡ with_status s t.status
    fault_by t (runs f rest h e) fault = rw e (fault_apply f rest (effect_at p s f) (rw e at fault))
    fault_by t (unwinds f rest o h e) fault = absurd (fault_unwound f rest o (handling_at p s f o) (rw e at fault))
    fault_by t (stays e) fault = rw e

    -- "a fault changes nothing else"
    pub step_failed : (e : Fault) → (step p s).status ≡ failed e → step p s ≡ with_status s (failed e)
    step_failed e fault = fault_by (step p s) (stepped p s) (rw fault tt) ∙ ap (with_status s) fault

  -- ---- k steps from a state
  unfoldable pub after : ℕ → State → State
  after zero s = s
  after (suc k) s = after k (step p s)

  -- the last of them apart
  pub after_last : (k : ℕ) (s : State) → after (suc k) s ≡ step p (after k s)
  unfolding after
  after_last zero s = refl
  after_last (suc k) s = after_last k (step p s)

  pub after_ended : (k : ℕ) (s : State) → Ended s.status → after k s ≡ s
  unfolding after
  after_ended zero s end = refl
  after_ended (suc k) s end = ap (after k) (step_ended s end) ∙ after_ended k s end

  pub continues : (n k : ℕ) → run p (n + k) ≡ after k (run p n)
  unfolding after run
  continues n zero = rw add-zero
  continues n (suc k) = rw add-suc (ap (step p) (continues n k) ∙ sym (after_last k (run p n)))

  pub run_ended : (n k : ℕ) → Ended (run p n).status → run p (n + k) ≡ run p n
  run_ended n k end = continues n k ∙ after_ended k (run p n) end
