-- The invariant of a run under a claim whose rules hold: every open frame, object and static lies in its masks, every frame but
-- the bottom one was called where the frame below it waits, and a pending object is one that rules 9 and 10 ask about at the top
-- frame's address. Need not be believed to read the theorem. Definitions only.
use Rattle.std.specs.Prelude.{◌≡◌, List, [], ◌∷◌, ℕ, ◌<◌, length, get_or}
use Rattle.program.specs.Program.{Program, class_count, code_length, instruction_at}
use Rattle.program.specs.Lists.{Every}
use Rattle.machine.specs.declared.Value.{Value}
use Rattle.machine.specs.State.{Frame, Object, Status, running, raised, done, uncaught, failed, State, null, no_object}
use Rattle.flow.specs.Claim.{static_of, Slot, Claim, LiesIn}
use Rattle.flow.specs.Flows.{Flows, Holds}
use Rattle.flow.specs.Rules.{initial_memory, entry, raised_by, rules_of}
use Rattle.flow.specs.Calls.{CallAt}
use Rattle.flow.specs.Covered.{FrameCovered, ObjectCovered}

module _ (p : Program) (c : Claim) where
  -- what the rules ask at an address
  pub record AskedAt (m pc : ℕ) : Type 0 where
    pub entering : pc ≡ 0 → Holds c (entry p m)
    pub rules : Every (λ r. Holds c r.flows) (rules_of p m pc (instruction_at p m pc))

  -- all that the rules ask
  pub record Asked : Type 0 where
    pub memory : Holds c (initial_memory p)
    pub at : (m pc : ℕ) → pc < code_length p m → AskedAt m pc

  -- an exception of class k may be pending there: whatever is asked of the classes raised there is asked of k
  abbrev pub RaisedAt : ℕ → ℕ → ℕ → Type 0
  RaisedAt m pc k = (f : ℕ → Flows) → Holds c (raised_by p m pc (instruction_at p m pc) f) → Holds c (f k)

  -- a value lies in a slot's mask, with these objects
  abbrev pub Lies : List Object → Value → Slot → Type 0
  Lies os v s = LiesIn os v (c s)

  -- a frame at an address inside its method, in the masks there
  pub record FrameIn (os : List Object) (f : Frame) : Type 0 where
    pub inside : f.address < code_length p f.method
    pub masks : FrameCovered p c os f

  -- the frame below, if there is one, waits at a call of method q
  abbrev pub CalledFrom : ℕ → List Frame → Type 0
  CalledFrom q [] = Unit {0}
  CalledFrom q (g ∷ rest) = CallAt p c g.method g.address q

  abbrev pub FramesIn : List Object → List Frame → Type 0
  FramesIn os [] = Unit {0}
  FramesIn os (f ∷ rest) = FrameIn os f × CalledFrom f.method rest × FramesIn os rest

  pub record ObjectIn (os : List Object) (o : Object) : Type 0 where
    pub class_in : o.class < class_count p
    pub masks : ObjectCovered p c os o

  abbrev pub ObjectsIn : List Object → Type 0
  ObjectsIn os = (o : ℕ) → o < length os → ObjectIn os (get_or os o no_object)

  abbrev pub StaticsIn : List Object → List Value → Type 0
  StaticsIn os vs = (x : ℕ) → x < p.statics → Lies os (get_or vs x null) (static_of x)

  -- a pending object, at the top frame
  abbrev pub PendingIn : List Object → List Frame → Status → Type 0
  PendingIn os [] e = Unit {0}
  PendingIn os (f ∷ rest) running = Unit {0}
  PendingIn os (f ∷ rest) (raised o) = RaisedAt f.method f.address (get_or os o no_object).class
  PendingIn os (f ∷ rest) done = Unit {0}
  PendingIn os (f ∷ rest) (uncaught o) = Unit {0}
  PendingIn os (f ∷ rest) (failed e) = Unit {0}

  pub record Inside (s : State) : Type 0 where
    pub frames : FramesIn s.objects s.frames
    pub objects : ObjectsIn s.objects
    pub statics : StaticsIn s.objects s.statics
    pub pending : PendingIn s.objects s.frames s.status
