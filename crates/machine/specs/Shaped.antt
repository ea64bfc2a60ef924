-- What the laws of the run say of its states, and of an effect: sizes, and that every object named has been made. Nothing here
-- needs to be believed to read the run. Definitions only.
use Rattle.std.specs.Prelude.{◌≡◌, ℕ, ◌+◌, ◌<◌, ◌≤◌, length, get_or}
use Rattle.program.specs.Lists.{Every}
use Rattle.program.specs.Program.{Program, class_count, field_count, method_count, registers, arguments, code_length}
use Rattle.machine.specs.declared.Value.{Value}
use Rattle.machine.specs.declared.Value.TheVariants.{Number, Reference}
use Rattle.machine.specs.declared.Effect.{Effect}
use Rattle.machine.specs.declared.Effect.TheVariants.{Next, Jump, Write, Load, LoadStatic, Make, Store, StoreStatic, Call, Exit}
use Rattle.machine.specs.declared.Effect.TheVariants.{Raise, RaiseNew, Fail}
use Rattle.machine.specs.State.{Frame, Object, Status, running, raised, done, uncaught, failed, State, null, register, object_at}

-- a number, or one of the first n objects
abbrev pub Known : ℕ → Value → Type 0
Known n (Number z) = Unit {0}
Known n (Reference o) = o < n

-- the object that a status names is one of the first n
abbrev pub KnownStatus : ℕ → Status → Type 0
KnownStatus n running = Unit {0}
KnownStatus n (raised o) = o < n
KnownStatus n done = Unit {0}
KnownStatus n (uncaught o) = o < n
KnownStatus n (failed e) = Unit {0}

-- a frame has its method's r registers
pub record ShapedFrame (p : Program) (n : ℕ) (f : Frame) : Type 0 where
  pub size : length f.registers ≡ registers p f.method
  pub known : (r : ℕ) → Known n (register f r)
  pub result : Known n f.result

-- an object has a cell for each field
pub record ShapedObject (p : Program) (n : ℕ) (o : Object) : Type 0 where
  pub size : length o.cells ≡ field_count p
  pub known : (x : ℕ) → Known n (get_or o.cells x null)

pub record Shaped (p : Program) (s : State) : Type 0 where
  pub frames : Every (ShapedFrame p (length s.objects)) s.frames
  pub objects : (o : ℕ) → o < length s.objects → ShapedObject p (length s.objects) (object_at s o)
  pub size : length s.statics ≡ p.statics
  pub statics : (x : ℕ) → Known (length s.objects) (get_or s.statics x null)
  pub status : KnownStatus (length s.objects) s.status

-- what an effect at frame f names exists
abbrev pub Fitting : Program → State → Frame → Effect → Type 0
Fitting p s f Next = Unit {0}
Fitting p s f (Jump to) = to < code_length p f.method
Fitting p s f (Write a v) = (a < length f.registers) × Known (length s.objects) v
Fitting p s f (Load a o x) = (a < length f.registers) × (o < length s.objects) × (x < field_count p)
Fitting p s f (LoadStatic a x) = (a < length f.registers) × (x < length s.statics)
Fitting p s f (Make a k) = (a < length f.registers) × (k < class_count p)
Fitting p s f (Store o x v) = (o < length s.objects) × (x < field_count p) × Known (length s.objects) v
Fitting p s f (StoreStatic x v) = (x < length s.statics) × Known (length s.objects) v
Fitting p s f (Call m c) = (m < method_count p) × (c + arguments p m ≤ length f.registers)
Fitting p s f (Exit v) = Known (length s.objects) v
Fitting p s f (Raise o) = o < length s.objects
Fitting p s f (RaiseNew k) = k < class_count p
Fitting p s f (Fail e) = Unit {0}
