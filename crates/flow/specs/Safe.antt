-- Effects that keep the invariant of a run under a claim. Need not be believed to read the theorem. Definitions only.
use Rattle.std.specs.Prelude.{◌≡◌, true, List, suc, ◌<◌, length, get_or}
use Rattle.program.specs.Program.{Program, class_count}
use Rattle.search.specs.Search.{has_field}
use Rattle.machine.specs.declared.Value.TheVariants.{Reference}
use Rattle.machine.specs.declared.Effect.{Effect}
use Rattle.machine.specs.declared.Effect.TheVariants.{Next, Jump, Write, Load, LoadStatic, Make, Store, StoreStatic, Call, Exit, Raise}
use Rattle.machine.specs.declared.Effect.TheVariants.{RaiseNew, Fail}
use Rattle.machine.specs.State.{Frame, Object, State, no_object, object_at, cell, static}
use Rattle.machine.specs.Run.{moved, wrote, entered}
use Rattle.flow.specs.Claim.{field_of, static_of, returned_by, Claim}
use Rattle.flow.specs.Calls.{CallAt}
use Rattle.flow.specs.Inside.{RaisedAt, Lies, FrameIn}

module _ (p : Program) (c : Claim) where
  -- an effect at the top frame f that keeps the invariant; a new object's, with every list of objects in which it has its class
  abbrev pub SafeEffect : State → Frame → Effect → Type 0
  SafeEffect s f Next = FrameIn p c s.objects (moved f (suc f.address))
  SafeEffect s f (Jump to) = FrameIn p c s.objects (moved f to)
  SafeEffect s f (Write a v) = FrameIn p c s.objects (wrote f a v)
  SafeEffect s f (Load a o x) = FrameIn p c s.objects (wrote f a (cell s o x))
  SafeEffect s f (LoadStatic a x) = FrameIn p c s.objects (wrote f a (static s x))
  SafeEffect s f (Make a k) =
      (k < class_count p)
      × ((os : List Object) → FrameIn p c os f → (get_or os (length s.objects) no_object).class ≡ k
      → FrameIn p c os (wrote f a (Reference (length s.objects))))
  SafeEffect s f (Store o x v) =
      (has_field p (object_at s o).class x ≡ true)
      × Lies p c s.objects v (field_of (object_at s o).class x)
      × FrameIn p c s.objects (moved f (suc f.address))
  SafeEffect s f (StoreStatic x v) = Lies p c s.objects v (static_of x) × FrameIn p c s.objects (moved f (suc f.address))
  SafeEffect s f (Call m a) = CallAt p c f.method f.address m × FrameIn p c s.objects (entered p m a f)
  SafeEffect s f (Exit v) = Lies p c s.objects v (returned_by f.method)
  SafeEffect s f (Raise o) = RaisedAt p c f.method f.address (object_at s o).class
  SafeEffect s f (RaiseNew k) = (k < class_count p) × RaisedAt p c f.method f.address k
  SafeEffect s f (Fail e) = Unit {0}
