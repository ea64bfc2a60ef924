-- The machine's step, and the run: the state after n steps, fed the program alone. Definitions only.
use Rattle.std.specs.Prelude.{List, [], ◌∷◌, ◌++◌, ℕ, zero, suc, ◌+◌, ◌-◌, ltb, length, set, replicate, Option, Some, None}
use Rattle.instruction.specs.Word.{pick}
use Rattle.program.specs.Lists.{tab}
use Rattle.program.specs.Program.{Program, field_count, registers, arguments, code_length, instruction_at, handler_target}
use Rattle.search.specs.Search.{handler_for}
use Rattle.machine.specs.declared.Value.{Value}
use Rattle.machine.specs.declared.Value.TheVariants.{Reference}
use Rattle.machine.specs.declared.Effect.{Effect}
use Rattle.machine.specs.declared.Effect.TheVariants.{Next, Jump, Write, Load, LoadStatic, Make, Store, StoreStatic, Call, Exit}
use Rattle.machine.specs.declared.Effect.TheVariants.{Raise, RaiseNew, Fail}
use Rattle.machine.specs.State.{Frame, Object, Status, running, raised, done, uncaught, failed, State, null, register, object_at, cell, static, start}
use Rattle.machine.specs.Decide.{decide}

-- the frame at another address; one on, with a register written; at another address, with another result
abbrev pub moved : Frame → ℕ → Frame
moved f to = record { method = f.method; address = to; registers = f.registers; result = f.result }

abbrev pub wrote : Frame → ℕ → Value → Frame
wrote f a v = record { method = f.method; address = suc f.address; registers = set f.registers a v; result = f.result }

abbrev pub resumed : Frame → ℕ → Value → Frame
resumed f to v = record { method = f.method; address = to; registers = f.registers; result = v }

-- a new frame of method m, "all zero but the arguments", which are "held in the last a registers" and stand in the caller's
-- registers from c on
abbrev pub entered : Program → ℕ → ℕ → Frame → Frame
entered p m c f =
    record {
      method = m;
      address = 0;
      registers =
          tab (registers p m)
          (λ i. pick (ltb i (registers p m - arguments p m)) null (register f (c + (i - (registers p m - arguments p m)))));
      result = null;
    }

-- a new object of class k, "Fields .. start at 0"
abbrev pub fresh : Program → ℕ → Object
fresh p k = record { class = k; cells = replicate (field_count p) null }

abbrev pub stored : Object → ℕ → Value → Object
stored o x v = record { class = o.class; cells = set o.cells x v }

abbrev pub with_frames : State → List Frame → State
with_frames s fs = record { frames = fs; objects = s.objects; statics = s.statics; status = running }

abbrev pub with_status : State → Status → State
with_status s e = record { frames = s.frames; objects = s.objects; statics = s.statics; status = e }

-- "A caller stays at its call until the return, then goes one on; its result becomes the value"; "done (last frame returns)"
abbrev pub returned : State → Value → List Frame → State
returned s v [] = record { frames = []; objects = s.objects; statics = s.statics; status = done }
returned s v (g ∷ rest) = with_frames s (resumed g (suc g.address) v ∷ rest)

-- the state after an effect at the top frame f, with the frames below it
abbrev pub apply : Program → State → Frame → List Frame → Effect → State
apply p s f rest Next = with_frames s (moved f (suc f.address) ∷ rest)
apply p s f rest (Jump to) = with_frames s (moved f to ∷ rest)
apply p s f rest (Write a v) = with_frames s (wrote f a v ∷ rest)
apply p s f rest (Load a o x) = with_frames s (wrote f a (cell s o x) ∷ rest)
apply p s f rest (LoadStatic a x) = with_frames s (wrote f a (static s x) ∷ rest)
-- "Objects are numbered from 0 as made, none freed"
apply p s f rest (Make a k) =
    record {
      frames = wrote f a (Reference (length s.objects)) ∷ rest;
      objects = s.objects ++ fresh p k ∷ [];
      statics = s.statics;
      status = running;
    }
apply p s f rest (Store o x v) =
    record {
      frames = moved f (suc f.address) ∷ rest;
      objects = set s.objects o (stored (object_at s o) x v);
      statics = s.statics;
      status = running;
    }
apply p s f rest (StoreStatic x v) =
    record {
      frames = moved f (suc f.address) ∷ rest;
      objects = s.objects;
      statics = set s.statics x v;
      status = running;
    }
apply p s f rest (Call m c) = with_frames s (entered p m c f ∷ f ∷ rest)
apply p s f rest (Exit v) = returned s v rest
-- "Throw makes the object pending, in one step"
apply p s f rest (Raise o) = with_status s (raised o)
-- "The step that would fault makes such an object, its fields zero, and makes it pending"
apply p s f rest (RaiseNew k) =
    record {
      frames = s.frames;
      objects = s.objects ++ fresh p k ∷ [];
      statics = s.statics;
      status = raised (length s.objects);
    }
-- "a fault changes nothing else"
apply p s f rest (Fail e) = with_status s (failed e)

-- "drops the frame"; "uncaught (last frame dropped)"
abbrev pub dropped : State → ℕ → List Frame → State
dropped s o [] = record { frames = []; objects = s.objects; statics = s.statics; status = uncaught o }
dropped s o (g ∷ rest) = record { frames = g ∷ rest; objects = s.objects; statics = s.statics; status = raised o }

-- "A step with one pending takes the top frame's handler at its address (the object becomes the result) or drops the frame"
abbrev pub unwound : Program → State → Frame → List Frame → ℕ → Option ℕ → State
unwound p s f rest o (Some h) = with_frames s (resumed f (handler_target p f.method h) (Reference o) ∷ rest)
unwound p s f rest o None = dropped s o rest

-- a step by status and top frame. "after an end the state stays as the end left it"; at an address outside its method the
-- state stays too
abbrev pub step_by : Program → State → Status → List Frame → State
step_by p s e [] = s
step_by p s running (f ∷ rest) =
    pick (ltb f.address (code_length p f.method))
    (apply p s f rest (decide p s f (instruction_at p f.method f.address)))
    s
step_by p s (raised o) (f ∷ rest) =
    pick (ltb f.address (code_length p f.method))
    (unwound p s f rest o (handler_for p f.method f.address (object_at s o).class))
    s
step_by p s done (f ∷ rest) = s
step_by p s (uncaught o) (f ∷ rest) = s
step_by p s (failed e) (f ∷ rest) = s

unfoldable pub step : Program → State → State
step p s = step_by p s s.status s.frames

-- "The run is fed the program alone": the state after n steps. "Each step is one of Machine above, on the state the step
-- before left"
unfoldable pub run : Program → ℕ → State
run p zero = start p
run p (suc n) = step p (run p n)
