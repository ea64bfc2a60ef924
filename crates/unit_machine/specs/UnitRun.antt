-- The machine over units, and its run. A frame stands at a unit place where one of document 01's machine stands at an address. Of a
-- method that has units it looks at these alone, and never at its instruction frames; methods without units, classes, fields,
-- statics and handlers are the program's. Definitions only.
use Rattle.std.specs.Prelude.{List, [], ◌∷◌, ◌++◌, ℕ, zero, suc, ◌+◌, ◌-◌, ltb, length, get_or, set, Option, Some, None}
use Rattle.instruction.specs.Word.{pick}
use Rattle.program.specs.Lists.{tab}
use Rattle.program.specs.Program.{Program, registers, arguments, code_length, instruction_at, handler_target}
use Rattle.search.specs.Search.{handler_for}
use Rattle.machine.specs.declared.Value.{Value}
use Rattle.machine.specs.declared.Value.TheVariants.{Reference}
use Rattle.machine.specs.declared.Effect.{Effect}
use Rattle.machine.specs.declared.Effect.TheVariants.{Next, Jump, Write, Load, LoadStatic, Make, Store, StoreStatic, Call, Exit}
use Rattle.machine.specs.declared.Effect.TheVariants.{Raise, RaiseNew, Fail}
use Rattle.machine.specs.State.{Frame, Status, running, raised, done, uncaught, failed, State, null}
use Rattle.machine.specs.State.{register, object_at, cell, static, start}
use Rattle.machine.specs.Decide.{decide}
use Rattle.machine.specs.Run.{moved, resumed, entered, fresh, stored, with_frames, with_status, dropped}
use Rattle.units.specs.Units.{unit_at, length_at, address_in, place_in}
use Rattle.units.specs.Formats.{opcode_at}
use Rattle.unit_machine.specs.UnitDeed.{Deed, does, enters, deed}

-- "a translated method, run by a machine over units": the units of each method that has some
abbrev pub Listing : Type 0
Listing = ℕ → Option (List ℕ)

-- what the instruction at a frame's place does; without units, the one at its address
abbrev pub deed_at : Program → State → Frame → Option (List ℕ) → Deed
deed_at p s f None = does (decide p s f (instruction_at p f.method f.address))
deed_at p s f (Some us) =
    deed p s f (length us) (opcode_at us f.address) (unit_at us f.address) (unit_at us (f.address + 1)) (unit_at us (f.address + 2))

-- "then goes one on": to the next address; of units, to the place after the instruction, which has "a length of 0 to 5 units"
abbrev pub onward : Option (List ℕ) → ℕ → ℕ
onward None at = suc at
onward (Some us) at = at + length_at us at

-- the place past a method's last
abbrev pub end_of : Program → ℕ → Option (List ℕ) → ℕ
end_of p m None = code_length p m
end_of p m (Some us) = length us

-- "unit places read as addresses"; and the place of an address. Handlers are in addresses
abbrev pub to_address : Option (List ℕ) → ℕ → ℕ
to_address None at = at
to_address (Some us) at = address_in us at

abbrev pub to_place : Option (List ℕ) → ℕ → ℕ
to_place None a = a
to_place (Some us) a = place_in us a

-- the frame at another place, with a register written
abbrev pub unit_wrote : Frame → ℕ → ℕ → Value → Frame
unit_wrote f to a v = record { method = f.method; address = to; registers = set f.registers a v; result = f.result }

-- a new frame of method m, "all zero but the arguments", which are "held in the last a registers" and stand in the caller's
-- registers rs, one by one
abbrev pub entered_from : Program → ℕ → List ℕ → Frame → Frame
entered_from p m rs f =
    record {
      method = m;
      address = 0;
      registers =
          tab (registers p m)
          (λ i. pick (ltb i (registers p m - arguments p m)) null (register f (get_or rs (i - (registers p m - arguments p m)) 0)));
      result = null;
    }

-- "A caller stays at its call until the return, then goes one on; its result becomes the value"; "done (last frame returns)": it
-- stands at its call's place, and goes on by its call's length
abbrev pub unit_returned : Listing → State → Value → List Frame → State
unit_returned u s v [] = record { frames = []; objects = s.objects; statics = s.statics; status = done }
unit_returned u s v (g ∷ rest) = with_frames s (resumed g (onward (u g.method) g.address) v ∷ rest)

-- the state after an effect at the top frame f, with the frames below it; `next` is the place after f's instruction
abbrev pub unit_apply : Program → Listing → State → Frame → List Frame → ℕ → Effect → State
unit_apply p u s f rest next Next = with_frames s (moved f next ∷ rest)
unit_apply p u s f rest next (Jump to) = with_frames s (moved f to ∷ rest)
unit_apply p u s f rest next (Write a v) = with_frames s (unit_wrote f next a v ∷ rest)
unit_apply p u s f rest next (Load a o x) = with_frames s (unit_wrote f next a (cell s o x) ∷ rest)
unit_apply p u s f rest next (LoadStatic a x) = with_frames s (unit_wrote f next a (static s x) ∷ rest)
-- "Objects are numbered from 0 as made, none freed"
unit_apply p u s f rest next (Make a k) =
    record {
      frames = unit_wrote f next a (Reference (length s.objects)) ∷ rest;
      objects = s.objects ++ fresh p k ∷ [];
      statics = s.statics;
      status = running;
    }
unit_apply p u s f rest next (Store o x v) =
    record {
      frames = moved f next ∷ rest;
      objects = set s.objects o (stored (object_at s o) x v);
      statics = s.statics;
      status = running;
    }
unit_apply p u s f rest next (StoreStatic x v) =
    record { frames = moved f next ∷ rest; objects = s.objects; statics = set s.statics x v; status = running }
unit_apply p u s f rest next (Call m c) = with_frames s (entered p m c f ∷ f ∷ rest)
unit_apply p u s f rest next (Exit v) = unit_returned u s v rest
-- "Throw makes the object pending, in one step"
unit_apply p u s f rest next (Raise o) = with_status s (raised o)
-- "The step that would fault makes such an object, its fields zero, and makes it pending"
unit_apply p u s f rest next (RaiseNew k) =
    record {
      frames = s.frames;
      objects = s.objects ++ fresh p k ∷ [];
      statics = s.statics;
      status = raised (length s.objects);
    }
-- "a fault changes nothing else"
unit_apply p u s f rest next (Fail e) = with_status s (failed e)

-- the state after a deed: an effect, or a new frame above the caller, which "stays at its call"
abbrev pub carried : Program → Listing → State → Frame → List Frame → Deed → State
carried p u s f rest (does e) = unit_apply p u s f rest (onward (u f.method) f.address) e
carried p u s f rest (enters m rs) = with_frames s (entered_from p m rs f ∷ f ∷ rest)

-- "A step with one pending takes the top frame's handler at its address (the object becomes the result) or drops the frame"
abbrev pub unit_unwound : Program → Listing → State → Frame → List Frame → ℕ → Option ℕ → State
unit_unwound p u s f rest o (Some h) =
    with_frames s (resumed f (to_place (u f.method) (handler_target p f.method h)) (Reference o) ∷ rest)
unit_unwound p u s f rest o None = dropped s o rest

-- a step by status and top frame. "after an end the state stays as the end left it"; at a place outside its method the state
-- stays too
abbrev pub unit_step_by : Program → Listing → State → Status → List Frame → State
unit_step_by p u s e [] = s
unit_step_by p u s running (f ∷ rest) =
    pick (ltb f.address (end_of p f.method (u f.method))) (carried p u s f rest (deed_at p s f (u f.method))) s
unit_step_by p u s (raised o) (f ∷ rest) =
    pick (ltb f.address (end_of p f.method (u f.method)))
    (unit_unwound p u s f rest o (handler_for p f.method (to_address (u f.method) f.address) (object_at s o).class))
    s
unit_step_by p u s done (f ∷ rest) = s
unit_step_by p u s (uncaught o) (f ∷ rest) = s
unit_step_by p u s (failed e) (f ∷ rest) = s

unfoldable pub unit_step : Program → Listing → State → State
unit_step p u s = unit_step_by p u s s.status s.frames

-- the state after n steps. "It starts with one frame, of method 0 at address 0, with no object and nothing pending": at place 0
unfoldable pub unit_run : Program → Listing → ℕ → State
unit_run p u zero = start p
unit_run p u (suc n) = unit_step p u (unit_run p u n)
