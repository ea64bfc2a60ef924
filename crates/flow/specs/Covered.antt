-- Demand 3: the run stays inside the masks of a claim and inside a list of calls. Definitions only.
use Rattle.std.specs.Prelude.{◌≡◌, true, ℕ, ◌<◌, get_or}
use mathlib.Core.List.{List, Memᴰ}
use Rattle.program.specs.Lists.{Every}
use Rattle.program.specs.Program.{Program, registers}
use Rattle.search.specs.Search.{has_field}
use Rattle.machine.specs.declared.Value.TheVariants.{Reference}
use Rattle.machine.specs.State.{Frame, Object, null, register, static}
use Rattle.machine.specs.Run.{run}
use Rattle.machine.specs.History.{Made, calls, leavings}
use Rattle.flow.specs.Claim.{register_at, result_at, field_of, static_of, leaving, Claim, LiesIn}

module _ (p : Program) (c : Claim) where
  -- "The registers and result of a frame .. have the masks of that frame's method and address"
  pub record FrameCovered (objects : List Object) (f : Frame) : Type 0 where
    pub registers_in : (r : ℕ) → r < registers p f.method
        → LiesIn objects (register f r) (c (register_at f.method f.address r))
    pub result_in : LiesIn objects f.result (c (result_at f.method f.address))

  -- "A field that an object's class has takes the mask of that class and field"
  pub record ObjectCovered (objects : List Object) (o : Object) : Type 0 where
    pub fields_in : (x : ℕ) → has_field p o.class x ≡ true
        → LiesIn objects (get_or o.cells x null) (c (field_of o.class x))

  -- the run of the program after n steps
  pub record Covered (list : List Made) (n : ℕ) : Type 0 where
    -- every open frame, "a waiting caller's too"
    pub frames_in : Every (FrameCovered (run p n).objects) (run p n).frames
    pub objects_in : Every (ObjectCovered (run p n).objects) (run p n).objects
    -- "a static has its own"
    pub statics_in : (x : ℕ) → x < p.statics → LiesIn (run p n).objects (static (run p n) x) (c (static_of x))
    -- "A call is made by a step that adds a frame": each call made in the first n steps is in the list
    pub calls_in : Every (λ made. Memᴰ made list) (calls p n)
    -- "An exception leaves a method ..; that object's bit is then in the method's mask of kind `15`"
    pub leavings_in : Every (λ left. LiesIn (run p n).objects (Reference left.object) (c (leaving left.method))) (leavings p n)
