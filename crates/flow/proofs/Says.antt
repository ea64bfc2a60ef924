-- What `Covered` says, taken apart to single values: a record that says less refuses these. Assumes nothing.
use mathlib.Core.Path.{◌≡◌}
use mathlib.Core.Bool.{true}
use mathlib.Core.List.{List, [], ◌∷◌, Memᴰ}
use Prim.Native.Nat.{ℕ, zero, suc, ◌<◌}
use native.Mathlib.Omega.{arith}
use lib.ListN.{length, get_or}
use Rattle.program.specs.Lists.{Every}
use Rattle.program.specs.Program.{Program, registers}
use Rattle.search.specs.Search.{has_field}
use Rattle.machine.specs.declared.Value.TheVariants.{Reference}
use Rattle.machine.specs.State.{Frame, no_frame, no_object, register, object_at, cell, static}
use Rattle.machine.specs.Run.{run}
use Rattle.machine.specs.History.{Made, Left, calls, leavings}
use Rattle.flow.specs.Claim.{register_at, result_at, field_of, static_of, leaving, Claim, LiesIn}
use Rattle.flow.specs.Covered.{Covered}

-- what holds of every element holds of each by index
each_getD : {A : Type 0} (P : A → Type 0) (d : A) (xs : List A) → Every P xs → (i : ℕ) → i < length xs → P (get_or xs i d)
each_getD P d [] h i l = absurd (omega arith)
each_getD P d (x ∷ xs) h zero l = h.0
each_getD P d (x ∷ xs) h (suc i) l = each_getD P d xs h.1 i (omega arith)

module _ (p : Program) (n : ℕ) where
  -- frame i from the top, after n steps
  abbrev frame : ℕ → Frame
  frame i = get_or (run p n).frames i no_frame

  module _ (c : Claim) (list : List Made) (h : Covered p c list n) where
    -- each register and the result of each open frame
    pub each_register : (i r : ℕ) → i < length (run p n).frames → r < registers p (frame i).method
        → LiesIn (run p n).objects (register (frame i) r) (c (register_at (frame i).method (frame i).address r))
    each_register i r l = (each_getD _ no_frame (run p n).frames h.frames_in i l).registers_in r

    pub each_result : (i : ℕ) → i < length (run p n).frames
        → LiesIn (run p n).objects (frame i).result (c (result_at (frame i).method (frame i).address))
    each_result i l = (each_getD _ no_frame (run p n).frames h.frames_in i l).result_in

    -- each field that an object's class has, each static
    pub each_field : (o x : ℕ) → o < length (run p n).objects → has_field p (object_at (run p n) o).class x ≡ true
        → LiesIn (run p n).objects (cell (run p n) o x) (c (field_of (object_at (run p n) o).class x))
    each_field o x l = (each_getD _ no_object (run p n).objects h.objects_in o l).fields_in x

    pub each_static : (x : ℕ) → x < p.statics → LiesIn (run p n).objects (static (run p n) x) (c (static_of x))
    each_static = h.statics_in

    -- each call made so far, each exception that has left a method
    pub each_call : (i : ℕ) (none : Made) → i < length (calls p n) → Memᴰ (get_or (calls p n) i none) list
    each_call i none = each_getD _ none (calls p n) h.calls_in i

    pub each_leaving : (i : ℕ) (none : Left) → i < length (leavings p n)
        → LiesIn (run p n).objects (Reference (get_or (leavings p n) i none).object) (c (leaving (get_or (leavings p n) i none).method))
    each_leaving i none = each_getD _ none (leavings p n) h.leavings_in i
