-- What a step that does not stay in its frame does keeps the lent slices' lengths. Assumes nothing.
use mathlib.Core.Path.{◌∙◌}
use mathlib.Core.List.{List}
use Prim.Native.Nat.{ℕ}
use lib.Dec.{eqb}
use lib.ListN.{length-set}
use Rattle.shift.specs.declared.At.{At}
use Rattle.shift.specs.declared.Pass.{Pass}
use Rattle.shift.specs.Kinds.{Shifting, make_shifting, new_shifting, static_shifting, virtual_shifting, leave_shifting, throw_shifting, unwind_shifting}
use Rattle.shift.specs.Shift.{passes_of}
use Rattle.shift.specs.Stay.{is_leaves, is_raises, exits_of}
use Rattle.drive.specs.Models.{Lent}
use Rattle.drive.proofs.Driver.{Same}
use Rattle.drive.proofs.Keeps.{same_self, same_turns, pick_keeps, loop_keeps}
use Rattle.turns.specs.Turns.{pass_one, pass_done, shift_in, popped, resumed, moved, shifted_on, entered_on, shift_done, unwind_done, applied, executed}

-- ---- arguments

pub pass_one_keeps : (t : List ℕ) (m : Lent) (p : Pass) → Same m (pass_one t m p).memory
pass_one_keeps t m p =
    record { frames = length-set m.frames p.above _; objects = (same_self m).objects; statics = (same_self m).statics }

pub pass_keeps : (t : List ℕ) (m : Lent) (p : Pass) → Same m (pass_done t m p).memory
pass_keeps t m p = loop_keeps (λ t q. passes_of q) pass_one pass_one_keeps t p.count m p

-- ---- a step

pub shift_keeps : (w : Shifting) (t : List ℕ) (m : Lent) (h : At) → Same m (shift_done w t m h).memory
unfolding shift_done
shift_keeps w t m h =
    let e = shift_in w t m h in
    let first : Same m (shifted_on m e) =
    record {
      frames =
          length-set (moved (resumed (popped m.frames e) e) e) e.wrote _ ∙ length-set (resumed (popped m.frames e) e) e.moved _
          ∙ length-set (popped m.frames e) e.resumed _
          ∙ length-set m.frames e.popped _;
      objects = length-set m.objects e.made _;
      statics = (same_self m).statics;
    } in
    let second = pass_keeps t (shifted_on m e) e.pass in
    let last : Same (pass_done t (shifted_on m e) e.pass).memory (entered_on (pass_done t (shifted_on m e) e.pass).memory e) =
    record {
      frames = length-set (pass_done t (shifted_on m e) e.pass).memory.frames e.entered _;
      objects = (same_self (pass_done t (shifted_on m e) e.pass).memory).objects;
      statics = (same_self (pass_done t (shifted_on m e) e.pass).memory).statics;
    } in
    same_turns m (pass_done t (shifted_on m e) e.pass).memory _ (same_turns m (shifted_on m e) _ first second) last

pub unwind_keeps : (t : List ℕ) (m : Lent) (h : At) → Same m (unwind_done t m h).memory
unwind_keeps t m h = shift_keeps unwind_shifting t m h

pub apply_keeps : (t : List ℕ) (m : Lent) (h : At) → Same m (applied t m h).memory
apply_keeps t m h =
    pick_keeps (eqb h.opcode 13) m _ _ (shift_keeps static_shifting t m h)
    (pick_keeps (eqb h.opcode 12) m _ _ (shift_keeps virtual_shifting t m h)
    (pick_keeps (exits_of h) m _ _ (shift_keeps leave_shifting t m h)
    (pick_keeps (eqb h.opcode 18) m _ _ (shift_keeps throw_shifting t m h) (shift_keeps make_shifting t m h))))

pub execute_keeps : (t : List ℕ) (m : Lent) (h : At) → Same m (executed t m h).memory
execute_keeps t m h =
    pick_keeps (is_leaves h.how) m _ _ (apply_keeps t m h)
    (pick_keeps (is_raises h.how) m _ _ (shift_keeps new_shifting t m h) (same_self m))
