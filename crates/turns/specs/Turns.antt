-- What a step that does not stay in its frame does to the lent slices. Nothing here needs to be believed to read a promise of the
-- stepper. Definitions only.
use Rattle.std.specs.Prelude.{List, map, ℕ, eqb, get_or, set}
use Rattle.instruction.specs.Word.{pick}
use Rattle.cells.specs.declared.Frame.{Frame}
use Rattle.cells.specs.declared.Value.{Value}
use Rattle.cells.specs.Cells.{zero_value, zero_frame}
use Rattle.store.specs.Store.{absent_frame, absent_object, method_of, address_of, registers_of, class_of, with_method, with_address, with_result, with_register, with_class}
use Rattle.shift.specs.declared.At.{At}
use Rattle.shift.specs.declared.Pass.{Pass}
use Rattle.shift.specs.declared.Run.{Run}
use Rattle.shift.specs.declared.Seen.{Seen}
use Rattle.shift.specs.declared.Shift.{Shift}
use Rattle.shift.specs.Places.{look_of, thrown_at}
use Rattle.shift.specs.Kinds.{Shifting, make_shifting, new_shifting, static_shifting, virtual_shifting, leave_shifting, throw_shifting, unwind_shifting}
use Rattle.shift.specs.Shift.{passes_of, passed_of}
use Rattle.shift.specs.Stay.{is_leaves, is_raises, exits_of, others_of}
use Rattle.drive.specs.Models.{Lent, lent, Done, done, looped}

-- ---- arguments

-- one is passed
abbrev pub pass_one : List ℕ → Lent → Pass → Done Pass
pass_one t m p =
    done (passed_of p)
    (lent
    (set m.frames p.above
    (with_register (get_or m.frames p.above absent_frame) p.to
    (get_or (registers_of (get_or m.frames p.top absent_frame)) p.from zero_value)))
    m.objects
    m.statics)

-- all are
abbrev pub pass_done : List ℕ → Lent → Pass → Done Pass
pass_done t m p = looped (λ t q. passes_of q) pass_one t p.count m p

-- ---- a step

abbrev pub method_in : Lent → At → ℕ
method_in m h = get_or (map method_of m.frames) (look_of h).top (look_of h).missing

abbrev pub address_in : Lent → At → ℕ
address_in m h = get_or (map address_of m.frames) (look_of h).top (look_of h).missing

abbrev pub below_in : Lent → At → ℕ
below_in m h = get_or (map address_of m.frames) (look_of h).below (look_of h).missing

abbrev pub value_in : Lent → At → Value
value_in m h = get_or (registers_of (get_or m.frames (look_of h).top absent_frame)) (look_of h).first (look_of h).none

abbrev pub class_in : Lent → At → ℕ
class_in m h = get_or (map class_of m.objects) (thrown_at h (value_in m h)) (look_of h).class

abbrev pub seen_in : Lent → At → Seen
seen_in m h =
    record {
      method = method_in m h;
      address = address_in m h;
      below = below_in m h;
      value = value_in m h;
      class = class_in m h;
    }

abbrev pub shift_in : Shifting → List ℕ → Lent → At → Shift
shift_in w t m h = w t h (seen_in m h)

-- what it writes: before arguments are passed, then they and the method
abbrev pub popped : List Frame → Shift → List Frame
popped fs e = set fs e.popped zero_frame

abbrev pub resumed : List Frame → Shift → List Frame
resumed fs e = set fs e.resumed (with_result (get_or fs e.resumed absent_frame) e.value)

abbrev pub moved : List Frame → Shift → List Frame
moved fs e = set fs e.moved (with_address (get_or fs e.moved absent_frame) e.next)

abbrev pub wrote : List Frame → Shift → List Frame
wrote fs e = set fs e.wrote (with_register (get_or fs e.wrote absent_frame) e.to e.value)

abbrev pub entered : List Frame → Shift → List Frame
entered fs e = set fs e.entered (with_method (get_or fs e.entered absent_frame) e.method)

abbrev pub shifted_on : Lent → Shift → Lent
shifted_on m e =
    lent (wrote (moved (resumed (popped m.frames e) e) e) e)
    (set m.objects e.made (with_class (get_or m.objects e.made absent_object) e.class))
    m.statics

abbrev pub entered_on : Lent → Shift → Lent
entered_on m e = lent (entered m.frames e) m.objects m.statics

unfoldable pub shift_done : Shifting → List ℕ → Lent → At → Done Run
shift_done w t m h =
    done (shift_in w t m h).run
    (entered_on (pass_done t (shifted_on m (shift_in w t m h)) (shift_in w t m h).pass).memory (shift_in w t m h))

abbrev pub new_done : List ℕ → Lent → At → Done Run
new_done = shift_done new_shifting

abbrev pub unwind_done : List ℕ → Lent → At → Done Run
unwind_done = shift_done unwind_shifting

-- ---- what a run has come to: an instruction that leaves its frame, by its opcode

abbrev pub applied : List ℕ → Lent → At → Done Run
applied t m h =
    pick (eqb h.opcode 13) (shift_done static_shifting t m h)
    (pick (eqb h.opcode 12) (shift_done virtual_shifting t m h)
    (pick (exits_of h) (shift_done leave_shifting t m h)
    (pick (eqb h.opcode 18) (shift_done throw_shifting t m h) (shift_done make_shifting t m h))))

-- one that raises a new object, or none of these
abbrev pub executed : List ℕ → Lent → At → Done Run
executed t m h =
    pick (is_leaves h.how) (applied t m h)
    (pick (is_raises h.how) (new_done t m h) (done (others_of h) m))
