-- What an instruction that stays in its frame does to the lent slices. Nothing here needs to be believed to read a promise of
-- the stepper. Definitions only.
use Rattle.std.specs.Prelude.{List, map, ℕ, eqb, get_or, set}
use Rattle.instruction.specs.declared.Instruction.{Instruction}
use Rattle.instruction.specs.Word.{pick}
use Rattle.program.specs.Tables.{program_in}
use Rattle.cells.specs.declared.Frame as cells
use Rattle.cells.specs.declared.Value.{Value}
use Rattle.cells.specs.Reads.{object_place}
use Rattle.store.specs.Store.{absent_frame, absent_object, result_of, registers_of, class_of, cells_of, with_address, with_register, with_cell}
use Rattle.site.specs.declared.Site.{Site}
use Rattle.site.specs.declared.Gone.{Gone}
use Rattle.site.specs.declared.Seen.{Seen}
use Rattle.site.specs.declared.Work.{Work}
use Rattle.site.specs.Site.{want_of, is_class, leaves_of, left_at}
use Rattle.site.specs.Work.{decided_in, binop_of, branch_of, iget_of, iput_of, sget_of, sput_of, classed_of, plain_of}
use Rattle.drive.specs.Models.{Lent, lent, Done, done}

-- what an instruction comes to, of the values it looks at
abbrev pub Working : Type 0
Working = List ℕ → Site → Seen → Work

-- the values that it looks at
abbrev pub first_in : Lent → Site → Value
first_in m s = get_or (registers_of (get_or m.frames s.top absent_frame)) (want_of s).first (want_of s).none

abbrev pub second_in : Lent → Site → Value
second_in m s = get_or (registers_of (get_or m.frames s.top absent_frame)) (want_of s).second (want_of s).none

abbrev pub result_in : Lent → Site → Value
result_in m s = get_or (map result_of m.frames) s.top (want_of s).none

abbrev pub class_in : Lent → Site → ℕ
class_in m s = get_or (map class_of m.objects) (object_place (first_in m s)) (want_of s).class

abbrev pub cell_in : Lent → Site → Value
cell_in m s = get_or (cells_of (get_or m.objects (object_place (first_in m s)) absent_object)) (want_of s).field (want_of s).none

abbrev pub static_in : Lent → Site → Value
static_in m s = get_or m.statics (want_of s).fixed (want_of s).none

abbrev pub seen_in : Lent → Site → Seen
seen_in m s =
    record {
      first = first_in m s;
      second = second_in m s;
      result = result_in m s;
      class = class_in m s;
      cell = cell_in m s;
      fixed = static_in m s;
    }

abbrev pub work_in : Working → List ℕ → Lent → Site → Work
work_in w t m s = w t s (seen_in m s)

-- what it writes
abbrev pub wrote_frames : List cells.Frame → ℕ → Work → List cells.Frame
wrote_frames fs top e = set fs top (with_register (get_or fs top absent_frame) e.to e.value)

abbrev pub moved_frames : List cells.Frame → ℕ → ℕ → List cells.Frame
moved_frames fs top a = set fs top (with_address (get_or fs top absent_frame) a)

abbrev pub worked_on : Lent → ℕ → Work → Lent
worked_on m top e =
    lent (moved_frames (wrote_frames m.frames top e) top e.address)
    (set m.objects e.object (with_cell (get_or m.objects e.object absent_object) e.cell e.value))
    (set m.statics e.fixed e.value)

unfoldable pub worked : Working → List ℕ → Lent → Site → Done Gone
worked w t m s = done (work_in w t m s).gone (worked_on m s.top (work_in w t m s))

-- one a kind of instruction, by its word
abbrev pub work_on : (ℕ → Instruction) → Working
work_on i t s e = decided_in (program_in t) s e (i s.word)

abbrev pub done_by : (ℕ → Instruction) → List ℕ → Lent → Site → Done Gone
done_by i = worked (work_on i)

abbrev pub leave_done : List ℕ → Lent → Site → Done Gone
leave_done t m s = done (left_at s) m

-- the instruction at a site, by its opcode
abbrev pub performed : List ℕ → Lent → Site → Done Gone
performed t m s =
    pick (eqb s.opcode 5) (done_by binop_of t m s)
    (pick (eqb s.opcode 4) (done_by branch_of t m s)
    (pick (eqb s.opcode 8) (done_by iget_of t m s)
    (pick (eqb s.opcode 9) (done_by iput_of t m s)
    (pick (eqb s.opcode 10) (done_by sget_of t m s)
    (pick (eqb s.opcode 11) (done_by sput_of t m s)
    (pick (leaves_of s) (leave_done t m s)
    (pick (is_class s) (done_by classed_of t m s) (done_by plain_of t m s))))))))
