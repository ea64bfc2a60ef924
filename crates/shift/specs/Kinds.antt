-- What each kind of step comes to that does not stay in its frame. Nothing here needs to be believed to read a promise of the
-- stepper. Definitions only.
use Rattle.std.specs.Prelude.{List, ℕ}
use Rattle.program.specs.Tables.{program_in}
use Rattle.machine.specs.declared.Effect.TheVariants.{Make, Call, Exit, RaiseNew}
use Rattle.machine.specs.Decide.{virtual_call, throw}
use Rattle.cells.specs.Cells.{value_of}
use Rattle.site.specs.Site.{a_of, b_of, c_of}
use Rattle.shift.specs.declared.At.{At}
use Rattle.shift.specs.declared.Seen.{Seen}
use Rattle.shift.specs.declared.Shift.{Shift}
use Rattle.shift.specs.Shift.{shifted, unwound, returned_in}
use Rattle.shift.specs.Stay.{raised_class}

-- of the table, and of what it looks at
abbrev pub Shifting : Type 0
Shifting = List ℕ → At → Seen → Shift

abbrev pub make_shifting : Shifting
make_shifting t h e = shifted (program_in t) h e.below (Make (a_of h.word) (b_of h.word))

abbrev pub new_shifting : Shifting
new_shifting t h e = shifted (program_in t) h e.below (RaiseNew (raised_class h.how))

abbrev pub static_shifting : Shifting
static_shifting t h e = shifted (program_in t) h e.below (Call (a_of h.word) (c_of h.word))

abbrev pub virtual_shifting : Shifting
virtual_shifting t h e =
    shifted (program_in t) h e.below
    (virtual_call (program_in t) e.class (a_of h.word) (b_of h.word) (c_of h.word) (value_of e.value))

abbrev pub leave_shifting : Shifting
leave_shifting t h e = shifted (program_in t) h e.below (Exit (returned_in h.opcode e.value))

abbrev pub throw_shifting : Shifting
throw_shifting t h e = shifted (program_in t) h e.below (throw (program_in t) e.class (value_of e.value))

abbrev pub unwind_shifting : Shifting
unwind_shifting t h e = unwound (program_in t) h e.method e.address e.class
