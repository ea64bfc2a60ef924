-- Which values a step looks at that does not stay in its frame. Nothing here needs to be believed to read a promise of the
-- stepper. Definitions only.
use Rattle.std.specs.Prelude.{ℕ, ◌-◌, eqb, ltb}
use Rattle.instruction.specs.Word.{pick}
use Rattle.cells.specs.declared.Value.{Value}
use Rattle.cells.specs.Cells.{zero_value}
use Rattle.cells.specs.Reads.{object_place}
use Rattle.site.specs.Site.{a_of, c_of}
use Rattle.site.specs.Work.{nowhere}
use Rattle.turn.specs.declared.Status.{Status}
use Rattle.turn.specs.declared.Status.TheVariants.{Running, Raised, Done, Uncaught, Failed}
use Rattle.shift.specs.declared.At.{At}
use Rattle.shift.specs.declared.Look.{Look}

-- the number before; before 0 there is none
abbrev pub preceding_of : ℕ → ℕ
preceding_of n = pick (ltb 0 n) (n - 1) nowhere

-- the top of so many frames, and the one below it
abbrev pub top_of : ℕ → ℕ
top_of depth = preceding_of depth

abbrev pub below_of : ℕ → ℕ
below_of depth = pick (ltb 1 depth) (depth - 2) nowhere

-- one step fewer, none below none
abbrev pub next_left : ℕ → ℕ
next_left n = n - 1

-- a virtual call looks at the register of field c, others at that of field a; where there is no frame, method and address are ones
-- that no program has
unfoldable pub look_of : At → Look
look_of h =
    record {
      top = top_of h.run.tally.depth;
      first = pick (eqb h.opcode 12) (c_of h.word) (a_of h.word);
      below = below_of h.run.tally.depth;
      none = zero_value;
      missing = 4294967295;
      class = 64;
    }

-- where the object stands whose class is asked: the pending one, or the one in the register
abbrev pub thrown_by : Status → Value → ℕ
thrown_by Running x = object_place x
thrown_by (Raised o) x = o
thrown_by Done x = object_place x
thrown_by (Uncaught o) x = object_place x
thrown_by (Failed e) x = object_place x

abbrev pub thrown_at : At → Value → ℕ
thrown_at h x = thrown_by h.run.tally.status x
