-- Where an instruction stands, and which values it looks at. Nothing here needs to be believed to read a promise of the stepper.
-- Definitions only.
use Rattle.std.specs.Prelude.{Bool, ◌||◌, ℕ, ◌/◌, ◌%◌, eqb}
use Rattle.instruction.specs.Word.{pick}
use Rattle.cells.specs.Cells.{zero_value}
use Rattle.site.specs.declared.Site.{Site}
use Rattle.site.specs.declared.Want.{Want}
use Rattle.site.specs.declared.Gone.{Gone}
use Rattle.site.specs.declared.How.TheVariants.{Leaves}

-- the fields o a b c d of a word
unfoldable pub opcode_of : ℕ → ℕ
opcode_of w = w / 72057594037927936

unfoldable pub a_of : ℕ → ℕ
a_of w = w / 281474976710656 % 256

unfoldable pub b_of : ℕ → ℕ
b_of w = w / 1099511627776 % 256

unfoldable pub c_of : ℕ → ℕ
c_of w = w / 4294967296 % 256

unfoldable pub d_of : ℕ → ℕ
d_of w = w % 4294967296

-- the register that is tested first, or copied, by opcode: if, sput and check-cast name it by field a, others by b
abbrev pub first_of : ℕ → ℕ → ℕ
first_of o w = pick (eqb o 4) (a_of w) (pick (eqb o 11) (a_of w) (pick (eqb o 20) (a_of w) (b_of w)))

-- the second one: `if` names it by b, iput by a, binop by c
abbrev pub second_of : ℕ → ℕ → ℕ
second_of o w = pick (eqb o 4) (b_of w) (pick (eqb o 9) (a_of w) (c_of w))

-- a register's number is below 16
unfoldable pub want_of : Site → Want
want_of s =
    record {
      first = first_of s.opcode s.word % 16;
      second = second_of s.opcode s.word % 16;
      field = c_of s.word;
      fixed = b_of s.word;
      none = zero_value;
      class = 64;
    }

-- instance-of and check-cast
abbrev pub is_class : Site → Bool
is_class s = eqb s.opcode 19 || eqb s.opcode 20

-- instructions that do not stay in their frame: new-instance, calls, returns, throw
abbrev pub leaves_by : ℕ → Bool
leaves_by o = eqb o 7 || (eqb o 12 || (eqb o 13 || (eqb o 16 || (eqb o 17 || eqb o 18))))

abbrev pub leaves_of : Site → Bool
leaves_of s = leaves_by s.opcode

abbrev pub left_at : Site → Gone
left_at s = record { next = s.pc; how = Leaves }
