-- Code units: those that a text says, and the places where instructions start. Definitions only.
use Rattle.std.specs.Prelude.{Bool, false, ◌&&◌, List, [], ◌∷◌, ℕ, zero, suc, ◌*◌, ◌-◌, ◌/◌, ◌%◌, eqb, ltb, leb, length, take, drop, get_or}
use Rattle.text.specs.Hex.{Line, whole, number_of}
use Rattle.instruction.specs.Word.{pick}
use Rattle.program.specs.Lists.{tab}
use Rattle.opcodes.specs.Opcodes.{length_of}

-- "A method comes as one line of four-digit units"; "2, line 1, for bad text, a second line or part of a unit"
abbrev pub one_line : List Line → Bool
one_line [] = false
one_line (l ∷ []) = whole l && eqb (length l.bytes % 4) 0
one_line (l ∷ m ∷ ls) = false

-- the units of such a text: four digits each, the high digit first. The line end is less than a unit
unfoldable pub units_of : List ℕ → List ℕ
units_of text = tab (length text / 4) (λ k. number_of (take 4 (drop (4 * k) text)))

-- the unit at a place; the opcode is its low byte
abbrev pub unit_at : List ℕ → ℕ → ℕ
unit_at us at = get_or us at 0

-- how many units the instruction at a place has
abbrev pub length_at : List ℕ → ℕ → ℕ
length_at us at = length_of (unit_at us at % 256)

-- an instruction that begins with unit u, with so many units from u on: it has a length, and does not end after them
abbrev pub entire : ℕ → ℕ → Bool
entire u left = ltb 0 (length_of (u % 256)) && leb (length_of (u % 256)) left

-- the starts among the units from a place on, of which the first k belong to the instruction before: "the first unused opcode,
-- or instruction cut short, is the last start"
unfoldable pub starts_from : List ℕ → ℕ → ℕ → List ℕ
starts_from [] k at = []
starts_from (u ∷ us) zero at =
    at ∷ pick (entire u (suc (length us))) (starts_from us (length_of (u % 256) - 1) (suc at)) []
starts_from (u ∷ us) (suc k) at = starts_from us k (suc at)

unfoldable pub starts_of : List ℕ → List ℕ
starts_of us = starts_from us 0 0

-- the place of a number in a list, and the list's length where it is not in it
abbrev pub index_of : List ℕ → ℕ → ℕ
index_of [] x = 0
index_of (y ∷ ys) x = pick (eqb x y) 0 (suc (index_of ys x))

-- "unit places read as addresses": the address of the start at a place; and the place of an address, past the last the end of
-- the units
unfoldable pub address_in : List ℕ → ℕ → ℕ
address_in us at = index_of (starts_of us) at

unfoldable pub place_in : List ℕ → ℕ → ℕ
place_in us a = get_or (starts_of us) a (length us)
