-- A claim: a mask for each slot. Which bit a value has, and when it lies in a mask. Definitions only.
use Rattle.std.specs.Prelude.{◌≡◌, true, List, ℕ, ℤ, get_or}
use Rattle.instruction.specs.Word.{pick}
use Rattle.mask.specs.declared.Mask.{Mask}
use Rattle.mask.specs.Mask.{zero_bit, other_bit, has}
use Rattle.arithmetic.specs.Arithmetic.{is_zero}
use Rattle.machine.specs.declared.Value.{Value}
use Rattle.machine.specs.declared.Value.TheVariants.{Number, Reference}
use Rattle.machine.specs.State.{Object, no_object}

pub data Slot : Type 0 where
  -- "`11 m p` then the masks of m's registers and result, by method and address"
  register_at : (method address register : ℕ) → Slot
  result_at : (method address : ℕ) → Slot
  -- "`12 c f` mask for each class and field it has; `13 s` mask"
  field_of : (class field : ℕ) → Slot
  static_of : (static : ℕ) → Slot
  -- "`14 m` mask returned; `15 m` mask of exceptions leaving m"
  returned_by : (method : ℕ) → Slot
  leaving : (method : ℕ) → Slot

abbrev pub Claim : Type 0
Claim = Slot → Mask

-- "62 for number zero, 63 for another number"
abbrev pub number_bit : ℤ → ℕ
number_bit z = pick (is_zero z) zero_bit other_bit

-- "its class's bit for an object", which is one of these
abbrev pub bit_of : List Object → Value → ℕ
bit_of objects (Number z) = number_bit z
bit_of objects (Reference o) = (get_or objects o no_object).class

-- "A value lies in a mask that has its bit"
abbrev pub LiesIn : List Object → Value → Mask → Type 0
LiesIn objects v m = has m (bit_of objects v) ≡ true
