-- The slot that code names by the kind and the numbers of a slot. Definitions only.
use Rattle.flow.specs.Claim.{Slot, register_at, result_at, field_of, static_of, returned_by, leaving}
use Rattle.slots.specs.declared.Slot.{Slot as Named}
use Rattle.slots.specs.declared.Slot.TheVariants.{Register, Result, Field, Static, Returned, Leaving}

abbrev pub slot_of : Named → Slot
slot_of (Register m pc r) = register_at m pc r
slot_of (Result m pc) = result_at m pc
slot_of (Field c x) = field_of c x
slot_of (Static x) = static_of x
slot_of (Returned m) = returned_by m
slot_of (Leaving m) = leaving m
