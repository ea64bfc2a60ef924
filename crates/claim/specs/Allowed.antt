-- The bits that a claim's masks may have. Definitions only.
use Rattle.std.specs.Prelude.{Bool, ◌||◌, ℕ, eqb, ltb}
use Rattle.mask.specs.Mask.{zero_bit, other_bit, bits_where}
use Rattle.program.specs.Program.{Program, class_count}
use Rattle.flow.specs.Claim.{Slot, register_at, result_at, field_of, static_of, returned_by, leaving, Claim}

-- the bits that a slot's mask may have: "bit c for class c of the program, 62 for number zero, 63 for other numbers, the rest 0"
abbrev pub value_bit : Program → ℕ → Bool
value_bit p k = ltb k (class_count p) || (eqb k zero_bit || eqb k other_bit)

-- "exceptions leaving m (class bits only)"
abbrev pub allowed : Program → Slot → ℕ → Bool
allowed p (register_at m pc r) k = value_bit p k
allowed p (result_at m pc) k = value_bit p k
allowed p (field_of c x) k = value_bit p k
allowed p (static_of x) k = value_bit p k
allowed p (returned_by m) k = value_bit p k
allowed p (leaving m) k = ltb k (class_count p)

-- "a claim with all allowed bits"
unfoldable pub full_claim : Program → Claim
full_claim p s = record { bits = bits_where 64 (allowed p s) }
