-- Which bits are allowed, by computation. Assumes nothing.
use mathlib.Core.Path.{◌≡◌, refl}
use mathlib.Core.List.{List, [], ◌∷◌, map}
use Prim.Native.Nat.{ℕ}
use Rattle.reader.proofs.Examples.{sample_program}
use Rattle.flow.specs.Claim.{Slot, register_at, result_at, field_of, static_of, returned_by, leaving}
use Rattle.claim.specs.Allowed.{full_claim}

-- a slot of each kind
slots : List Slot
slots = register_at 0 0 0 ∷ result_at 0 1 ∷ field_of 1 0 ∷ static_of 0 ∷ returned_by 1 ∷ leaving 1 ∷ []

-- the sample has five classes: their bits, 62 and 63; for what leaves a method "class bits only"
abbrev all : ℕ
all = 0xc00000000000001f

sample_bits : map (λ (s : Slot). (full_claim sample_program s).bits) slots ≡ all ∷ all ∷ all ∷ all ∷ all ∷ 31 ∷ []
unfolding full_claim slots
sample_bits = refl
