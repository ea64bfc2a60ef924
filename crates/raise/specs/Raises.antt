-- What functions that join masks promise: of any tables, words and numbers, where a well-formed program has the slots that masks go
-- into. Definitions only, and none that a reader of the public promise has to believe.
use Rattle.std.specs.Prelude.{◌≡◌, ℕ, ◌<◌}
use Rattle.mask.specs.declared.Mask.{Mask}
use Rattle.program.specs.Program.{Program, method_count, arguments, code_length}
use Rattle.reader.specs.Formed.{Formed}
use Rattle.flow.specs.Claim.{Slot, Claim}
use Rattle.flow.specs.Flows.{Flows}
use Rattle.slots.specs.Layout.{claim_size, place_of}
use Rattle.order.specs.Raised.{Raised, Joined}

-- a mask is joined into a slot's, if the slot has a place
abbrev pub Joins : Slot → Mask → Claim → Claim → Type 0
Joins s m c d = place_of s < claim_size → Joined s m c d

-- claim d is claim c with another mask for the slot at a place
pub record Replaced (i : ℕ) (m : Mask) (c d : Claim) : Type 0 where
  pub there : (s : Slot) → place_of s ≡ i → d s ≡ m
  pub elsewhere : (s : Slot) → (place_of s ≡ i → ⊥) → d s ≡ c s

-- flows to address `to` of method m are met
abbrev pub Flowing : Program → ℕ → ℕ → Flows → Claim → Claim → Type 0
Flowing p m to f c d = Formed p → m < method_count p → to < code_length p m → Raised f c d

-- flows into the parameters of method q, called with so many arguments
abbrev pub Calling : Program → ℕ → ℕ → Flows → Claim → Claim → Type 0
Calling p q count f c d = Formed p → q < method_count p → arguments p q ≡ count → Raised f c d

-- flows to handlers of method m, and out of it
abbrev pub Leaving : Program → ℕ → Flows → Claim → Claim → Type 0
Leaving p m f c d = Formed p → m < method_count p → Raised f c d
