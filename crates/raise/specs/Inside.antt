-- Parts of rules that inner functions meet, and bits of masks that they make. Definitions only, and none that a reader of the public
-- promise has to believe.
use Rattle.std.specs.Prelude.{◌≡◌, Bool, ◌&&◌, ◌||◌, ℕ, ◌+◌, ◌<◌, eqb, ltb}
use Rattle.mask.specs.declared.Mask.{Mask}
use Rattle.mask.specs.Mask.{has, has_number, zero_bit, other_bit}
use Rattle.program.specs.Program.{Program, class_count}
use Rattle.search.specs.Search.{below, has_field}
use Rattle.flow.specs.Claim.{Slot, result_at, field_of, Claim}
use Rattle.flow.specs.Flows.{Flows, ◌∈◌, ◌⊆◌, ◌&◌, each, when}
use Rattle.flow.specs.Rules.{carried, into_handler, into_leaving, own}
use Rattle.slots.specs.Layout.{place_of}
use Rattle.order.specs.Raised.{Raised}

-- the first n of these slots have consecutive places, from place i on
abbrev pub Consecutive : (ℕ → Slot) → ℕ → ℕ → Type 0
Consecutive s i n = (r : ℕ) → r < n → place_of (s r) ≡ i + r

-- slot r of some flows into slot r of others
abbrev pub each_into : (ℕ → Slot) → (ℕ → Slot) → ℕ → Flows
each_into s t r = s r ⊆ t r

-- n slots from one place on, whatever they are, flow into those from another
abbrev pub RowsRaised : ℕ → ℕ → ℕ → Claim → Claim → Type 0
RowsRaised from into n c d = (s t : ℕ → Slot) → Consecutive s from n → Consecutive t into n → Raised (each n (each_into s t)) c d

-- zero goes into field x of class k, if the class has it
abbrev pub zero_field : Program → ℕ → ℕ → Flows
zero_field p k x = when (has_field p k x) (zero_bit ∈ field_of k x)

-- bit k is a number's; it comes of numbers: both masks have one
abbrev pub is_number : ℕ → Bool
is_number k = eqb k zero_bit || eqb k other_bit

abbrev pub from_numbers : Mask → Mask → ℕ → Bool
from_numbers left right k = has_number left && (has_number right && is_number k)

-- bit k passes a cast to a class
abbrev pub passes_cast : Program → ℕ → ℕ → Bool
passes_cast p class k = (ltb k (class_count p) && below p k class) || eqb k zero_bit

-- class k is in a set and its field x has bit j
abbrev pub field_has : Claim → Mask → ℕ → ℕ → ℕ → Bool
field_has c set x j k = has set k && has (c (field_of k x)) j

-- a mask, which is no slot's, goes into a slot's; into field x of class k, if it is in a set; of all classes in it
abbrev pub mask_into : Mask → Slot → Flows
mask_into mask s = each 64 (λ j. when (has mask j) (j ∈ s))

abbrev pub into_field : Mask → ℕ → Mask → ℕ → Flows
into_field set x value k = when (has set k) (mask_into value (field_of k x))

abbrev pub into_fields : Mask → ℕ → Mask → Flows
into_fields set x value = each 60 (into_field set x value)

-- rules 9 and 10 of the classes in a mask (which is no slot's: it was read before)
abbrev pub raised_flows : Program → ℕ → ℕ → Mask → Flows
raised_flows p m pc mask =
    each (class_count p) (λ k. when (has mask k) (into_handler p m pc k))
    & each (class_count p) (λ k. when (has mask k) (into_leaving p m pc k))

-- rules 9 and 10 of class k, which an instruction raises itself, where it may
abbrev pub own_flows : Program → ℕ → ℕ → Bool → ℕ → Flows
own_flows p m pc may k = when may (own p m pc k (into_handler p m pc)) & when may (own p m pc k (into_leaving p m pc))

-- rule 9 of the classes in a mask that all go to one address
abbrev pub taken_into : Program → ℕ → ℕ → ℕ → Mask → Flows
taken_into p m pc to taken = each 64 (λ k. when (has taken k) (carried p m pc to & k ∈ result_at m to))
