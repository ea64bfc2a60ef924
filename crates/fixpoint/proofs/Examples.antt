-- What flows of each shape ask for, and the first raising of the sample's masks, by computation. Assumes nothing.
use mathlib.Core.Path.{◌≡◌, refl}
use mathlib.Core.Bool.{true, false}
use mathlib.Core.List.{List, [], ◌∷◌, map}
use Prim.Native.Nat.{ℕ}
use lib.Dec.{eqb}
use Rattle.std.specs.Prelude.{Some, None}
use Rattle.instruction.specs.Word.{pick, instruction_of, fields_of}
use Rattle.mask.specs.Mask.{has, has_number, bits_where}
use Rattle.reader.proofs.Examples.{sample_program}
use Rattle.flow.specs.Claim.{Slot, register_at, result_at, field_of, static_of, returned_by, leaving, Claim}
use Rattle.flow.specs.Flows.{Flows, ◌∈◌, ◌⊆◌, ◌&◌, each, given, numeric, when, found, handled, unhandled}
use Rattle.slots.specs.Layout.{row_of, place_of, mask_of, no_masks, claim_in}
use Rattle.fixpoint.specs.LeastOf.{asks, program_asks, raised_word}

-- ---- a claim: register 0 has bits 0 and 2, register 1 has zero's bit, and nothing else has a bit
abbrev c : Claim
c (register_at m pc r) = mask_of (pick (eqb r 0) 5 (pick (eqb r 1) 0x4000000000000000 0))
c (result_at m pc) = mask_of 0
c (field_of k x) = mask_of 0
c (static_of x) = mask_of 0
c (returned_by m) = mask_of 0
c (leaving m) = mask_of 0

abbrev a : Slot
a = register_at 0 0 0

abbrev b : Slot
b = register_at 0 0 1

abbrev x : Slot
x = static_of 0

-- all bits that flows ask for in slot x
abbrev asked : Flows → ℕ
asked f = bits_where 64 (asks c f (place_of x))

-- a bit in a slot, and a slot's mask into another; nothing in a slot that they do not go into
bits_asked : map asked ((3 ∈ x) ∷ (3 ∈ a) ∷ (a ⊆ x) ∷ (x ⊆ a) ∷ []) ≡ 8 ∷ 0 ∷ 5 ∷ 0 ∷ []
unfolding has place_of row_of
bits_asked = refl

-- both of two, each of three
all_asked : map asked (((3 ∈ x) & (a ⊆ x)) ∷ each 3 (λ i. i ∈ x) ∷ []) ≡ 13 ∷ 7 ∷ []
unfolding has place_of row_of
all_asked = refl

-- guards: a bit that is there and one that is not, a mask with a number and one without, a test that passes and one that fails
guards_asked : map asked
    (given 2 a (3 ∈ x) ∷ given 1 a (3 ∈ x) ∷ numeric b (3 ∈ x) ∷ numeric a (3 ∈ x) ∷ when true (3 ∈ x) ∷ when false (3 ∈ x) ∷ [])
    ≡ 8 ∷ 0 ∷ 8 ∷ 0 ∷ 8 ∷ 0 ∷ []
unfolding has has_number place_of row_of
guards_asked = refl

-- a callee that is found and none; a handler that is found and none, both ways
searches_asked : map asked
    (found (Some 4) (λ m. m ∈ x) ∷ found None (λ m. m ∈ x) ∷ handled (Some 5) (λ h. h ∈ x) ∷ handled None (λ h. h ∈ x)
    ∷ unhandled None (3 ∈ x)
    ∷ unhandled (Some 5) (3 ∈ x)
    ∷ [])
    ≡ 16 ∷ 0 ∷ 32 ∷ 0 ∷ 8 ∷ 0 ∷ []
unfolding has place_of row_of
searches_asked = refl

-- ---- the sample's masks, raised once from no bit: zero's bit where a method is entered and where it returns; what flows on comes later
slots : List Slot
slots = register_at 0 0 0 ∷ result_at 0 0 ∷ register_at 0 1 0 ∷ register_at 1 0 0 ∷ returned_by 0 ∷ leaving 0 ∷ []

abbrev zeros : ℕ
zeros = 0x4000000000000000

sample_raised : map (λ (s : Slot). raised_word sample_program no_masks (place_of s)) slots
    ≡ zeros ∷ zeros ∷ 0 ∷ zeros ∷ zeros ∷ 0 ∷ []
unfolding raised_word program_asks has has_number place_of row_of no_masks claim_in slots instruction_of fields_of
sample_raised = refl
