-- How a claim's masks lie in words: 9,712 of them, one place for each slot that a program can have. Left free by document 01.
-- Definitions only.
--     0 to 8703       of each method 32 addresses of 17 words: the masks of 16 registers, then the result's
--     8704 to 9663    of each class the masks of 16 fields
--     9664 to 9679    the masks of statics
--     9680 to 9695    the masks returned by each method
--     9696 to 9711    the masks of exceptions leaving each method
-- A slot that no program has lies past the last word; a word that lies there is zero. That two other slots never share a place is
-- proved (proofs/Places.antt).
use Rattle.std.specs.Prelude.{◌&&◌, List, ℕ, ◌+◌, ◌*◌, ◌-◌, ◌/◌, ◌%◌, eqb, ltb, get_or, replicate}
use Rattle.instruction.specs.Word.{pick}
use Rattle.mask.specs.declared.Mask.{Mask}
use Rattle.flow.specs.Claim.{Slot, register_at, result_at, field_of, static_of, returned_by, leaving, Claim}

-- how many words
abbrev pub claim_size : ℕ
claim_size = 9712

-- the place of register 0 at address pc of method m
unfoldable pub row_of : ℕ → ℕ → ℕ
row_of m pc = pick (ltb m 16 && ltb pc 32) ((m * 32 + pc) * 17) claim_size

-- the place of a slot's mask
unfoldable pub place_of : Slot → ℕ
place_of (register_at m pc r) = pick (ltb r 16) (row_of m pc + r) claim_size
place_of (result_at m pc) = row_of m pc + 16
place_of (field_of c x) = pick (ltb c 60 && ltb x 16) (8704 + c * 16 + x) claim_size
place_of (static_of x) = pick (ltb x 16) (9664 + x) claim_size
place_of (returned_by m) = pick (ltb m 16) (9680 + m) claim_size
place_of (leaving m) = pick (ltb m 16) (9696 + m) claim_size

-- the slot at a place (the inverse of place_of): at word x of the row of address pc of method m, and at any
abbrev pub slot_of_row : ℕ → ℕ → ℕ → Slot
slot_of_row m pc x = pick (eqb x 16) (result_at m pc) (register_at m pc x)

abbrev pub slot_at : ℕ → Slot
slot_at i =
    pick (ltb i 8704) (slot_of_row (i / 544) (i / 17 % 32) (i % 17))
    (pick (ltb i 9664) (field_of ((i - 8704) / 16) ((i - 8704) % 16))
    (pick (ltb i 9680) (static_of (i - 9664))
    (pick (ltb i 9696) (returned_by (i - 9680)) (leaving (i - 9696)))))

-- the mask with these bits
abbrev pub mask_of : ℕ → Mask
mask_of n = record { bits = n }

-- the mask at a place
abbrev pub mask_at : List ℕ → ℕ → Mask
mask_at ws i = mask_of (get_or ws i 0)

-- the claim that stands in words
unfoldable pub claim_in : List ℕ → Claim
claim_in ws s = mask_at ws (place_of s)

-- the words of a claim with no bit
unfoldable pub no_masks : List ℕ
no_masks = replicate claim_size 0
