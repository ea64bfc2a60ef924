-- Document 01's sample claim text, by computation: it is read, to the masks that it says. Assumes nothing.
use mathlib.Core.Path.{◌≡◌, refl}
use mathlib.Core.List.{List, [], ◌∷◌, map}
use Prim.Native.Nat.{ℕ}
use lib.ListN.{set, replicate}
use Rattle.text.specs.Hex.{lines_of, whole, all_digits, digit_of, number_from}
use Rattle.mask.specs.Mask.{has, subset}
use Rattle.reader.specs.Sample.{bytes_of}
use Rattle.reader.proofs.Examples.{sample_program}
use Rattle.flow.specs.Claim.{Slot, register_at, result_at, returned_by, leaving}
use Rattle.slots.specs.Layout.{row_of, place_of, claim_in, no_masks}
use Rattle.claim.specs.Allowed.{full_claim}
use Rattle.claim.specs.Frames.{part_due, frames_due}
use Rattle.claim.specs.Sample.{sample_claim}
use Rattle.claim.specs.ReadClaim.{taken, digits_from, known, is_due, masks_from, take_frame, ended, read_claim}

-- the words with one mask at each of these slots
abbrev with : List Slot → ℕ → List ℕ → List ℕ
with [] n ws = ws
with (s ∷ ss) n ws = with ss n (set ws (place_of s) n)

abbrev values : List Slot
values =
    register_at 0 0 0 ∷ result_at 0 0 ∷ register_at 0 1 0 ∷ result_at 0 1 ∷ register_at 1 0 0 ∷ result_at 1 0 ∷ returned_by 0
    ∷ returned_by 1
    ∷ []

abbrev pub sample_words : List ℕ
sample_words = with (leaving 0 ∷ leaving 1 ∷ []) 0 (with values 0x4000000000000000 no_masks)

pub sample_taken : read_claim sample_program (bytes_of sample_claim) ≡ taken sample_words
unfolding read_claim frames_due part_due take_frame known is_due digits_from masks_from ended lines_of whole all_digits digit_of number_from
    subset has full_claim
sample_taken = refl

-- so every register, result and returned mask is that, and both exception masks are zero
pub sample_values : map (λ (s : Slot). (claim_in sample_words s).bits) values ≡ replicate 8 0x4000000000000000
unfolding claim_in place_of row_of no_masks
sample_values = refl

pub sample_leaving : map (λ (m : ℕ). (claim_in sample_words (leaving m)).bits) (0 ∷ 1 ∷ []) ≡ 0 ∷ 0 ∷ []
unfolding claim_in place_of row_of no_masks
sample_leaving = refl
