-- A claim's text by computation: document 01's sample, and a frame of each kind. Assumes nothing.
use mathlib.Core.Path.{◌≡◌, refl}
use Rattle.page.specs.Digits.{digit_of, sixteen}
use Rattle.reader.specs.Sample.{bytes_of}
use Rattle.reader.proofs.Examples.{sample_program}
use Rattle.search.specs.Search.{below_in, has_field}
use Rattle.slots.specs.Layout.{row_of, place_of, claim_in, no_masks}
use Rattle.claim.specs.Allowed.{full_claim}
use Rattle.claim.specs.Frames.{part_due, frames_due}
use Rattle.claim.specs.Sample.{sample_claim}
use Rattle.claim.proofs.SampleClaim.{sample_words}
use Rattle.claim.proofs.ReadExamples.{small, small_full}
use Rattle.wording.specs.ClaimText.{claim_text}

-- a mask, the high byte first
mask_digits : sixteen 0xc00000000000001f ≡ bytes_of "c00000000000001f"
unfolding digit_of
mask_digits = refl

-- the sample's claim, as it is read to words, has the text that it was read from
sample_text : claim_text sample_program (claim_in sample_words) ≡ bytes_of sample_claim
unfolding claim_text frames_due part_due claim_in place_of row_of no_masks digit_of
sample_text = refl

-- all allowed bits of a program with two registers, a static, and a field that one of two classes has
full_text : claim_text small (full_claim small) ≡ bytes_of small_full
unfolding claim_text frames_due part_due full_claim has_field below_in digit_of
full_text = refl
