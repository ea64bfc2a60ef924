-- Words that masks are put into: they keep their number, and a slot whose mask is the claim's keeps it. Assumes nothing.
use mathlib.Core.Path.{◌≡◌, refl, ap, ◌∙◌}
use mathlib.Core.List.{List, [], ◌∷◌, ◌++◌}
use Prim.Native.Nat.{ℕ, ◌<◌}
use native.Mathlib.Omega.{arith}
use lib.Dec.{eqb}
use lib.ListN.{length, set, length-set}
use lib.Seq.{get_or-set_other}
use borrow.Author.Tests.{eqb-true, eqb-false}
use Rattle.text.proofs.Cases.{by_test}
use Rattle.flow.specs.Claim.{Slot, Claim}
use Rattle.slots.specs.Layout.{claim_size, place_of, mask_of, claim_in}
use Rattle.slots.proofs.Places.{places_apart, claim_same}
use Rattle.claim.specs.Frames.{Due}
use Rattle.wording.specs.ClaimText.{put_masks, put_frames}

-- ---- lengths
pub length_masks : (c : Claim) (ss : List Slot) (ws : List ℕ) → length (put_masks c ss ws) ≡ length ws
length_masks c [] ws = refl
length_masks c (s ∷ ss) ws = length_masks c ss (set ws (place_of s) (c s).bits) ∙ length-set ws (place_of s) (c s).bits

pub length_frames : (c : Claim) (ds : List Due) (ws : List ℕ) → length (put_frames c ds ws) ≡ length ws
length_frames c [] ws = refl
length_frames c (d ∷ ds) ws = length_frames c ds (put_masks c d.slots ws) ∙ length_masks c d.slots ws

pub frames_append : (c : Claim) (xs ys : List Due) (ws : List ℕ) → put_frames c (xs ++ ys) ws ≡ put_frames c ys (put_frames c xs ws)
frames_append c [] ys ws = refl
frames_append c (x ∷ xs) ys ws = frames_append c xs ys (put_masks c x.slots ws)

-- ---- a slot's mask that is the claim's stays so
module _ (c : Claim) (s : Slot) (inside : place_of s < claim_size) where
  abbrev pub Has : List ℕ → Type 0
  Has ws = claim_in ws s ≡ c s

  pub give_mask : (ws : List ℕ) → length ws ≡ claim_size → Has (set ws (place_of s) (c s).bits)
  give_mask ws size = claim_same ws s (c s).bits (omega arith)

  pub other_mask : (t : Slot) (ws : List ℕ) (n : ℕ) → (place_of s ≡ place_of t → ⊥) → claim_in (set ws (place_of t) n) s ≡ claim_in ws s
  unfolding claim_in
  other_mask t ws n ne = ap mask_of (get_or-set_other ws (place_of t) (place_of s) n 0 ne)

  pub keep_mask : (t : Slot) (ws : List ℕ) → length ws ≡ claim_size → Has ws → Has (set ws (place_of t) (c t).bits)
  keep_mask t ws size h =
      by_test (eqb (place_of s) (place_of t))
      (λ e.
      let place = eqb-true (place_of s) (place_of t) e in
      let same : s ≡ t = places_apart s t inside (rw (← place) inside) place in
      rw (← same) (give_mask ws size))
      (λ e. other_mask t ws (c t).bits (eqb-false (place_of s) (place_of t) e) ∙ h)

  pub keep_masks : (ss : List Slot) (ws : List ℕ) → length ws ≡ claim_size → Has ws → Has (put_masks c ss ws)
  keep_masks [] ws size h = h
  keep_masks (t ∷ ss) ws size h =
      keep_masks ss (set ws (place_of t) (c t).bits) (length-set ws (place_of t) (c t).bits ∙ size) (keep_mask t ws size h)

  pub keep_frames : (ds : List Due) (ws : List ℕ) → length ws ≡ claim_size → Has ws → Has (put_frames c ds ws)
  keep_frames [] ws size h = h
  keep_frames (d ∷ ds) ws size h =
      keep_frames ds (put_masks c d.slots ws) (length_masks c d.slots ws ∙ size) (keep_masks d.slots ws size h)
