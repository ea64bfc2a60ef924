-- No slot gets a bit that it has not in the claim where the frames due are put. Assumes nothing.
use mathlib.Core.Path.{◌≡◌, ◌∙◌}
use mathlib.Core.Bool.{true}
use mathlib.Core.List.{List, [], ◌∷◌}
use Prim.Native.Nat.{ℕ}
use lib.Dec.{eqb}
use lib.ListN.{length, set, length-set}
use borrow.Author.Tests.{eqb-true, eqb-false}
use Rattle.text.proofs.Cases.{by_test, never}
use Rattle.mask.specs.Mask.{has}
use Rattle.program.specs.Program.{Program}
use Rattle.flow.specs.Claim.{Slot, Claim}
use Rattle.slots.specs.Layout.{claim_size, place_of, claim_in, no_masks}
use Rattle.slots.proofs.Places.{places_apart}
use Rattle.claim.specs.Frames.{Due, frames_due}
use Rattle.claim.proofs.NoBits.{none_size, none_has, bit_inside}
use Rattle.order.specs.Order.{Below}
use Rattle.wording.specs.ClaimText.{put_masks, put_frames, words_of}
use Rattle.wording.proofs.WordsKept.{length_masks, give_mask, other_mask}

module _ (c : Claim) (s : Slot) where
  abbrev Under : List ℕ → Type 0
  Under ws = (k : ℕ) → has (claim_in ws s) k ≡ true → has (c s) k ≡ true

  -- ---- one mask: in the slot's own place it is the claim's, in another it leaves the slot's
  put_under : (t : Slot) (ws : List ℕ) → length ws ≡ claim_size → Under ws → Under (set ws (place_of t) (c t).bits)
  put_under t ws size h k e =
      let after = set ws (place_of t) (c t).bits in
      let inside = bit_inside after (length-set ws (place_of t) (c t).bits ∙ size) s k e in
      by_test (eqb (place_of s) (place_of t))
      (λ q.
      let place = eqb-true (place_of s) (place_of t) q in
      let same : s ≡ t = places_apart s t inside (rw (← place) inside) place in
      let masks : claim_in after s ≡ c s = rw (← same) (give_mask c s inside ws size) in
      rw masks at e)
      (λ q. h k (rw (other_mask c s inside t ws (c t).bits (eqb-false (place_of s) (place_of t) q)) at e))

  -- ---- masks, frames
  masks_under : (ss : List Slot) (ws : List ℕ) → length ws ≡ claim_size → Under ws → Under (put_masks c ss ws)
  masks_under [] ws size h = h
  masks_under (t ∷ ss) ws size h =
      masks_under ss (set ws (place_of t) (c t).bits) (length-set ws (place_of t) (c t).bits ∙ size) (put_under t ws size h)

  frames_under : (ds : List Due) (ws : List ℕ) → length ws ≡ claim_size → Under ws → Under (put_frames c ds ws)
  frames_under [] ws size h = h
  frames_under (d ∷ ds) ws size h =
      frames_under ds (put_masks c d.slots ws) (length_masks c d.slots ws ∙ size) (masks_under d.slots ws size h)

pub words_under : (p : Program) (c : Claim) → Below (claim_in (words_of p c)) c
unfolding words_of
words_under p c s = frames_under c s (frames_due p) no_masks none_size (λ k e. never (cc (none_has s k)))
