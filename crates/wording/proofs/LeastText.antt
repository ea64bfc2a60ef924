-- The text of a least claim is read as a least claim, and there is one such text. Assumes nothing.
use mathlib.Core.Path.{◌≡◌, refl, sym, ◌∙◌}
use mathlib.Core.Bool.{true}
use mathlib.Core.List.{List, [], ◌∷◌}
use Prim.Native.Nat.{ℕ, ◌<◌, ◌^◌}
use Rattle.mask.specs.Mask.{has, subset}
use Rattle.mask.proofs.Laws.{subset_all}
use Rattle.mask.proofs.Sets.{has_where}
use Rattle.program.specs.Program.{Program}
use Rattle.reader.specs.Formed.{Formed}
use Rattle.flow.specs.Claim.{Slot, Claim}
use Rattle.slots.specs.Layout.{claim_in}
use Rattle.claim.specs.Allowed.{full_claim}
use Rattle.claim.specs.Frames.{Due, frames_due}
use Rattle.claim.specs.ReadClaim.{taken, read_claim}
use Rattle.claim.proofs.FullClaim.{full_accepted}
use Rattle.order.specs.Order.{Below, Least}
use Rattle.order.specs.Own.{Own}
use Rattle.order.proofs.Common.{least_unique}
use Rattle.order.proofs.Targets.{own_accepted}
use Rattle.wording.specs.ClaimText.{masks_text, frames_text, claim_text, words_of}
use Rattle.wording.proofs.RoundTrip.{text_read}
use Rattle.wording.proofs.WordsOwn.{words_own}
use Rattle.wording.proofs.WordsUnder.{words_under}

module _ (p : Program) (formed : Formed p) (c : Claim) (fits : (s : Slot) → (c s).bits < 2 ^ 64) (least : Least p c) where
  -- it has only allowed bits: the claim with all of them is accepted
  allowed_bits : (s : Slot) → subset (c s) (full_claim p s) ≡ true
  allowed_bits s = subset_all (c s) (full_claim p s) (least.below (full_claim p) (full_accepted p formed) s)

  pub read_back : read_claim p (claim_text p c) ≡ taken (words_of p c)
  read_back = text_read p formed c fits allowed_bits

  own_same : (t : Slot) → Own p t → (k : ℕ) → has (c t) k ≡ true → has (claim_in (words_of p c) t) k ≡ true
  own_same t o k e = rw (words_own p formed c t o) e

  pub read_least : Least p (claim_in (words_of p c))
  read_least =
      record {
        accepting = own_accepted p formed c (claim_in (words_of p c)) (words_under p c) own_same least.accepting;
        below = λ d e s k h. least.below d e s k (words_under p c s k h);
      }

  -- so that it has the same bits in every slot
  pub read_same : Below c (claim_in (words_of p c))
  read_same = least.below (claim_in (words_of p c)) read_least.accepting

-- ---- there is one text: that of any least claim
same_bits : (c d : Claim) (s : Slot) → (c s).bits < 2 ^ 64 → (d s).bits < 2 ^ 64 → ((k : ℕ) → has (c s) k ≡ has (d s) k)
    → (c s).bits ≡ (d s).bits
same_bits c d s l m h =
    has_where (c s) (has (d s)) l (λ k _. h k) ∙ sym (has_where (d s) (has (d s)) m (λ k _. refl))

module _ (c d : Claim) (same : (s : Slot) → (c s).bits ≡ (d s).bits) where
  masks_same : (ss : List Slot) → masks_text c ss ≡ masks_text d ss
  masks_same [] = refl
  masks_same (s ∷ ss) = rw (same s, masks_same ss)

  frames_same : (ds : List Due) → frames_text c ds ≡ frames_text d ds
  frames_same [] = refl
  frames_same (x ∷ xs) = rw (masks_same x.slots, frames_same xs)

  text_same : (p : Program) → claim_text p c ≡ claim_text p d
  unfolding claim_text
  text_same p = frames_same (frames_due p)

pub least_text_lem : (p : Program) (c d : Claim) → ((s : Slot) → (c s).bits < 2 ^ 64) → ((s : Slot) → (d s).bits < 2 ^ 64) → Least p c → Least p d
    → claim_text p c ≡ claim_text p d
least_text_lem p c d l m a b =
    text_same c d (λ s. same_bits c d s (l s) (m s) (least_unique p c d a b s)) p
