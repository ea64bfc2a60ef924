-- A claim that is read has only allowed bits, in every slot. Assumes nothing.
use mathlib.Core.Path.{◌≡◌, refl, sym, ◌∙◌}
use mathlib.Core.Bool.{true}
use mathlib.Core.List.{List, [], ◌∷◌}
use mathlib.Core.Option.{Option, none, some}
use Prim.Native.Nat.{ℕ, ◌+◌, ◌/◌, ◌^◌, ◌≤◌, ◌<◌}
use native.Mathlib.Nat.{div-eq_of_lt}
use native.Mathlib.Omega.{arith}
use lib.Dec.{eqb, ltb}
use lib.Pow.{pow_mono}
use lib.ListN.{length, get_or, set, length-set, get_or-eq_default}
use lib.Seq.{get_or-set_same, get_or-set_other, set_out}
use borrow.Author.Tests.{ltb-true, ltb-false, eqb-true, eqb-false}
use Rattle.text.specs.Hex.{Line, lines_of, whole}
use Rattle.text.proofs.Cases.{by_test, never}
use Rattle.mask.specs.declared.Mask.{Mask}
use Rattle.mask.specs.Mask.{has, subset}
use Rattle.mask.proofs.Laws.{has_bit, subset_at, subset_all}
use Rattle.program.specs.Program.{Program, class_count}
use Rattle.flow.specs.Claim.{Slot}
use Rattle.slots.specs.Layout.{claim_size, place_of, mask_of, mask_at, claim_in, no_masks}
use Rattle.claim.specs.Allowed.{allowed, full_claim}
use Rattle.claim.specs.Frames.{Due, frames_due}
use Rattle.claim.specs.ReadClaim.{refused, taken, digits_from, known, head, is_due, masks_from, Progress, stopped, reached, onward}
use Rattle.claim.specs.ReadClaim.{take_frame, take_frames, ended, read_claim}
use Rattle.claim.proofs.Bits.{full_has}
use Rattle.claim.proofs.FullPlaces.{full_at, full_at_lem}
use Rattle.claim.proofs.NoBits.{none_size, none_zero}

-- no bits are among any
none_subset : (m : Mask) → subset (mask_of 0) m ≡ true
none_subset m =
    subset_all (mask_of 0) m
    (λ k h.
    let least : 1 ≤ 2 ^ k = pow_mono {i = 0} {j = k} (omega arith) in
    let zeros : 0 / 2 ^ k ≡ 0 = div-eq_of_lt (omega arith) in
    absurd (omega (arith, has_bit (mask_of 0) k h, zeros)))

module _ (p : Program) where
  -- words whose masks have only the bits that their places may have
  record Fine (ws : List ℕ) : Type 0 where
    size : length ws ≡ claim_size
    masks : (i : ℕ) → subset (mask_at ws i) (full_at p i) ≡ true

  none_fine : Fine no_masks
  none_fine = record { size = none_size; masks = λ i. rw (none_zero i) (none_subset (full_at p i)) }

  -- one mask more
  set_fine : (ws : List ℕ) (s : Slot) (v : ℕ) → Fine ws → subset (mask_of v) (full_claim p s) ≡ true → Fine (set ws (place_of s) v)
  set_fine ws s v f h = record { size = length-set ws (place_of s) v ∙ f.size; masks = each }
    where
      each : (i : ℕ) → subset (mask_at (set ws (place_of s) v) i) (full_at p i) ≡ true
      each i =
          by_test (ltb (place_of s) claim_size)
          (λ t.
          let l : place_of s < claim_size = ltb-true (place_of s) claim_size t in
          by_test (eqb i (place_of s))
          (λ e. rw (eqb-true i (place_of s) e, get_or-set_same ws (place_of s) v 0 (omega (arith, f.size)), sym (full_at_lem p s l)) h)
          (λ e. rw (get_or-set_other ws (place_of s) i v 0 (eqb-false i (place_of s) e)) (f.masks i)))
          (λ t. rw (set_out ws (place_of s) v (omega (arith, f.size, ltb-false (place_of s) claim_size t))) (f.masks i))

  masks_fine : (l : Line) (i : ℕ) (ss : List Slot) (ws us : List ℕ) → Fine ws → masks_from p l i ss ws ≡ some us → Fine us
  unfolding masks_from
  masks_fine l i [] ws us f e =
      let same : ws ≡ us = cc in
      rw (sym same) f
  masks_fine l i (s ∷ ss) ws us f e =
      by_test (subset (mask_of (digits_from l i 16)) (full_claim p s))
      (λ t.
      masks_fine l (i + 16) ss (set ws (place_of s) (digits_from l i 16)) us (set_fine ws s (digits_from l i 16) f t) (rw t at e))
      (λ t. let g : none ≡ some us = rw t at e in never (cc))

  -- ---- the walk by line
  abbrev FineAt : Progress → Type 0
  FineAt (stopped number line) = Unit {0}
  FineAt (reached ls n ws) = Fine ws

  onward_fine : (ls : List Line) (n : ℕ) (o : Option (List ℕ)) → ((us : List ℕ) → o ≡ some us → Fine us) → FineAt (onward ls n o)
  onward_fine ls n none f = tt
  onward_fine ls n (some us) f = f us refl

  frame_fine : (d : Due) (s : Progress) → FineAt s → FineAt (take_frame p d s)
  unfolding take_frame
  frame_fine d (stopped number line) f = tt
  frame_fine d (reached [] n ws) f = tt
  frame_fine d (reached (l ∷ ls) n ws) f =
      by_test (whole l)
      (λ a.
      by_test (known l)
      (λ b.
      by_test (is_due d l)
      (λ c. rw (a, b, c) (onward_fine ls n (masks_from p l (head d) d.slots ws) (λ us. masks_fine l (head d) d.slots ws us f)))
      (λ c. rw (a, b, c) tt))
      (λ b. rw (a, b) tt))
      (λ a. rw a tt)

  frames_fine : (ds : List Due) (s : Progress) → FineAt s → FineAt (take_frames p ds s)
  frames_fine [] s f = f
  frames_fine (d ∷ ds) s f = frames_fine ds (take_frame p d s) (frame_fine d s f)

  ended_fine : (s : Progress) (ws : List ℕ) → FineAt s → ended s ≡ taken ws → Fine ws
  unfolding ended
  ended_fine (stopped number line) ws f e = never (cc)
  ended_fine (reached [] n us) ws f e =
      let same : us ≡ ws = cc in
      rw (sym same) f
  ended_fine (reached (l ∷ ls) n us) ws f e = never (cc)

  read_fine : (text ws : List ℕ) → read_claim p text ≡ taken ws → Fine ws
  unfolding read_claim
  read_fine text ws e =
      by_test (ltb 262144 (length text))
      (λ t. let g : refused 9 0 ≡ taken ws = rw t at e in never (cc))
      (λ t.
      let end = take_frames p (frames_due p) (reached (lines_of text) 1 no_masks) in
      ended_fine end ws (frames_fine (frames_due p) _ none_fine) (rw t at e))

  -- ---- the theorem, by masks and by bits
  module _ (text ws : List ℕ) (e : read_claim p text ≡ taken ws) (s : Slot) where
    pub only_allowed : subset (claim_in ws s) (full_claim p s) ≡ true
    unfolding claim_in
    only_allowed =
        let f = read_fine text ws e in
        by_test (ltb (place_of s) claim_size)
        (λ t. rw (full_at_lem p s (ltb-true (place_of s) claim_size t)) (f.masks (place_of s)))
        (λ t.
        let zero : get_or ws (place_of s) 0 ≡ 0 = get_or-eq_default ws 0 (omega (arith, f.size, ltb-false (place_of s) claim_size t)) in
        rw zero (none_subset (full_claim p s)))

    pub only_allowed_bits : class_count p ≤ 60 → (k : ℕ) → has (claim_in ws s) k ≡ true → allowed p s k ≡ true
    only_allowed_bits few k h = sym (full_has p few s k) ∙ subset_at (claim_in ws s) (full_claim p s) only_allowed k h
