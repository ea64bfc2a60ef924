-- The masks of a line, as they are read where they stand in a text: one after another, and from one register on. Assumes nothing.
use mathlib.Core.Path.{◌≡◌, refl, sym, ap, ◌∙◌}
use mathlib.Core.Bool.{Bool, true, false}
use mathlib.Core.List.{List, [], ◌∷◌, ◌++◌}
use mathlib.Core.Option.{Option, none, some}
use Prim.Native.Nat.{ℕ, suc, ◌+◌, ◌*◌, ◌-◌, ◌≤◌, ◌<◌}
use native.Mathlib.Omega.{arith}
use lib.ListN.{length, set}
use Rattle.text.proofs.Cases.{by_test, never}
use Rattle.instruction.specs.Word.{pick}
use Rattle.mask.specs.Mask.{subset}
use Rattle.program.specs.Lists.{tab, Every}
use Rattle.program.specs.Program.{Program}
use Rattle.program.proofs.Lists.{length_tab, tab_cong, tab_from}
use Rattle.flow.specs.Claim.{Slot}
use Rattle.slots.specs.Layout.{place_of, mask_of}
use Rattle.reader.specs.Inside.{line_at}
use Rattle.claim.specs.Allowed.{full_claim}
use Rattle.claim.specs.ReadClaim.{masks_from}
use Rattle.claim.specs.Inside.{mask_in, masks_in}
use Rattle.claim.proofs.Digits.{line_digits}

-- the masks of a line are those of the text, where all may have the same bits
pub masks_of_line : (p : Program) (text : List ℕ) (at d allowed i : ℕ) (ss : List Slot) (ws : List ℕ)
    → Every (λ s. full_claim p s ≡ mask_of allowed) ss → i + 16 * length ss ≤ d
    → masks_from p (line_at text at d) i ss ws ≡ masks_in text (at + i) allowed ss ws
unfolding masks_from
masks_of_line p text at d allowed i [] ws h room = refl
masks_of_line p text at d allowed i (s ∷ ss) ws h room =
    let next : at + i + 16 ≡ at + (i + 16) = omega arith in
    rw (
      line_digits text at d i 16 (omega arith) (omega arith),
      h.0,
      next,
      masks_of_line p text at d allowed (i + 16) ss (set ws (place_of s) (mask_in text (at + i))) h.1 (omega arith),
    )

module _ (text : List ℕ) (allowed : ℕ) where
  -- whether the mask at a place may stand
  abbrev may : ℕ → Bool
  may at = subset (mask_of (mask_in text at)) (mask_of allowed)

  -- ---- one list of slots after another
  pub masks_fail : (xs ys : List Slot) (at : ℕ) (ws : List ℕ) → masks_in text at allowed xs ws ≡ none
      → masks_in text at allowed (xs ++ ys) ws ≡ none
  masks_fail [] ys at ws e = never (cc)
  masks_fail (x ∷ xs) ys at ws e =
      by_test (may at)
      (λ t. rw t (masks_fail xs ys (at + 16) (set ws (place_of x) (mask_in text at)) (rw t at e)))
      (λ t. rw t)

  pub masks_pass : (xs ys : List Slot) (at : ℕ) (ws us : List ℕ) → masks_in text at allowed xs ws ≡ some us
      → masks_in text at allowed (xs ++ ys) ws ≡ masks_in text (at + 16 * length xs) allowed ys us
  masks_pass [] ys at ws us e =
      let same : ws ≡ us = cc in
      let here : at + 16 * 0 ≡ at = omega arith in
      rw (here, same)
  masks_pass (x ∷ xs) ys at ws us e =
      let next : at + 16 + 16 * length xs ≡ at + 16 * suc (length xs) = omega arith in
      by_test (may at)
      (λ t. rw (t, sym next) (masks_pass xs ys (at + 16) (set ws (place_of x) (mask_in text at)) us (rw t at e)))
      (λ t. let f : none ≡ some us = rw t at e in never (cc))

  -- ---- n slots, from slot r on
  abbrev pub masks_after : ℕ → (ℕ → Slot) → ℕ → ℕ → List ℕ → Option (List ℕ)
  masks_after n f at r ws = masks_in text (at + 16 * r) allowed (tab (n - r) (λ k. f (r + k))) ws

  module _ (n : ℕ) (f : ℕ → Slot) (at : ℕ) (ws : List ℕ) where
    pub masks_start : masks_in text at allowed (tab n f) ws ≡ masks_after n f at 0 ws
    masks_start =
        let all : n - 0 ≡ n = omega arith in
        let here : at + 16 * 0 ≡ at = omega arith in
        rw (all, here)
        (ap (λ (l : List Slot). masks_in text at allowed l ws) (tab_cong n f (λ k. f (0 + k)) (λ k h. ap f (omega arith))))

    pub masks_end : (r : ℕ) → n ≤ r → masks_after n f at r ws ≡ some ws
    masks_end r l =
        let nothing : n - r ≡ 0 = omega arith in
        rw nothing

    -- one mask more after n that came to these words
    masks_last : (us : List ℕ) (x : Slot) → masks_in text at allowed (tab n f) us ≡ some ws
        → masks_in text at allowed (tab n f ++ (x ∷ [])) us
        ≡ pick (may (at + 16 * n)) (some (set ws (place_of x) (mask_in text (at + 16 * n)))) none
    masks_last us x done = masks_pass (tab n f) (x ∷ []) at us ws done ∙ rw (length_tab n f)

    -- the same from its bits, a flag that says whether it may stand, and the words
    pub masks_finished : (us : List ℕ) (x : Slot) → masks_in text at allowed (tab n f) us ≡ some ws
        → (t : Bool) (b i : ℕ) (vs : List ℕ) → b ≡ mask_in text (at + 16 * n) → t ≡ subset (mask_of b) (mask_of allowed)
        → i ≡ place_of x → vs ≡ pick t (set ws i b) ws
        → pick t (some vs) none ≡ masks_in text at allowed (tab n f ++ (x ∷ [])) us
    masks_finished us x done t b i vs bits flag place new =
        let may-stand : may (at + 16 * n) ≡ t = sym (flag ∙ ap (λ (k : ℕ). subset (mask_of k) (mask_of allowed)) bits) in
        by_test t
        (λ y. let e : vs ≡ set ws (place_of x) (mask_in text (at + 16 * n)) = rw (y, place, bits) at new in
        rw (y, masks_last us x done, may-stand ∙ y, e))
        (λ y. rw (y, masks_last us x done, may-stand ∙ y))

    module _ (r : ℕ) (l : r < n) where
      pub masks_next : may (at + 16 * r) ≡ true
          → masks_after n f at r ws ≡ masks_after n f at (r + 1) (set ws (place_of (f r)) (mask_in text (at + 16 * r)))
      masks_next t =
          let next : at + 16 * r + 16 ≡ at + 16 * (r + 1) = omega arith in
          rw (tab_from n r f l, t, next)

      pub masks_stop : may (at + 16 * r) ≡ false → masks_after n f at r ws ≡ none
      masks_stop t = rw (tab_from n r f l, t)

      -- the same from a flag that says whether the mask may stand
      module _ (t : Bool) (e : t ≡ may (at + 16 * r)) where
        pub masks_refused : t ≡ false → masks_after n f at r ws ≡ none
        masks_refused h = masks_stop (sym e ∙ h)

        pub masks_taken : (i : ℕ) (us : List ℕ) → t ≡ true → i ≡ place_of (f r)
            → us ≡ pick t (set ws i (mask_in text (at + 16 * r))) ws → masks_after n f at r ws ≡ masks_after n f at (r + 1) us
        masks_taken i us h place new =
            let here : us ≡ set ws (place_of (f r)) (mask_in text (at + 16 * r)) = rw (h, place) at new in
            masks_next (sym e ∙ h) ∙ ap (λ (vs : List ℕ). masks_after n f at (r + 1) vs) (sym here)
