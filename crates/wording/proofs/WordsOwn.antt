-- Each slot of the program gets its mask of the claim where the frames due are put. Assumes nothing.
use mathlib.Core.Path.{◌≡◌, refl, ◌∙◌}
use mathlib.Core.List.{List, [], ◌∷◌, ◌++◌}
use Prim.Native.Nat.{ℕ, zero, suc, ◌<◌}
use native.Mathlib.Nat.{le_of_suc-le-suc}
use native.Mathlib.Omega.{arith}
use lib.ListN.{length, set, length-set}
use Rattle.program.specs.Lists.{joined, tab}
use Rattle.program.specs.Program.{Program, registers}
use Rattle.reader.specs.Formed.{Formed}
use Rattle.flow.specs.Claim.{Slot, register_at, result_at, field_of, static_of, returned_by, leaving, Claim}
use Rattle.slots.specs.Layout.{claim_size, place_of, claim_in, no_masks}
use Rattle.claim.specs.declared.Part.{Part}
use Rattle.claim.specs.declared.Part.TheVariants.{Address, Field, Static, Returned, Leaving}
use Rattle.claim.specs.Frames.{Due, outer, inner, frame_at, part_due, frames_due}
use Rattle.claim.proofs.NoBits.{none_size}
use Rattle.order.specs.Own.{Own}
use Rattle.raise.proofs.Places.{own_inside}
use Rattle.wording.specs.ClaimText.{put_masks, put_frames, words_of}
use Rattle.wording.proofs.WordsKept.{length_frames, frames_append, Has, give_mask, keep_masks, keep_frames}

-- ---- slots and frames that give it
module _ (c : Claim) (s : Slot) (inside : place_of s < claim_size) where
  abbrev SlotsGive : List Slot → Type 0
  SlotsGive ss = (ws : List ℕ) → length ws ≡ claim_size → Has c s inside (put_masks c ss ws)

  abbrev Give : List Due → Type 0
  Give ds = (ws : List ℕ) → length ws ≡ claim_size → Has c s inside (put_frames c ds ws)

  give_first : (ss : List Slot) → SlotsGive (s ∷ ss)
  give_first ss ws size =
      let next = set ws (place_of s) (c s).bits in
      keep_masks c s inside ss next (length-set ws (place_of s) (c s).bits ∙ size) (give_mask c s inside ws size)

  give_later : (t : Slot) (ss : List Slot) → SlotsGive ss → SlotsGive (t ∷ ss)
  give_later t ss g ws size = g (set ws (place_of t) (c t).bits) (length-set ws (place_of t) (c t).bits ∙ size)

  give_tab : (n i : ℕ) (f : ℕ → Slot) (ss : List Slot) → i < n → f i ≡ s → SlotsGive (tab n f ++ ss)
  give_tab zero i f ss l e = absurd (omega arith)
  give_tab (suc n) zero f ss l e = rw e (give_first (tab n (λ k. f (suc k)) ++ ss))
  give_tab (suc n) (suc i) f ss l e =
      give_later (f zero) (tab n (λ k. f (suc k)) ++ ss) (give_tab n i (λ k. f (suc k)) ss (le_of_suc-le-suc l) e)

  give_end : (n : ℕ) (f : ℕ → Slot) → SlotsGive (tab n f ++ (s ∷ []))
  give_end zero f = give_first []
  give_end (suc n) f = give_later (f zero) (tab n (λ k. f (suc k)) ++ (s ∷ [])) (give_end n (λ k. f (suc k)))

  give_left : (xs ys : List Due) → Give xs → Give (xs ++ ys)
  give_left xs ys g ws size =
      rw (frames_append c xs ys ws) (keep_frames c s inside ys (put_frames c xs ws) (length_frames c xs ws ∙ size) (g ws size))

  give_right : (xs ys : List Due) → Give ys → Give (xs ++ ys)
  give_right xs ys g ws size = rw (frames_append c xs ys ws) (g (put_frames c xs ws) (length_frames c xs ws ∙ size))

  give_joined : (n i : ℕ) (f : ℕ → List Due) → i < n → Give (f i) → Give (joined n f)
  give_joined zero i f l g = absurd (omega arith)
  give_joined (suc n) zero f l g = give_left (f zero) (joined n (λ k. f (suc k))) g
  give_joined (suc n) (suc i) f l g =
      give_right (f zero) (joined n (λ k. f (suc k))) (give_joined n i (λ k. f (suc k)) (le_of_suc-le-suc l) g)

  give_part : (p : Program) (k : Part) (a b : ℕ) → a < outer p k → b < inner p k a → Give (frame_at p k a b) → Give (part_due p k)
  unfolding part_due
  give_part p k a b la lb g = give_joined (outer p k) a _ la (give_joined (inner p k a) b (frame_at p k a) lb g)

  give_frames : (p : Program) (k : Part) → Give (part_due p k) → Give (frames_due p)
  unfolding frames_due
  give_frames p Address g = give_left (part_due p Address) _ g
  give_frames p Field g = give_right (part_due p Address) _ (give_left (part_due p Field) _ g)
  give_frames p Static g = give_right (part_due p Address) _ (give_right (part_due p Field) _ (give_left (part_due p Static) _ g))
  give_frames p Returned g =
      give_right (part_due p Address) _
      (give_right (part_due p Field) _ (give_right (part_due p Static) _ (give_left (part_due p Returned) _ g)))
  give_frames p Leaving g =
      give_right (part_due p Address) _
      (give_right (part_due p Field) _ (give_right (part_due p Static) _ (give_right (part_due p Returned) _ g)))

-- ---- the frames due
module _ (p : Program) (formed : Formed p) (c : Claim) where
  -- a frame of part k, at the numbers a and b, that gives a slot's mask
  by_frame : (k : Part) (a b : ℕ) (s : Slot) (inside : place_of s < claim_size) → a < outer p k → b < inner p k a
      → Give c s inside (frame_at p k a b) → Give c s inside (frames_due p)
  by_frame k a b s l la lb g = give_frames c s l p k (give_part c s l p k a b la lb g)

  own_given : (s : Slot) (inside : place_of s < claim_size) → Own p s → Give c s inside (frames_due p)
  own_given (register_at m pc r) l (a, b, d) =
      let s = register_at m pc r in
      by_frame Address m pc s l a b (give_tab c s l (registers p m) r (register_at m pc) (result_at m pc ∷ []) d refl)
  own_given (result_at m pc) l (a, b) =
      let s = result_at m pc in
      by_frame Address m pc s l a b (give_end c s l (registers p m) (register_at m pc))
  own_given (field_of k x) l (a, b, d) =
      let s = field_of k x in
      by_frame Field k x s l a b (rw d (give_first c s l []))
  own_given (static_of x) l a = by_frame Static x 0 (static_of x) l a (omega arith) (give_first c (static_of x) l [])
  own_given (returned_by m) l a = by_frame Returned m 0 (returned_by m) l a (omega arith) (give_first c (returned_by m) l [])
  own_given (leaving m) l a = by_frame Leaving m 0 (leaving m) l a (omega arith) (give_first c (leaving m) l [])

  pub words_own : (s : Slot) → Own p s → claim_in (words_of p c) s ≡ c s
  unfolding words_of
  words_own s o = own_given s (own_inside p formed s o) o no_masks none_size
