-- A claim's text, put frame after frame. Assumes nothing.
use mathlib.Core.Path.{◌≡◌, refl, sym, ap, ◌∙◌}
use mathlib.Core.List.{List, [], ◌∷◌, ◌++◌, append_assoc, append-nil}
use Prim.Native.Nat.{ℕ, zero, suc, ◌+◌, ◌<◌}
use native.Mathlib.Numerals.{add-one}
use lib.ListN.{length, take, get_or}
use Rattle.page.specs.Digits.{two, sixteen}
use Rattle.page.specs.declared.Page.{Page}
use Rattle.page.specs.OnPage.{PutOn}
use Rattle.page.proofs.Puts.{take_more}
use Rattle.page.proofs.OnPages.{◌⨾◌, on_as}
use Rattle.program.specs.Lists.{tab, joined}
use Rattle.program.specs.Program.{Program, registers}
use Rattle.program.proofs.Joined.{joined_more}
use Rattle.flow.specs.Claim.{Slot, register_at, result_at, Claim}
use Rattle.claim.specs.declared.Part.TheVariants.{Address, Field, Static, Returned, Leaving}
use Rattle.claim.specs.declared.Part.{Part}
use Rattle.claim.specs.Frames.{Due, outer, frame_at, part_due, frames_due}
use Rattle.wording.specs.ClaimText.{numbers_text, masks_text, frame_text, frames_text, claim_text}
use Rattle.wording.specs.Inside.{row_due}

-- ---- one number more
numbers_append : (xs ys : List ℕ) → numbers_text (xs ++ ys) ≡ numbers_text xs ++ numbers_text ys
numbers_append [] ys = refl
numbers_append (n ∷ ns) ys = ap (λ (t : List ℕ). two n ++ t) (numbers_append ns ys)

pub number_more : (ns : List ℕ) (i : ℕ) {x y z : Page} → i < length ns
    → PutOn x (numbers_text (take i ns)) y
    → PutOn y (two (get_or ns i 0)) z
    → PutOn x (numbers_text (take (i + 1) ns)) z
number_more ns i h p q =
    on_as (p ⨾ q) (sym (numbers_append (take i ns) (get_or ns i 0 ∷ [])) ∙ ap numbers_text (take_more ns i h))

-- ---- one more at the end
tab_more : (n : ℕ) (f : ℕ → Slot) → tab (suc n) f ≡ tab n f ++ (f n ∷ [])
tab_more zero f = refl
tab_more (suc n) f = ap (λ (ss : List Slot). f zero ∷ ss) (tab_more n (λ k. f (suc k)))

module _ (c : Claim) where
  frames_append : (xs ys : List Due) → frames_text c (xs ++ ys) ≡ frames_text c xs ++ frames_text c ys
  frames_append [] ys = refl
  frames_append (x ∷ xs) ys =
      ap (λ (t : List ℕ). frame_text c x ++ t) (frames_append xs ys) ∙ sym (append_assoc (frame_text c x) (frames_text c xs) (frames_text c ys))

  masks_append : (xs ys : List Slot) → masks_text c (xs ++ ys) ≡ masks_text c xs ++ masks_text c ys
  masks_append [] ys = refl
  masks_append (x ∷ xs) ys =
      ap (λ (t : List ℕ). sixteen (c x).bits ++ t) (masks_append xs ys)
      ∙ sym (append_assoc (sixteen (c x).bits) (masks_text c xs) (masks_text c ys))

  pub frames_more : (f : ℕ → List Due) (n : ℕ) {x y z : Page}
      → PutOn x (frames_text c (joined n f)) y
      → PutOn y (frames_text c (f n)) z
      → PutOn x (frames_text c (joined (n + 1) f)) z
  frames_more f n p q =
      rw (add-one n)
      (on_as (p ⨾ q) (sym (ap (frames_text c) (joined_more n f) ∙ frames_append (joined n f) (f n))))

  pub masks_more : (f : ℕ → Slot) (n : ℕ) {x y z : Page}
      → PutOn x (masks_text c (tab n f)) y
      → PutOn y (sixteen (c (f n)).bits) z
      → PutOn x (masks_text c (tab (n + 1) f)) z
  masks_more f n p q =
      rw (add-one n)
      (on_as (p ⨾ q) (sym (ap (masks_text c) (tab_more n f) ∙ masks_append (tab n f) (f n ∷ []))))

  -- ---- the frame of an address
  pub address_line : (p : Program) (m pc : ℕ)
      → two 17 ++ two m ++ two pc ++ masks_text c (tab (registers p m) (register_at m pc)) ++ sixteen (c (result_at m pc)).bits ++ (10 ∷ [])
      ≡ frames_text c (frame_at p Address m pc)
  address_line p m pc =
      let ss = tab (registers p m) (register_at m pc) in
      ap (λ (t : List ℕ). two 17 ++ (two m ++ (two pc ++ t)))
      (ap (λ (t : List ℕ). t ++ (10 ∷ [])) (sym (masks_append ss (result_at m pc ∷ [])))
      ∙ sym (append-nil (masks_text c (ss ++ (result_at m pc ∷ [])) ++ (10 ∷ []))))

  -- ---- a part by its rows
  pub part_line : (p : Program) (k : Part) (n : ℕ) → n ≡ outer p k → frames_text c (joined n (row_due p k)) ≡ frames_text c (part_due p k)
  unfolding part_due
  part_line p k n e = ap (λ (i : ℕ). frames_text c (joined i (row_due p k))) e

  -- ---- the parts, one after another
  five_lines : (u v x y z : List Due)
      → frames_text c u ++ frames_text c v ++ frames_text c x ++ frames_text c y ++ frames_text c z
      ≡ frames_text c (u ++ (v ++ (x ++ (y ++ z))))
  five_lines u v x y z =
      let t : List Due → List ℕ = frames_text c in
      sym
      (frames_append u (v ++ (x ++ (y ++ z)))
      ∙ ap (λ (l : List ℕ). t u ++ l)
      (frames_append v (x ++ (y ++ z))
      ∙ ap (λ (l : List ℕ). t v ++ l) (frames_append x (y ++ z) ∙ ap (λ (l : List ℕ). t x ++ l) (frames_append y z)))
      ∙ sym (append_assoc (t u) (t v) (t x ++ (t y ++ t z)))
      ∙ sym (append_assoc (t u ++ t v) (t x) (t y ++ t z))
      ∙ sym (append_assoc (t u ++ t v ++ t x) (t y) (t z)))

  abbrev part : Program → Part → List ℕ
  part p k = frames_text c (part_due p k)

  pub parts_line : (p : Program)
      → part p Address ++ part p Field ++ part p Static ++ part p Returned ++ part p Leaving ≡ claim_text p c
  unfolding claim_text frames_due
  parts_line p = five_lines (part_due p Address) (part_due p Field) (part_due p Static) (part_due p Returned) (part_due p Leaving)
