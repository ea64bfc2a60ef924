-- Frames taken one list after another, and from an index on. Assumes nothing.
use mathlib.Core.Path.{◌≡◌, refl, sym, ap, ◌∙◌}
use mathlib.Core.Bool.{Bool, true, false}
use mathlib.Core.List.{List, [], ◌∷◌, ◌++◌}
use Prim.Native.Nat.{ℕ, zero, suc, ◌+◌, ◌-◌, ◌≤◌, ◌<◌}
use native.Mathlib.Nat.{add-zero}
use native.Mathlib.Omega.{arith}
use Rattle.program.specs.Lists.{joined}
use Rattle.program.specs.Program.{Program}
use Rattle.claim.specs.declared.Part.{Part}
use Rattle.claim.specs.Frames.{Due, inner, frame_at, part_due, frames_due}
use Rattle.claim.specs.declared.Part.TheVariants.{Address, Field, Static, Returned, Leaving}
use Rattle.claim.specs.ReadClaim.{Progress, take_frame, take_frames}
use Rattle.claim.specs.Inside.{present, due_at}
use Rattle.claim.proofs.DueFrames.{frame_present}

-- two that agree below n
joined_cong : (n : ℕ) (f g : ℕ → List Due) → ((i : ℕ) → i < n → f i ≡ g i) → joined n f ≡ joined n g
joined_cong zero f g h = refl
joined_cong (suc n) f g h =
    rw (h zero (omega arith), joined_cong n (λ k. f (suc k)) (λ k. g (suc k)) (λ i l. h (suc i) (omega arith)))

-- the frames of a part at its first number
abbrev pub row_due : Program → Part → ℕ → List Due
row_due p k a = joined (inner p k a) (frame_at p k a)

module _ (p : Program) where
  pub frames_append : (xs ys : List Due) (s : Progress) → take_frames p (xs ++ ys) s ≡ take_frames p ys (take_frames p xs s)
  frames_append [] ys s = refl
  frames_append (d ∷ xs) ys s = frames_append xs ys (take_frame p d s)

  module _ (n : ℕ) (f : ℕ → List Due) where
    -- those of f i, f (i + 1), .., f (n - 1)
    abbrev pub frames_from : ℕ → Progress → Progress
    frames_from i s = take_frames p (joined (n - i) (λ k. f (i + k))) s

    pub frames_start : (s : Progress) → take_frames p (joined n f) s ≡ frames_from 0 s
    frames_start s =
        let all : n - 0 ≡ n = omega arith in
        rw all (ap (λ (ds : List Due). take_frames p ds s) (joined_cong n f (λ k. f (0 + k)) (λ k h. ap f (omega arith))))

    pub frames_next : (i : ℕ) → i < n → (s : Progress) → frames_from i s ≡ frames_from (i + 1) (take_frames p (f i) s)
    frames_next i l s =
        ap (λ (ds : List Due). take_frames p ds s) (from (n - i) (n - (i + 1)) (omega arith))
        ∙ frames_append (f i) (joined (n - (i + 1)) (λ k. f (i + 1 + k))) s
      where
        from : (a b : ℕ) → a ≡ suc b → joined a (λ k. f (i + k)) ≡ f i ++ joined b (λ k. f (i + 1 + k))
        from a b e =
            rw (e, add-zero)
            (ap (λ (ds : List Due). f i ++ ds) (joined_cong b (λ k. f (i + suc k)) (λ k. f (i + 1 + k)) (λ k h. ap f (omega arith))))

    pub frames_end_lem : (i : ℕ) → n ≤ i → (s : Progress) → frames_from i s ≡ s
    frames_end_lem i l s =
        let nothing : n - i ≡ 0 = omega arith in
        rw nothing

  -- ---- the frame at two numbers, if there is one
  module _ (k : Part) (a b : ℕ) (t : Bool) (e : t ≡ present p k a b) (s : Progress) where
    pub frame_there : t ≡ true → take_frames p (frame_at p k a b) s ≡ take_frame p (due_at p k a b) s
    frame_there h = rw (frame_present p k a b, sym e ∙ h)

    pub frame_none : t ≡ false → take_frames p (frame_at p k a b) s ≡ s
    frame_none h = rw (frame_present p k a b, sym e ∙ h)

  -- ---- the parts, one after another
  parts_in_order : (s : Progress) → take_frames p (frames_due p) s
      ≡ take_frames p (part_due p Leaving)
      (take_frames p (part_due p Returned)
      (take_frames p (part_due p Static) (take_frames p (part_due p Field) (take_frames p (part_due p Address) s))))
  unfolding frames_due
  parts_in_order s =
      frames_append (part_due p Address) _ s
      ∙ frames_append (part_due p Field) _ _
      ∙ frames_append (part_due p Static) _ _
      ∙ frames_append (part_due p Returned) _ _

  pub parts_taken : (s a b c d e : Progress) → a ≡ take_frames p (part_due p Address) s → b ≡ take_frames p (part_due p Field) a
      → c ≡ take_frames p (part_due p Static) b → d ≡ take_frames p (part_due p Returned) c
      → e ≡ take_frames p (part_due p Leaving) d → e ≡ take_frames p (frames_due p) s
  parts_taken s a b c d e ea eb ec ed ee = rw (ee, ed, ec, eb, ea) (sym (parts_in_order s))
