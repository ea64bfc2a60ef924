-- What a whole line brings, by the tests that the code makes one after another. Assumes nothing.
use mathlib.Core.Path.{◌≡◌, sym, ◌∙◌}
use mathlib.Core.Bool.{Bool, true, false}
use mathlib.Core.List.{List, [], ◌∷◌, ◌++◌}
use mathlib.Core.Option.{none, some}
use Prim.Native.Nat.{ℕ, ◌+◌, ◌≤◌, ◌<◌}
use native.Mathlib.Omega.{arith}
use lib.ListN.{length}
use Rattle.text.specs.Hex.{Line}
use Rattle.instruction.specs.Word.{pick}
use Rattle.program.specs.Lists.{tab}
use Rattle.program.specs.Program.{Program, class_count}
use Rattle.text.proofs.Cases.{by_test}
use Rattle.flow.specs.Claim.{Slot, register_at}
use Rattle.slots.specs.Layout.{place_of}
use Rattle.reader.specs.Inside.{line_at}
use Rattle.claim.specs.declared.Part.{Part}
use Rattle.claim.specs.declared.Frame.{Frame}
use Rattle.claim.specs.ReadClaim.{known, head, is_due, masks_from}
use Rattle.claim.specs.Inside.{due_at, last_slot, frame_of, is_frame, masks_in, take_whole, after_line}
use Rattle.claim.proofs.DueFrames.{due_known, due_slots, due_head, due_last, due_count, due_is, due_allowed}
use Rattle.claim.proofs.FrameTests.{frame_length, frame_kind}
use Rattle.claim.proofs.Masks.{masks_of_line}

module _ (p : Program) (k : Part) (a b : ℕ) (text : List ℕ) (at d : ℕ) (ws : List ℕ) where
  -- the line brings this number, and these words where it is 0
  abbrev pub Told : ℕ → List ℕ → Type 0
  Told number us =
      (ls : List Line) → (n : ℕ) → after_line number ls n us ≡ take_whole p (due_at p k a b) (line_at text at d) ls n ws

  module _ (f : Frame) (e : f ≡ frame_of p k a b) (t : Bool) (i : t ≡ is_frame f a b (line_at text at d)) where
    due_flag : is_due (due_at p k a b) (line_at text at d) ≡ t
    due_flag = sym (due_is p a b k (line_at text at d)) ∙ rw e at (sym i)

    pub told_other : (us : List ℕ) → t ≡ false → Told (pick (known (line_at text at d)) 12 11) us
    told_other us h ls n =
        by_test (known (line_at text at d)) (λ y. rw (y, due_flag ∙ h)) (λ y. rw (y))

    module _ (h : t ≡ true) (few : class_count p ≤ 60) (room : at + d < length text) where
      -- the kind of the frame due is known
      kind : known (line_at text at d) ≡ true
      unfolding known
      kind = rw (frame_kind text at d f a b room t i h, e) (due_known p a b k)

      -- the slots of the masks: registers, and the last
      abbrev first : List Slot
      first = tab f.registers (register_at a b)

      masks_are : masks_from p (line_at text at d) (head (due_at p k a b)) (due_at p k a b).slots ws
          ≡ masks_in text (at + f.head) f.allowed (first ++ (last_slot k a b ∷ [])) ws
      masks_are =
          let w = frame_length text at d f a b room t i h in
          rw (e, sym (due_slots p a b k), sym (due_head p a b k))
          (masks_of_line p text at d (frame_of p k a b).allowed (head (due_at p k a b)) (due_at p k a b).slots ws
          (due_allowed p a b few k)
          (rw (due_head p a b k, due_count p a b k, sym e) (omega (arith, w))))

      module _ (r : Bool) (vs : List ℕ)
          (g : (s : Slot) → f.last ≡ place_of s
          → pick r (some vs) none ≡ masks_in text (at + f.head) f.allowed (first ++ (s ∷ [])) ws) where
        here : pick r (some vs) none ≡ masks_in text (at + f.head) f.allowed (first ++ (last_slot k a b ∷ [])) ws
        here = g (last_slot k a b) (rw e (due_last p a b k))

        pub told_refused : (us : List ℕ) → r ≡ false → Told 13 us
        told_refused us y ls n = rw (kind, due_flag ∙ h, masks_are ∙ sym here, y)

        pub told_taken : r ≡ true → Told 0 vs
        told_taken y ls n = rw (kind, due_flag ∙ h, masks_are ∙ sym here, y)
