-- The frame due at two numbers, as the code has it: its kind, the digits before its masks, its slots and the bits that their masks may
-- have. Assumes nothing.
use mathlib.Core.Path.{◌≡◌, refl, sym, ap, ◌∙◌}
use mathlib.Core.Bool.{Bool, true, false, ◌&&◌, ◌||◌}
use mathlib.Core.List.{[], ◌∷◌, ◌++◌}
use Prim.Native.Nat.{ℕ, ◌+◌, ◌*◌, ◌≤◌}
use native.Mathlib.Omega.{arith}
use lib.Dec.{eqb, leb}
use lib.ListN.{length, length-append}
use Rattle.text.specs.Hex.{Line}
use Rattle.instruction.specs.Word.{pick}
use Rattle.program.specs.Lists.{tab, Every}
use Rattle.program.specs.Program.{Program, class_count, registers}
use Rattle.program.proofs.Lists.{length_tab}
use Rattle.program.proofs.Every.{every_append, every_tab}
use Rattle.flow.specs.Claim.{register_at}
use Rattle.slots.specs.Layout.{place_of, mask_of}
use Rattle.claim.specs.declared.Part.{Part}
use Rattle.claim.specs.declared.Part.TheVariants.{Address, Field, Static, Returned, Leaving}
use Rattle.claim.specs.Allowed.{full_claim}
use Rattle.claim.specs.Frames.{frame_at}
use Rattle.claim.specs.ReadClaim.{digits_from, starts_with, head, is_due}
use Rattle.claim.specs.Inside.{present, due_at, last_slot, frame_of, is_frame}
use Rattle.claim.proofs.AllowedBits.{register_full, result_full, field_full, static_full, returned_full, leaving_full}

-- ---- the order of the tests
three : (a b c d : Bool) → d && (a && (b && (false || c))) ≡ (a && (b && (c && true))) && d
three true true true true = refl
three true true true false = refl
three true true false true = refl
three true true false false = refl
three true false c true = refl
three true false c false = refl
three false b c true = refl
three false b c false = refl

two : (a b d : Bool) → d && (a && (b && true)) ≡ (a && (b && true)) && d
two true true true = refl
two true true false = refl
two true false true = refl
two true false false = refl
two false b true = refl
two false b false = refl

module _ (p : Program) where
  -- the frame at two numbers, where there is one
  pub frame_present : (k : Part) (a b : ℕ) → frame_at p k a b ≡ pick (present p k a b) (due_at p k a b ∷ []) []
  frame_present Address a b = refl
  frame_present Field a b = refl
  frame_present Static a b = refl
  frame_present Returned a b = refl
  frame_present Leaving a b = refl

  module _ (a b : ℕ) where
    pub due_known : (k : Part) → leb 17 (frame_of p k a b).kind && leb (frame_of p k a b).kind 21 ≡ true
    due_known Address = refl
    due_known Field = refl
    due_known Static = refl
    due_known Returned = refl
    due_known Leaving = refl

    pub due_slots : (k : Part) → (due_at p k a b).slots ≡ tab (frame_of p k a b).registers (register_at a b) ++ (last_slot k a b ∷ [])
    due_slots Address = refl
    due_slots Field = refl
    due_slots Static = refl
    due_slots Returned = refl
    due_slots Leaving = refl

    pub due_head : (k : Part) → head (due_at p k a b) ≡ (frame_of p k a b).head
    due_head Address = refl
    due_head Field = refl
    due_head Static = refl
    due_head Returned = refl
    due_head Leaving = refl

    pub due_last : (k : Part) → (frame_of p k a b).last ≡ place_of (last_slot k a b)
    due_last Address = refl
    due_last Field = refl
    due_last Static = refl
    due_last Returned = refl
    due_last Leaving = refl

    pub due_limits : (k : Part)
        → (4 ≤ (frame_of p k a b).head) × ((frame_of p k a b).head ≤ 6) × ((frame_of p k a b).registers ≤ 255)
    due_limits Address = (omega arith, omega arith, omega arith)
    due_limits Field = (omega arith, omega arith, omega arith)
    due_limits Static = (omega arith, omega arith, omega arith)
    due_limits Returned = (omega arith, omega arith, omega arith)
    due_limits Leaving = (omega arith, omega arith, omega arith)

    -- how many masks
    pub due_count : (k : Part) → length (due_at p k a b).slots ≡ (frame_of p k a b).registers + 1
    due_count k =
        ap length (due_slots k)
        ∙ length-append (tab (frame_of p k a b).registers (register_at a b)) (last_slot k a b ∷ [])
        ∙ ap (λ (n : ℕ). n + 1) (length_tab (frame_of p k a b).registers (register_at a b))

    -- the line is the frame due
    pub due_is : (k : Part) (l : Line) → is_frame (frame_of p k a b) a b l ≡ is_due (due_at p k a b) l
    unfolding is_due
    due_is Address l =
        three (eqb (digits_from l 0 2) 17) (eqb (digits_from l 2 2) a) (eqb (digits_from l 4 2) b)
        (eqb (length l.bytes) (6 + 16 * (registers p a + 1)))
        ∙ ap (λ (n : ℕ). starts_with l 0 (17 ∷ a ∷ b ∷ []) && eqb (length l.bytes) (6 + 16 * n)) (sym (due_count Address))
    due_is Field l =
        three (eqb (digits_from l 0 2) 18) (eqb (digits_from l 2 2) a) (eqb (digits_from l 4 2) b) (eqb (length l.bytes) 22)
    due_is Static l = two (eqb (digits_from l 0 2) 19) (eqb (digits_from l 2 2) a) (eqb (length l.bytes) 20)
    due_is Returned l = two (eqb (digits_from l 0 2) 20) (eqb (digits_from l 2 2) a) (eqb (length l.bytes) 20)
    due_is Leaving l = two (eqb (digits_from l 0 2) 21) (eqb (digits_from l 2 2) a) (eqb (length l.bytes) 20)

    -- its masks may have the same bits
    pub due_allowed : class_count p ≤ 60 → (k : Part)
        → Every (λ s. full_claim p s ≡ mask_of (frame_of p k a b).allowed) (due_at p k a b).slots
    due_allowed few Address =
        every_append _ (tab (registers p a) (register_at a b)) (last_slot Address a b ∷ [])
        (every_tab _ (registers p a) (register_at a b) (λ i. register_full p few a b i))
        (result_full p few a b, tt)
    due_allowed few Field = (field_full p few a b, tt)
    due_allowed few Static = (static_full p few a, tt)
    due_allowed few Returned = (returned_full p few a, tt)
    due_allowed few Leaving = (leaving_full p few a, tt)
