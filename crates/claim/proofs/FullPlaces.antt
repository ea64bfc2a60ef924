-- The allowed bits by place: the last 16 words are the masks of what leaves each method, all others may have the same bits. Assumes
-- nothing.
use mathlib.Core.Path.{◌≡◌, refl}
use mathlib.Core.Bool.{Bool, true, false, ◌&&◌}
use Prim.Native.Nat.{ℕ, ◌+◌, ◌*◌, ◌≤◌, ◌<◌}
use native.Mathlib.Omega.{arith}
use lib.Dec.{ltb}
use borrow.Author.Tests.{lt-ltb, le-ltb, ltb-true, ltb-false}
use Rattle.text.proofs.Cases.{by_test}
use Rattle.instruction.specs.Word.{pick}
use Rattle.instruction.proofs.Flags.{both_true}
use Rattle.mask.specs.declared.Mask.{Mask}
use Rattle.program.specs.Program.{Program}
use Rattle.flow.specs.Claim.{Slot, register_at, result_at, field_of, static_of, returned_by, leaving}
use Rattle.slots.specs.Layout.{claim_size, row_of, place_of}
use Rattle.slots.proofs.Places.{row_in_lem, row_method, row_address}
use Rattle.claim.specs.Allowed.{full_claim}

-- register or result x of a row
row_low : (m pc x : ℕ) → x ≤ 16 → row_of m pc + x < claim_size → row_of m pc + x < 9696
row_low m pc x few l =
    by_test (ltb m 16)
    (λ t. by_test (ltb pc 32)
    (λ h. omega (arith, row_in_lem m pc (ltb-true m 16 t) (ltb-true pc 32 h), ltb-true m 16 t, ltb-true pc 32 h))
    (λ h. absurd (omega (arith, row_address m pc (ltb-false pc 32 h)))))
    (λ t. absurd (omega (arith, row_method m pc (ltb-false m 16 t))))

-- a place where a test passes, past the last word where it fails
chosen_low : (t : Bool) (i : ℕ) → (t ≡ true → i < claim_size → i < 9696) → pick t i claim_size < claim_size
    → pick t i claim_size < 9696
chosen_low true i f l = f refl l
chosen_low false i f l = absurd (omega arith)

chosen_high : (t : Bool) (i : ℕ) → 9696 ≤ i → 9696 ≤ pick t i claim_size
chosen_high true i l = l
chosen_high false i l = omega arith

-- the mask with all bits that the one at a place may have
abbrev pub full_at : Program → ℕ → Mask
full_at p i = pick (ltb i 9696) (full_claim p (static_of 0)) (full_claim p (leaving 0))

module _ (p : Program) where
  low : (i : ℕ) (m : Mask) → m ≡ full_claim p (static_of 0) → i < 9696 → m ≡ full_at p i
  low i m e l = rw (lt-ltb i 9696 l) e

  high : (i : ℕ) (m : Mask) → m ≡ full_claim p (leaving 0) → 9696 ≤ i → m ≡ full_at p i
  high i m e l = rw (le-ltb i 9696 l) e

  -- a slot that lies inside the words may have the bits of its place
  pub full_at_lem : (s : Slot) → place_of s < claim_size → full_claim p s ≡ full_at p (place_of s)
  unfolding place_of full_claim
  full_at_lem (register_at m pc r) l =
      low (place_of (register_at m pc r)) _ refl
      (chosen_low (ltb r 16) (row_of m pc + r) (λ t. row_low m pc r (omega (arith, ltb-true r 16 t))) l)
  full_at_lem (result_at m pc) l = low (place_of (result_at m pc)) _ refl (row_low m pc 16 (omega arith) l)
  full_at_lem (field_of c x) l =
      low (place_of (field_of c x)) _ refl
      (chosen_low (ltb c 60 && ltb x 16) (8704 + c * 16 + x)
      (λ t _. let b = both_true (ltb c 60) (ltb x 16) t in omega (arith, ltb-true c 60 b.0, ltb-true x 16 b.1))
      l)
  full_at_lem (static_of x) l =
      low (place_of (static_of x)) _ refl (chosen_low (ltb x 16) (9664 + x) (λ t _. omega (arith, ltb-true x 16 t)) l)
  full_at_lem (returned_by m) l =
      low (place_of (returned_by m)) _ refl (chosen_low (ltb m 16) (9680 + m) (λ t _. omega (arith, ltb-true m 16 t)) l)
  full_at_lem (leaving m) l = high (place_of (leaving m)) _ refl (chosen_high (ltb m 16) (9696 + m) (omega arith))
