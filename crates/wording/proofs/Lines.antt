-- A line that is written is the first line that is read, and its parts are the numbers and masks that it was written of. Assumes nothing.
use mathlib.Core.Path.{◌≡◌, refl, ◌∙◌}
use mathlib.Core.Bool.{true}
use mathlib.Core.List.{List, [], ◌∷◌, ◌++◌, append_assoc}
use mathlib.Core.Option.{some}
use Prim.Native.Nat.{ℕ, ◌+◌, ◌*◌, ◌<◌, ◌^◌}
use native.Mathlib.Omega.{arith}
use lib.Dec.{ltb}
use lib.ListN.{length, set, length-append}
use lib.Seq.{drop-append_seam, take-append-le, take-length}
use borrow.Author.Tests.{eq-eqb}
use Rattle.text.specs.Hex.{Line, lines_of, all_digits, digit_of as value_of, number_from, number_of}
use Rattle.text.proofs.Cases.{both_true}
use Rattle.page.specs.Digits.{two, sixteen}
use Rattle.mask.specs.Mask.{subset}
use Rattle.program.specs.Program.{Program}
use Rattle.program.specs.Lists.{Every}
use Rattle.flow.specs.Claim.{Slot, Claim}
use Rattle.slots.specs.Layout.{place_of}
use Rattle.claim.specs.Allowed.{full_claim}
use Rattle.claim.specs.ReadClaim.{digits_from, starts_with, masks_from}
use Rattle.wording.specs.ClaimText.{numbers_text, masks_text, put_masks}
use Rattle.page.proofs.Said.{no_end, two_said, sixteen_said, two_digits, sixteen_digits}

abbrev pub line : List ℕ → Line
line bytes = record { bytes = bytes; ended = true }

-- ---- digits, then byte 0a
pub first_line_lem : (bytes rest : List ℕ) → all_digits bytes ≡ true → lines_of (bytes ++ (10 ∷ rest)) ≡ line bytes ∷ lines_of rest
unfolding lines_of all_digits
first_line_lem [] rest h = refl
first_line_lem (b ∷ bytes) rest h =
    let (d, ds) = both_true (ltb (value_of b) 16) (all_digits bytes) h in
    rw (no_end b d, first_line_lem bytes rest ds)

-- ---- a part of a line
pub part : (before this after : List ℕ) → digits_from (line (before ++ (this ++ after))) (length before) (length this) ≡ number_of this
unfolding digits_from
part before this after =
    rw (drop-append_seam before (this ++ after), take-append-le (length this) this after (omega arith), take-length this)

pub part_at : (before this after : List ℕ) (i n : ℕ) → i ≡ length before → n ≡ length this
    → digits_from (line (before ++ (this ++ after))) i n ≡ number_of this
part_at before this after i n e f = rw (e, f) (part before this after)

-- ---- the numbers in front
pub two_number : (n : ℕ) → n < 256 → number_of (two n) ≡ n
unfolding number_from
two_number n l = two_said 0 n [] ∙ omega arith

abbrev Bytes : List ℕ → Type 0
Bytes ns = Every (λ n. n < 256) ns

pub numbers_length : (ns : List ℕ) → length (numbers_text ns) ≡ 2 * length ns
numbers_length [] = refl
numbers_length (n ∷ ns) = omega (arith, numbers_length ns)

pub numbers_digits : (ns rest : List ℕ) → all_digits rest ≡ true → all_digits (numbers_text ns ++ rest) ≡ true
numbers_digits [] rest h = h
numbers_digits (n ∷ ns) rest h = two_digits n (numbers_text ns ++ rest) (numbers_digits ns rest h)

pub starts : (before ns after : List ℕ) (i : ℕ) → Bytes ns → i ≡ length before
    → starts_with (line (before ++ (numbers_text ns ++ after))) i ns ≡ true
starts before [] after i h e = refl
starts before (n ∷ ns) after i h e =
    let first : digits_from (line (before ++ (two n ++ (numbers_text ns ++ after)))) i 2 ≡ n =
    part_at before (two n) (numbers_text ns ++ after) i 2 e refl ∙ two_number n h.0 in
    let rest = starts (before ++ two n) ns after (i + 2) h.1 (omega (arith, length-append before (two n))) in
    rw (first, eq-eqb n n refl) (rw (append_assoc before (two n) (numbers_text ns ++ after)) at rest)

-- ---- the masks behind them
pub masks_length : (c : Claim) (ss : List Slot) → length (masks_text c ss) ≡ 16 * length ss
masks_length c [] = refl
masks_length c (s ∷ ss) = omega (arith, masks_length c ss)

pub masks_digits : (c : Claim) (ss : List Slot) → all_digits (masks_text c ss) ≡ true
unfolding all_digits
masks_digits c [] = refl
masks_digits c (s ∷ ss) = sixteen_digits (c s).bits (masks_text c ss) (masks_digits c ss)

module _ (p : Program) (c : Claim) (fits : (s : Slot) → (c s).bits < 2 ^ 64) (fine : (s : Slot) → subset (c s) (full_claim p s) ≡ true) where
  pub masks_back : (before : List ℕ) (ss : List Slot) (i : ℕ) (ws : List ℕ) → i ≡ length before
      → masks_from p (line (before ++ masks_text c ss)) i ss ws ≡ some (put_masks c ss ws)
  unfolding masks_from
  masks_back before [] i ws e = refl
  masks_back before (s ∷ ss) i ws e =
      let mask = sixteen (c s).bits in
      let first : digits_from (line (before ++ (mask ++ masks_text c ss))) i 16 ≡ (c s).bits =
      part_at before mask (masks_text c ss) i 16 e refl ∙ sixteen_said (c s).bits (fits s) in
      let next = set ws (place_of s) (c s).bits in
      let rest = masks_back (before ++ mask) ss (i + 16) next (omega (arith, length-append before mask)) in
      rw (first, fine s) (rw (append_assoc before mask (masks_text c ss)) at rest)
