-- Whether a line is a frame, by the numbers that stand in the text, and the greatest number of class bits. Assumes nothing.
use mathlib.Core.Path.{◌≡◌, sym, ◌∙◌}
use mathlib.Core.Bool.{Bool, true, false, ◌&&◌, ◌||◌}
use mathlib.Core.List.{List}
use Prim.Native.Nat.{ℕ, ◌+◌, ◌*◌, ◌%◌, ◌^◌, ◌≤◌, ◌<◌}
use native.Mathlib.Nat.{add-zero}
use native.Mathlib.Omega.{arith}
use lib.Dec.{eqb, ltb}
use lib.Pow.{pow_mono}
use lib.ListN.{length, take, drop}
use borrow.Author.Tests.{ltb-true, eq-eqb, ne_eqb, eqb-true}
use Rattle.text.specs.Hex.{all_digits}
use Rattle.text.specs.Words.{two_at}
use Rattle.text.proofs.Digits.{digits_inside}
use Rattle.text.proofs.AtOnce.{two_digits}
use Rattle.text.proofs.Cases.{by_test}
use Rattle.instruction.proofs.Flags.{both_true}
use Rattle.reader.specs.Inside.{line_at}
use Rattle.claim.specs.declared.Frame.{Frame}
use Rattle.claim.specs.ReadClaim.{digits_from}
use Rattle.claim.specs.Inside.{class_bits, is_frame}
use Rattle.claim.proofs.Digits.{line_digits, line_length}

-- one bit, shifted by less than 61
module _ (n : ℕ) (l : n < 61) where
  power_most : 2 ^ n ≤ 2 ^ 61
  power_most = pow_mono {i = n} {j = 61} (omega arith)

  pub power_least : 1 ≤ 2 ^ n
  power_least = pow_mono {i = 0} {j = n} (omega arith)

  pub power_shifted : 1 * 2 ^ n % 18446744073709551616 ≡ 2 ^ n
  power_shifted = omega (arith, power_most)

pub class_bits_most : (n : ℕ) → class_bits n ≤ 2305843009213693951
class_bits_most n =
    by_test (ltb n 61)
    (λ t. rw t (omega (arith, power_most n (ltb-true n 61 t))))
    (λ t. rw t (omega arith))

module _ (s : List ℕ) (at d : ℕ) (f : Frame) (a b : ℕ) (room : at + d < length s) where
  pub wrong_length : (d ≡ f.head + 16 * (f.registers + 1) → ⊥) → is_frame f a b (line_at s at d) ≡ false
  wrong_length h = rw (line_length s at d room, ne_eqb d (f.head + 16 * (f.registers + 1)) h)

  -- a line that is the frame has its length
  pub frame_length : (t : Bool) → t ≡ is_frame f a b (line_at s at d) → t ≡ true → d ≡ f.head + 16 * (f.registers + 1)
  frame_length t i h =
      sym (line_length s at d room)
      ∙ eqb-true _ (f.head + 16 * (f.registers + 1)) (both_true _ _ (sym i ∙ h)).0

  -- and its kind
  pub frame_kind : (t : Bool) → t ≡ is_frame f a b (line_at s at d) → t ≡ true → digits_from (line_at s at d) 0 2 ≡ f.kind
  frame_kind t i h =
      let l = line_at s at d in
      let numbers : Bool = eqb (digits_from l 2 2) a && (eqb f.head 4 || eqb (digits_from l 4 2) b) in
      let tests =
      both_true (eqb (length l.bytes) (f.head + 16 * (f.registers + 1))) (eqb (digits_from l 0 2) f.kind && numbers)
      (sym i ∙ h) in
      eqb-true (digits_from l 0 2) f.kind (both_true (eqb (digits_from l 0 2) f.kind) numbers tests.1).0

  -- a number of the header, as it is read
  module _ (digits : all_digits (take d (drop at s)) ≡ true) where
    pub header_number : (i : ℕ) → i + 2 ≤ d → digits_from (line_at s at d) i 2 ≡ two_at s (at + i)
    header_number i l =
        line_digits s at d i 2 l (omega arith)
        ∙ sym (two_digits s (at + i) (omega arith) (digits_inside s at d i 2 l digits))

    pub right_length : 4 ≤ f.head → d ≡ f.head + 16 * (f.registers + 1)
        → is_frame f a b (line_at s at d)
        ≡ (eqb (two_at s at) f.kind
        && (eqb (two_at s (at + 2)) a && (eqb f.head 4 || eqb (two_at s (at + 4)) b)))
    right_length low e =
        rw (
          line_length s at d room,
          eq-eqb d (f.head + 16 * (f.registers + 1)) e,
          header_number 0 (omega arith),
          header_number 2 (omega arith),
          header_number 4 (omega arith),
          add-zero at,
        )
