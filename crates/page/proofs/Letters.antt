-- Eight values below 16, a byte each: the digits of all at once, in one word. Assumes nothing.
use mathlib.Core.Path.{◌≡◌, refl, ◌∙◌}
use mathlib.Core.List.{List, [], ◌∷◌}
use Prim.Native.Nat.{ℕ, ◌+◌, ◌*◌, ◌/◌, ◌%◌, ◌<◌}
use native.Mathlib.Omega.{arith}
use lib.Bits.{bit_and, and_high}
use lib.Dec.{ltb}
use borrow.Author.Tests.{ltb-true, ltb-false}
use Rattle.text.specs.Words.{word_of}
use Rattle.text.proofs.Cases.{by_test}
use Rattle.text.proofs.Packing.{Bytes, word, masked}
use Rattle.page.specs.Digits.{digit_of, eight}
use mir.Syntax.{w64}
use Rattle.std.specs.Int.{to_le_bytes}
use Rattle.page.proofs.Bytes.{packed_eight}

-- 1 if the digit of a value is a letter, else 0
abbrev letter_of : ℕ → ℕ
letter_of d = (d + 6) / 16 % 2

-- bit 4 of a byte
bit_four : (b : ℕ) → bit_and b 16 ≡ b / 16 % 2 * 16
bit_four b = and_high b 1 4

-- the digit of a value
digit_made : (d : ℕ) → d < 16 → d + 48 + 39 * letter_of d ≡ digit_of d
unfolding digit_of
digit_made d l =
    by_test
    (ltb d 10)
    (λ t. let u = ltb-true d 10 t in simp t (omega arith))
    (λ t. let u = ltb-false d 10 t in simp t (omega arith))

digit_byte : (d : ℕ) → d < 16 → d + 48 + 39 * letter_of d < 256
digit_byte d l = omega arith

-- eight values in a word
abbrev nibbles_in : ℕ → ℕ → ℕ → ℕ → ℕ → ℕ → ℕ → ℕ → ℕ
nibbles_in a b c d e f g h = a + 256 * (b + 256 * (c + 256 * (d + 256 * (e + 256 * (f + 256 * (g + 256 * h))))))

-- their digits
abbrev digits_made : ℕ → ℕ
digits_made v = v + 3472328296227680304 + 39 * (bit_and (v + 434041037028460038) 1157442765409226768 / 16)

-- what is added to each byte of a word
spread : (a b c d e f g h m n o p q r s t : ℕ)
    → nibbles_in a b c d e f g h + 3472328296227680304
    + 39 * (word (m * 16) (n * 16) (o * 16) (p * 16) (q * 16) (r * 16) (s * 16) (t * 16) / 16)
    ≡ nibbles_in (a + 48 + 39 * m) (b + 48 + 39 * n) (c + 48 + 39 * o) (d + 48 + 39 * p)
    (e + 48 + 39 * q) (f + 48 + 39 * r) (g + 48 + 39 * s) (h + 48 + 39 * t)
unfolding word_of
spread a b c d e f g h m n o p q r s t = omega arith

-- 6 more in each byte
raised : (a b c d e f g h : ℕ)
    → nibbles_in a b c d e f g h + 434041037028460038 ≡ word (a + 6) (b + 6) (c + 6) (d + 6) (e + 6) (f + 6) (g + 6) (h + 6)
unfolding word_of
raised a b c d e f g h = omega arith

-- eight bytes 16
abbrev sixteens : List ℕ
sixteens = 16 ∷ 16 ∷ 16 ∷ 16 ∷ 16 ∷ 16 ∷ 16 ∷ 16 ∷ []

sixteen_bytes : Bytes sixteens
sixteen_bytes =
    (omega arith, (omega arith, (omega arith, (omega arith, (omega arith, (omega arith, (omega arith, (omega arith, tt))))))))

-- Eight values.
module _ (a b c d e f g h : ℕ) (aL : a < 16) (bL : b < 16) (cL : c < 16) (dL : d < 16)
    (eL : e < 16) (fL : f < 16) (gL : g < 16) (hL : h < 16) where
  raised_bytes : Bytes ((a + 6) ∷ (b + 6) ∷ (c + 6) ∷ (d + 6) ∷ (e + 6) ∷ (f + 6) ∷ (g + 6) ∷ (h + 6) ∷ [])
  raised_bytes =
      (omega arith, (omega arith, (omega arith, (omega arith, (omega arith, (omega arith, (omega arith, (omega arith, tt))))))))

  -- bit 4 of each is set for a letter
  marked : bit_and (nibbles_in a b c d e f g h + 434041037028460038) 1157442765409226768
      ≡ word (letter_of a * 16) (letter_of b * 16) (letter_of c * 16) (letter_of d * 16)
      (letter_of e * 16) (letter_of f * 16) (letter_of g * 16) (letter_of h * 16)
  unfolding word_of
  marked =
      rw (raised a b c d e f g h)
      (masked (a + 6) (b + 6) (c + 6) (d + 6) (e + 6) (f + 6) (g + 6) (h + 6) raised_bytes sixteens sixteen_bytes refl
      ∙ rw (
        bit_four (a + 6),
        bit_four (b + 6),
        bit_four (c + 6),
        bit_four (d + 6),
        bit_four (e + 6),
        bit_four (f + 6),
        bit_four (g + 6),
        bit_four (h + 6),
      ))

  -- the digit of each
  made : to_le_bytes w64 (digits_made (nibbles_in a b c d e f g h))
      ≡ digit_of a ∷ digit_of b ∷ digit_of c ∷ digit_of d ∷ digit_of e ∷ digit_of f ∷ digit_of g ∷ digit_of h ∷ []
  made =
      rw (
        marked,
        spread a b c d e f g h (letter_of a) (letter_of b) (letter_of c) (letter_of d) (letter_of e) (letter_of f) (letter_of g) (letter_of h),
      )
      (packed_eight _ _ _ _ _ _ _ _ (digit_byte a aL) (digit_byte b bL) (digit_byte c cL) (digit_byte d dL)
      (digit_byte e eL) (digit_byte f fL) (digit_byte g gL) (digit_byte h hL)
      ∙ rw (
        digit_made a aL,
        digit_made b bL,
        digit_made c cL,
        digit_made d dL,
        digit_made e eL,
        digit_made f fL,
        digit_made g gL,
        digit_made h hL,
      ))

-- the values of the digits of a number's low four bytes
abbrev pub nibbles_of : ℕ → ℕ
nibbles_of n =
    nibbles_in (n / 16777216 / 16 % 16) (n / 16777216 % 16) (n / 65536 / 16 % 16) (n / 65536 % 16)
    (n / 256 / 16 % 16) (n / 256 % 16) (n / 16 % 16) (n % 16)

-- those digits
pub eight_made : (n : ℕ) → to_le_bytes w64 (digits_made (nibbles_of n)) ≡ eight n
eight_made n =
    made (n / 16777216 / 16 % 16) (n / 16777216 % 16) (n / 65536 / 16 % 16) (n / 65536 % 16)
    (n / 256 / 16 % 16) (n / 256 % 16) (n / 16 % 16) (n % 16)
    (omega arith) (omega arith) (omega arith) (omega arith) (omega arith) (omega arith) (omega arith) (omega arith)
