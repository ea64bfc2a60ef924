-- Eight digits in one word: a mask takes part of each byte, so that the packed word is the number of the digits. Assumes nothing.
use mathlib.Core.Path.{◌≡◌, refl, ap, ◌∙◌}
use mathlib.Core.Bool.{true}
use mathlib.Core.List.{List, [], ◌∷◌}
use Prim.Native.Nat.{ℕ, ◌+◌, ◌*◌, ◌/◌, ◌%◌, ◌<◌}
use native.Mathlib.Omega.{arith}
use lib.ListN.{length}
use lib.Bits.{bit_and, and_block, and_mask, and_high, and_zero_r}
use lib.Dec.{ltb}
use borrow.Author.Tests.{ltb-true, ltb-false}
use Rattle.text.specs.Hex.{digit_of, all_digits, number_from, number_of}
use Rattle.text.specs.Words.{word_of, values_of, pairs_of, quads_of, eight_of}
use Rattle.text.proofs.Cases.{by_test, never, both_true}

-- bytes
abbrev pub Bytes : List ℕ → Type 0
Bytes [] = Unit {0}
Bytes (b ∷ bs) = (b < 256) × Bytes bs

-- each byte of one list with that of the other
abbrev pub lanes : List ℕ → List ℕ → List ℕ
lanes [] ms = []
lanes (b ∷ bs) [] = []
lanes (b ∷ bs) (m ∷ ms) = bit_and b m ∷ lanes bs ms

-- a word and a mask, byte by byte
and_lanes : (bs ms : List ℕ) → Bytes bs → Bytes ms → length bs ≡ length ms
    → bit_and (word_of bs) (word_of ms) ≡ word_of (lanes bs ms)
unfolding word_of
and_lanes [] [] p q e = refl
and_lanes [] (m ∷ ms) p q e = absurd (omega arith)
and_lanes (b ∷ bs) [] p q e = absurd (omega arith)
and_lanes (b ∷ bs) (m ∷ ms) p q e =
    and_block 8 (word_of bs) (word_of ms) b m p.0 q.0
    ∙ ap (λ (n : ℕ). n * 256 + bit_and b m) (and_lanes bs ms p.1 q.1 (omega arith))

-- a digit: a byte, and its value by its bits
pub digit_bits : (b : ℕ) → ltb (digit_of b) 16 ≡ true → (b < 256) × (b % 16 + 9 * (b / 64 % 2) ≡ digit_of b)
unfolding digit_of
digit_bits b d =
    by_test
    (ltb b 48)
    (λ t. never (cc (simp t at d)))
    (λ t. by_test
    (ltb b 58)
    (λ u. let h = ltb-true b 58 u in let l = ltb-false b 48 t in simp (t, u) (omega arith, omega arith))
    (λ u. by_test
    (ltb b 97)
    (λ v. never (cc (simp (t, u, v) at d)))
    (λ v. by_test
    (ltb b 103)
    (λ w. let h = ltb-true b 103 w in let l = ltb-false b 97 v in simp (t, u, v, w) (omega arith, omega arith))
    (λ w. never (cc (simp (t, u, v, w) at d))))))

low : (b : ℕ) → bit_and b 15 ≡ b % 16
low b = and_mask b 4

bit_six : (b : ℕ) → bit_and b 64 ≡ (b / 64 % 2) * 64
bit_six b = and_high b 1 6

low_value : (d : ℕ) → d < 16 → bit_and d 15 ≡ d
low_value d l = low d ∙ omega arith

whole_byte : (p : ℕ) → p < 256 → bit_and p 255 ≡ p
whole_byte p l = and_mask p 8 ∙ omega arith

-- the word of eight bytes
abbrev pub word : ℕ → ℕ → ℕ → ℕ → ℕ → ℕ → ℕ → ℕ → ℕ
word a b c d e f g h = word_of (a ∷ b ∷ c ∷ d ∷ e ∷ f ∷ g ∷ h ∷ [])

-- the bytes of a mask
eight_bytes : (a b c d e f g h : ℕ) → a < 256 → b < 256 → c < 256 → d < 256 → e < 256 → f < 256 → g < 256 → h < 256 → Bytes (a ∷ b ∷ c ∷ d ∷ e ∷ f ∷ g ∷ h ∷ [])
eight_bytes a b c d e f g h i j k l m n o p = (i, (j, (k, (l, (m, (n, (o, (p, tt))))))))

-- Eight bytes.
module _ (a b c d e f g h : ℕ) (bytes : Bytes (a ∷ b ∷ c ∷ d ∷ e ∷ f ∷ g ∷ h ∷ [])) where
  pub masked : (ms : List ℕ) → Bytes ms → 8 ≡ length ms → bit_and (word a b c d e f g h) (word_of ms) ≡ word_of (lanes (a ∷ b ∷ c ∷ d ∷ e ∷ f ∷ g ∷ h ∷ []) ms)
  masked ms m l = and_lanes (a ∷ b ∷ c ∷ d ∷ e ∷ f ∷ g ∷ h ∷ []) ms bytes m l

  -- the value of each
  lows : bit_and (word a b c d e f g h) 1085102592571150095 ≡ word (a % 16) (b % 16) (c % 16) (d % 16) (e % 16) (f % 16) (g % 16) (h % 16)
  unfolding word_of
  lows = masked (15 ∷ 15 ∷ 15 ∷ 15 ∷ 15 ∷ 15 ∷ 15 ∷ 15 ∷ []) (omega arith, (omega arith, (omega arith, (omega arith, (omega arith, (omega arith, (omega arith, (omega arith, tt)))))))) refl ∙ rw (low a, low b, low c, low d, low e, low f, low g, low h)

  sixths : bit_and (word a b c d e f g h) 4629771061636907072 ≡ word (a / 64 % 2 * 64) (b / 64 % 2 * 64) (c / 64 % 2 * 64) (d / 64 % 2 * 64) (e / 64 % 2 * 64) (f / 64 % 2 * 64) (g / 64 % 2 * 64) (h / 64 % 2 * 64)
  unfolding word_of
  sixths = masked (64 ∷ 64 ∷ 64 ∷ 64 ∷ 64 ∷ 64 ∷ 64 ∷ 64 ∷ []) (omega arith, (omega arith, (omega arith, (omega arith, (omega arith, (omega arith, (omega arith, (omega arith, tt)))))))) refl ∙ rw (bit_six a, bit_six b, bit_six c, bit_six d, bit_six e, bit_six f, bit_six g, bit_six h)

  values : values_of (word a b c d e f g h) ≡ word (a % 16 + 9 * (a / 64 % 2)) (b % 16 + 9 * (b / 64 % 2)) (c % 16 + 9 * (c / 64 % 2)) (d % 16 + 9 * (d / 64 % 2)) (e % 16 + 9 * (e / 64 % 2)) (f % 16 + 9 * (f / 64 % 2)) (g % 16 + 9 * (g / 64 % 2)) (h % 16 + 9 * (h / 64 % 2))
  unfolding word_of values_of
  values = rw (lows, sixths) (omega arith)

-- Eight values.
module _ (a b c d e f g h : ℕ) (aL : a < 16) (bL : b < 16) (cL : c < 16) (dL : d < 16) (eL : e < 16) (fL : f < 16) (gL : g < 16) (hL : h < 16) where
  value_bytes : Bytes (a ∷ b ∷ c ∷ d ∷ e ∷ f ∷ g ∷ h ∷ [])
  value_bytes = (omega arith, (omega arith, (omega arith, (omega arith, (omega arith, (omega arith, (omega arith, (omega arith, tt))))))))

  high : bit_and (word a b c d e f g h) 4222189076152335 ≡ word a 0 c 0 e 0 g 0
  unfolding word_of
  high =
      masked a b c d e f g h value_bytes (15 ∷ 0 ∷ 15 ∷ 0 ∷ 15 ∷ 0 ∷ 15 ∷ 0 ∷ []) (omega arith, (omega arith, (omega arith, (omega arith, (omega arith, (omega arith, (omega arith, (omega arith, tt)))))))) refl
      ∙ rw (low_value a aL, and_zero_r b, low_value c cL, and_zero_r d, low_value e eL, and_zero_r f, low_value g gL, and_zero_r h)

  low_ones : bit_and (word a b c d e f g h) 1080880403494997760 ≡ word 0 b 0 d 0 f 0 h
  unfolding word_of
  low_ones =
      masked a b c d e f g h value_bytes (0 ∷ 15 ∷ 0 ∷ 15 ∷ 0 ∷ 15 ∷ 0 ∷ 15 ∷ []) (omega arith, (omega arith, (omega arith, (omega arith, (omega arith, (omega arith, (omega arith, (omega arith, tt)))))))) refl
      ∙ rw (and_zero_r a, low_value b bL, and_zero_r c, low_value d dL, and_zero_r e, low_value f fL, and_zero_r g, low_value h hL)

  pairs : pairs_of (word a b c d e f g h) ≡ word (a * 16 + b) 0 (c * 16 + d) 0 (e * 16 + f) 0 (g * 16 + h) 0
  unfolding word_of pairs_of
  pairs = rw (high, low_ones) (omega arith)

-- Four pairs.
module _ (a b c d : ℕ) (aL : a < 256) (bL : b < 256) (cL : c < 256) (dL : d < 256) where
  pair_bytes : Bytes (a ∷ 0 ∷ b ∷ 0 ∷ c ∷ 0 ∷ d ∷ 0 ∷ [])
  pair_bytes = (omega arith, (omega arith, (omega arith, (omega arith, (omega arith, (omega arith, (omega arith, (omega arith, tt))))))))

  firsts : bit_and (word a 0 b 0 c 0 d 0) 1095216660735 ≡ word a 0 0 0 c 0 0 0
  unfolding word_of
  firsts =
      masked a 0 b 0 c 0 d 0 pair_bytes (255 ∷ 0 ∷ 0 ∷ 0 ∷ 255 ∷ 0 ∷ 0 ∷ 0 ∷ []) (omega arith, (omega arith, (omega arith, (omega arith, (omega arith, (omega arith, (omega arith, (omega arith, tt)))))))) refl
      ∙ rw (whole_byte a aL, and_zero_r b, whole_byte c cL, and_zero_r d)

  seconds : bit_and (word a 0 b 0 c 0 d 0) 71776119077928960 ≡ word 0 0 b 0 0 0 d 0
  unfolding word_of
  seconds =
      masked a 0 b 0 c 0 d 0 pair_bytes (0 ∷ 0 ∷ 255 ∷ 0 ∷ 0 ∷ 0 ∷ 255 ∷ 0 ∷ []) (omega arith, (omega arith, (omega arith, (omega arith, (omega arith, (omega arith, (omega arith, (omega arith, tt)))))))) refl
      ∙ rw (and_zero_r a, whole_byte b bL, and_zero_r c, whole_byte d dL)

  quads : quads_of (word a 0 b 0 c 0 d 0) ≡ (c * 256 + d) * 4294967296 + (a * 256 + b)
  unfolding word_of quads_of
  quads = rw (firsts, seconds) (omega arith)

  eights : eight_of (quads_of (word a 0 b 0 c 0 d 0)) ≡ a * 16777216 + b * 65536 + c * 256 + d
  unfolding eight_of
  eights = rw quads (omega arith)

-- Eight digits.
module _ (a b c d e f g h : ℕ) (aK : ltb (digit_of a) 16 ≡ true) (bK : ltb (digit_of b) 16 ≡ true) (cK : ltb (digit_of c) 16 ≡ true) (dK : ltb (digit_of d) 16 ≡ true) (eK : ltb (digit_of e) 16 ≡ true) (fK : ltb (digit_of f) 16 ≡ true) (gK : ltb (digit_of g) 16 ≡ true) (hK : ltb (digit_of h) 16 ≡ true) where
  digit_bytes : Bytes (a ∷ b ∷ c ∷ d ∷ e ∷ f ∷ g ∷ h ∷ [])
  digit_bytes = ((digit_bits a aK).0, ((digit_bits b bK).0, ((digit_bits c cK).0, ((digit_bits d dK).0, ((digit_bits e eK).0, ((digit_bits f fK).0, ((digit_bits g gK).0, ((digit_bits h hK).0, tt))))))))

  -- their values
  digit_values : values_of (word a b c d e f g h) ≡ word (digit_of a) (digit_of b) (digit_of c) (digit_of d) (digit_of e) (digit_of f) (digit_of g) (digit_of h)
  digit_values =
      values a b c d e f g h digit_bytes
      ∙ rw ((digit_bits a aK).1, (digit_bits b bK).1, (digit_bits c cK).1, (digit_bits d dK).1, (digit_bits e eK).1, (digit_bits f fK).1, (digit_bits g gK).1, (digit_bits h hK).1)

  -- the number that they say
  packed_eight : eight_of (quads_of (pairs_of (values_of (word a b c d e f g h)))) ≡ number_of (a ∷ b ∷ c ∷ d ∷ e ∷ f ∷ g ∷ h ∷ [])
  unfolding number_from
  packed_eight =
      let aL = ltb-true (digit_of a) 16 aK in
      let bL = ltb-true (digit_of b) 16 bK in
      let cL = ltb-true (digit_of c) 16 cK in
      let dL = ltb-true (digit_of d) 16 dK in
      let eL = ltb-true (digit_of e) 16 eK in
      let fL = ltb-true (digit_of f) 16 fK in
      let gL = ltb-true (digit_of g) 16 gK in
      let hL = ltb-true (digit_of h) 16 hK in
      rw (digit_values, pairs (digit_of a) (digit_of b) (digit_of c) (digit_of d) (digit_of e) (digit_of f) (digit_of g) (digit_of h) aL bL cL dL eL fL gL hL)
      (eights (digit_of a * 16 + digit_of b) (digit_of c * 16 + digit_of d) (digit_of e * 16 + digit_of f) (digit_of g * 16 + digit_of h) (omega arith) (omega arith) (omega arith) (omega arith) ∙ omega arith)

-- eight bytes that are all digits: the number that they say
pub packed_number : (bs : List ℕ) → length bs ≡ 8 → all_digits bs ≡ true
    → eight_of (quads_of (pairs_of (values_of (word_of bs)))) ≡ number_of bs
unfolding all_digits
packed_number [] l k = absurd (omega arith)
packed_number (a ∷ []) l k = absurd (omega arith)
packed_number (a ∷ b ∷ []) l k = absurd (omega arith)
packed_number (a ∷ b ∷ c ∷ []) l k = absurd (omega arith)
packed_number (a ∷ b ∷ c ∷ d ∷ []) l k = absurd (omega arith)
packed_number (a ∷ b ∷ c ∷ d ∷ e ∷ []) l k = absurd (omega arith)
packed_number (a ∷ b ∷ c ∷ d ∷ e ∷ f ∷ []) l k = absurd (omega arith)
packed_number (a ∷ b ∷ c ∷ d ∷ e ∷ f ∷ g ∷ []) l k = absurd (omega arith)
packed_number (a ∷ b ∷ c ∷ d ∷ e ∷ f ∷ g ∷ h ∷ i ∷ is) l k = absurd (omega arith)
packed_number (a ∷ b ∷ c ∷ d ∷ e ∷ f ∷ g ∷ h ∷ []) l k =
    let aK = both_true (ltb (digit_of a) 16) (all_digits (b ∷ c ∷ d ∷ e ∷ f ∷ g ∷ h ∷ [])) k in
    let bK = both_true (ltb (digit_of b) 16) (all_digits (c ∷ d ∷ e ∷ f ∷ g ∷ h ∷ [])) aK.1 in
    let cK = both_true (ltb (digit_of c) 16) (all_digits (d ∷ e ∷ f ∷ g ∷ h ∷ [])) bK.1 in
    let dK = both_true (ltb (digit_of d) 16) (all_digits (e ∷ f ∷ g ∷ h ∷ [])) cK.1 in
    let eK = both_true (ltb (digit_of e) 16) (all_digits (f ∷ g ∷ h ∷ [])) dK.1 in
    let fK = both_true (ltb (digit_of f) 16) (all_digits (g ∷ h ∷ [])) eK.1 in
    let gK = both_true (ltb (digit_of g) 16) (all_digits (h ∷ [])) fK.1 in
    let hK = both_true (ltb (digit_of h) 16) (all_digits ([])) gK.1 in
    packed_eight a b c d e f g h aK.0 bK.0 cK.0 dK.0 eK.0 fK.0 gK.0 hK.0
