-- Eight digits in one word: what the code that reads them at once computes. Definitions only.
use Rattle.std.specs.Prelude.{Bool, ◌&&◌, List, [], ◌∷◌, ℕ, ◌+◌, ◌*◌, ◌-◌, ◌/◌, ◌%◌, eqb, leb, length, take, drop, get_or}
use Rattle.std.specs.Int.Bits.{bit_and}
use Rattle.text.specs.Hex.{pick}

-- the word of bytes, the first byte lowest
unfoldable pub word_of : List ℕ → ℕ
word_of [] = 0
word_of (b ∷ bs) = word_of bs * 256 + b

-- the value of a byte as a digit: its low half, and 9 more for a letter, which has bit 6
abbrev pub value_of : ℕ → ℕ
value_of b = b % 16 + 9 * (b / 64 % 2)

-- of two bytes at a place, and 0 where fewer stand there
abbrev pub two_at : List ℕ → ℕ → ℕ
two_at s at = pick (leb 2 (length s - at)) (value_of (get_or s at 0) * 16 + value_of (get_or s (at + 1) 0)) 0

-- of each byte of a word
unfoldable pub values_of : ℕ → ℕ
values_of v = bit_and v 1085102592571150095 + 9 * (bit_and v 4629771061636907072 / 64)

-- each two values as one of two digits, in every second byte
unfoldable pub pairs_of : ℕ → ℕ
pairs_of v = bit_and v 4222189076152335 * 16 + bit_and v 1080880403494997760 / 256

-- each two of those as one of four digits, in every fourth byte
unfoldable pub quads_of : ℕ → ℕ
quads_of v = bit_and v 1095216660735 * 256 + bit_and v 71776119077928960 / 65536

-- the two of those as one of eight digits
unfoldable pub eight_of : ℕ → ℕ
eight_of v = v % 4294967296 * 65536 + v / 4294967296

-- the word of eight bytes at a place, and what they say, as digits
abbrev pub word_at : List ℕ → ℕ → ℕ
word_at s at = word_of (take 8 (drop at s))

abbrev pub packed_at : List ℕ → ℕ → ℕ
packed_at s at = eight_of (quads_of (pairs_of (values_of (word_at s at))))

-- what four say: as eight, after four digits `0`, byte 48
unfoldable pub four_of : List ℕ → ℕ → ℕ
four_of s at =
    eight_of (quads_of (pairs_of (values_of (word_of (48 ∷ 48 ∷ 48 ∷ 48 ∷ take 4 (drop at s)))))) % 65536

-- the same, and 0 where fewer stand there
abbrev pub four_at : List ℕ → ℕ → ℕ
four_at s at = pick (leb 4 (length s - at)) (four_of s at) 0

-- what sixteen say: the number of eight and of eight more
unfoldable pub sixteen_of : List ℕ → ℕ → ℕ
sixteen_of s at = packed_at s at % 4294967296 * 4294967296 + packed_at s (at + 8) % 4294967296

-- the same, and 0 where fewer stand there
abbrev pub sixteen_at : List ℕ → ℕ → ℕ
sixteen_at s at = pick (leb 16 (length s - at)) (sixteen_of s at) 0

-- the sixteen bytes at one place and at another are the same, word by word
abbrev pub same_words : List ℕ → ℕ → ℕ → Bool
same_words s a b = eqb (word_at s a) (word_at s b) && eqb (word_at s (a + 8)) (word_at s (b + 8))

-- the sixteen at a place stand there again after them
abbrev pub repeats_at : List ℕ → ℕ → Bool
repeats_at s at = leb 32 (length s - at) && same_words s at (at + 16)
