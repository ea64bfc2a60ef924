-- The word of bytes and the number of digits at a place, from those of two parts. Assumes nothing.
use mathlib.Core.Path.{◌≡◌, refl, ◌∙◌}
use mathlib.Core.List.{List, [], ◌∷◌, ◌++◌}
use Prim.Native.Nat.{ℕ, suc, ◌+◌, ◌*◌, ◌%◌, ◌^◌, ◌≤◌, ◌<◌}
use native.Mathlib.Numerals.{add-one}
use Rattle.std.specs.Int.{from_le_bytes, w32, w64}
use native.Mathlib.Nat.{pow-succ', mul_assoc, mul_comm, add-mul}
use native.Mathlib.Omega.{arith}
use lib.ListN.{length, take, drop, get_or, length-drop}
use lib.Seq.{drop-cons, drop-drop, length-take-le, take-add}
use Rattle.text.specs.Hex.{digit_of, number_from, number_of}
use Rattle.text.specs.Words.{word_of}

-- the bytes of a list after those of another
word_append : (xs ys : List ℕ) → word_of (xs ++ ys) ≡ word_of ys * 256 ^ length xs + word_of xs
unfolding word_of
word_append [] ys = omega arith
word_append (x ∷ xs) ys =
    let e : ℕ = 256 ^ length xs in
    rw (pow-succ', mul_comm 256 e, ← mul_assoc) (omega (arith, word_append xs ys))

-- digits after n: n stands before them
number_from_lem : (n : ℕ) (ds : List ℕ) → number_from n ds ≡ n * 16 ^ length ds + number_of ds
unfolding number_from
number_from_lem n [] = omega arith
number_from_lem n (d ∷ ds) =
    let e : ℕ = 16 ^ length ds in
    let v : ℕ = digit_of d % 16 in
    rw (pow-succ', ← mul_assoc)
    (omega (arith, number_from_lem (n * 16 + v) ds, number_from_lem (0 * 16 + v) ds, add-mul (n * 16) v e, add-mul (0 * 16) v e))

number_after : (n : ℕ) (xs ys : List ℕ) → number_from n (xs ++ ys) ≡ number_from (number_from n xs) ys
unfolding number_from
number_after n [] ys = refl
number_after n (x ∷ xs) ys = number_after (n * 16 + digit_of x % 16) xs ys

-- At a place of a text, n entries and n more.
module _ (s : List ℕ) (at n : ℕ) (room : at + (n + n) ≤ length s) where
  second : length (take n (drop (at + n) s)) ≡ n
  second = length-take-le n (drop (at + n) s) (simp length-drop (omega arith))

  first : length (take n (drop at s)) ≡ n
  first = length-take-le n (drop at s) (simp length-drop (omega arith))

  halves : take (n + n) (drop at s) ≡ take n (drop at s) ++ take n (drop (at + n) s)
  halves = rw (← drop-drop n at s) (take-add n n (drop at s))

  -- their word
  pub word_halves : word_of (take (n + n) (drop at s))
      ≡ word_of (take n (drop (at + n) s)) * 256 ^ n + word_of (take n (drop at s))
  word_halves =
      rw halves (rw first at (word_append (take n (drop at s)) (take n (drop (at + n) s))))

  -- their number
  pub number_halves : number_of (take (n + n) (drop at s))
      ≡ number_of (take n (drop at s)) * 16 ^ n + number_of (take n (drop (at + n) s))
  number_halves =
      rw halves
      (number_after 0 (take n (drop at s)) (take n (drop (at + n) s))
      ∙ rw second at (number_from_lem (number_of (take n (drop at s))) (take n (drop (at + n) s))))

-- the word of the bytes at a place: the first byte lowest, then the others
next_byte : (n : ℕ) (s : List ℕ) (i j : ℕ) → i + 1 ≡ j → i < length s
    → word_of (take (suc n) (drop i s)) ≡ word_of (take n (drop j s)) * 256 + get_or s i 0
unfolding word_of
next_byte n s i j e l = rw (drop-cons s i 0 l, ← e, add-one i) refl

no_byte : (s : List ℕ) → word_of (take 0 s) ≡ 0
unfolding word_of
no_byte s = refl

-- four bytes at a place, read as one number
pub four_bytes : (s : List ℕ) (at : ℕ) → at + 4 ≤ length s
    → from_le_bytes w32 (get_or s at 0 ∷ get_or s (at + 1) 0 ∷ get_or s (at + 2) 0 ∷ get_or s (at + 3) 0 ∷ [])
    ≡ word_of (take 4 (drop at s))
four_bytes s at l =
    omega (
      arith,
      next_byte 3 s at (at + 1) (omega arith) (omega arith),
      next_byte 2 s (at + 1) (at + 2) (omega arith) (omega arith),
      next_byte 1 s (at + 2) (at + 3) (omega arith) (omega arith),
      next_byte 0 s (at + 3) (at + 4) (omega arith) (omega arith),
      no_byte (drop (at + 4) s),
    )

-- eight
pub eight_bytes : (s : List ℕ) (at : ℕ) → at + 8 ≤ length s
    → from_le_bytes w64 (get_or s at 0 ∷ get_or s (at + 1) 0 ∷ get_or s (at + 2) 0 ∷ get_or s (at + 3) 0
    ∷ get_or s (at + 4) 0 ∷ get_or s (at + 5) 0 ∷ get_or s (at + 6) 0 ∷ get_or s (at + 7) 0 ∷ [])
    ≡ word_of (take 8 (drop at s))
eight_bytes s at l =
    omega (
      arith,
      next_byte 7 s at (at + 1) (omega arith) (omega arith),
      next_byte 6 s (at + 1) (at + 2) (omega arith) (omega arith),
      next_byte 5 s (at + 2) (at + 3) (omega arith) (omega arith),
      next_byte 4 s (at + 3) (at + 4) (omega arith) (omega arith),
      next_byte 3 s (at + 4) (at + 5) (omega arith) (omega arith),
      next_byte 2 s (at + 5) (at + 6) (omega arith) (omega arith),
      next_byte 1 s (at + 6) (at + 7) (omega arith) (omega arith),
      next_byte 0 s (at + 7) (at + 8) (omega arith) (omega arith),
      no_byte (drop (at + 8) s),
    )

-- the word of bytes after four digits `0`
pub word_after_zeros : (bs : List ℕ) → word_of (48 ∷ 48 ∷ 48 ∷ 48 ∷ bs) ≡ 808464432 + 4294967296 * word_of bs
unfolding word_of
word_after_zeros bs = omega arith
