-- The numbers of a line, as they are read where they stand in a text. Assumes nothing.
use mathlib.Core.Path.{◌≡◌, refl, ap, ◌∙◌}
use mathlib.Core.List.{List, [], ◌∷◌}
use Prim.Native.Nat.{ℕ, zero, suc, ◌+◌, ◌≤◌, ◌<◌, min}
use native.Mathlib.Omega.{arith}
use lib.ListN.{length, take, drop, length-take, length-drop}
use lib.Seq.{take-take, drop-drop}
use Rattle.text.specs.Hex.{number_of, digits_at}
use Rattle.reader.specs.Inside.{line_at}
use Rattle.claim.specs.ReadClaim.{digits_from}

-- what stands inside the first d
take_within : (i n d : ℕ) (xs : List ℕ) → i + n ≤ d → take n (drop i (take d xs)) ≡ take n (drop i xs)
take_within zero n d xs l = take-take n d xs (omega arith)
take_within (suc i) n zero xs l = absurd (omega arith)
take_within (suc i) n (suc d) [] l = refl
take_within (suc i) n (suc d) (x ∷ xs) l = take_within i n d xs (omega arith)

module _ (s : List ℕ) (at d : ℕ) where
  pub line_digits : (i n : ℕ) → i + n ≤ d → n ≤ 16 → digits_from (line_at s at d) i n ≡ number_of (digits_at s (at + i) n)
  unfolding digits_from
  line_digits i n room few =
      let least : n ≡ min n 16 = omega arith in
      ap number_of
      (take_within i n d (drop at s) room
      ∙ ap (λ (l : List ℕ). take n l) (drop-drop i at s)
      ∙ ap (λ (k : ℕ). take k (drop (at + i) s)) least)

  pub line_length : at + d < length s → length (line_at s at d).bytes ≡ d
  line_length room = rw (length-take d (drop at s), length-drop at s) (omega arith)
