-- Sixteen digits: each is that of its place. Assumes nothing.
use Rattle.std.proofs.Common.{◌≡◌, refl, ℕ, zero, suc, ◌<◌, Bool, true, ◌&&◌, List, ◌∷◌, [], slice_index_or}
use Rattle.std.proofs.Math.Dec.{eqb}
use Rattle.std.proofs.lemmas.Bool.Decides.{Decides-eqb, Decides-below_and}
use Rattle.page.specs.Digits.{digit_of}

abbrev all_digits : List ℕ
all_digits = 48 ∷ 49 ∷ 50 ∷ 51 ∷ 52 ∷ 53 ∷ 54 ∷ 55 ∷ 56 ∷ 57 ∷ 97 ∷ 98 ∷ 99 ∷ 100 ∷ 101 ∷ 102 ∷ []

abbrev same_before : ℕ → Bool
same_before zero = true
same_before (suc n) = eqb (slice_index_or all_digits n 0) (digit_of n) && same_before n

each_same : same_before 16 ≡ true
unfolding digit_of
each_same = refl

pub digit_at : (n : ℕ) → n < 16 → slice_index_or all_digits n 0 ≡ digit_of n
digit_at =
    (Decides-below_and (λ n. eqb (slice_index_or all_digits n 0) (digit_of n)) (λ n. slice_index_or all_digits n 0 ≡ digit_of n)
    same_before (λ n. Decides-eqb _ _) refl (λ n. refl) 16).0 each_same
