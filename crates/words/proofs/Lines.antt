-- The first line of a text ends before the first line end, or after k bytes. Assumes nothing.
use Rattle.std.proofs.Common.{◌≡◌, ◌∙◌, refl, sym, ap, ℕ, zero, suc, ◌+◌, ◌≤◌, min, List, [], ◌∷◌, length, take, Bool, true, false, cond, not, nat_eq, Some, None, arith}
use Rattle.std.proofs.lemmas.List.{take_min}
use borrow.Author.Tests.{ltb-false}
use lib.Seq.{take_all}
use Rattle.std.specs.List.{position, position_or_len}
use Rattle.words.specs.Words.{line_by}

-- a byte more: the line ends there, or goes on
one_more : (end : Bool) (n x : ℕ) (xs ys : List ℕ) → take n xs ≡ ys → take (cond (not end) (1 + n) 0) (x ∷ xs) ≡ cond end [] (x ∷ ys)
one_more true n x xs ys e = refl
one_more false n x xs ys e = let next : 1 + n ≡ suc n = omega arith in rw (next, e)

line_found : (k : ℕ) (xs : List ℕ) → take (position_or_len (λ b. nat_eq b 10) (take k xs)) (take k xs) ≡ line_by k xs
unfolding line_by
line_found zero xs = refl
line_found (suc k) [] = refl
line_found (suc k) (x ∷ xs) = one_more (nat_eq x 10) _ x (take k xs) (line_by k xs) (line_found k xs)

-- as many bytes as there are at most
first_bytes : (xs : List ℕ) (n k : ℕ) → n ≡ min (length xs) k → take n xs ≡ take k xs
first_bytes xs n k e = let same : n ≡ min k (length xs) = omega arith in ap (λ m. take m xs) same ∙ take_min k xs

-- what a test finds
found_at : (t : Bool) (m n : ℕ) → Some n ≡ cond t (Some m) None → n ≡ m
found_at true m n e = cc
found_at false m n e = cc

not_found : (t : Bool) (m : ℕ) → None ≡ cond t (Some m) None → t ≡ false
not_found true m e = cc
not_found false m e = refl

module _ (text line : List ℕ) (k n : ℕ) (is : line ≡ take n text) (most : n ≡ min (length text) k) where
  pub line_to : (end : ℕ) → Some end ≡ position (λ b. nat_eq b 10) line → take end line ≡ line_by k text
  line_to end found =
      let whole : line ≡ take k text = is ∙ first_bytes text n k most in
      ap (λ m. take m line) (found_at _ _ end found) ∙ rw whole (line_found k text)

  pub line_whole : None ≡ position (λ b. nat_eq b 10) line → line ≡ line_by k text
  line_whole none =
      let whole : line ≡ take k text = is ∙ first_bytes text n k most in
      let past : length line ≤ position_or_len (λ b. nat_eq b 10) line = ltb-false _ _ (not_found _ _ none) in
      sym (take_all _ line past) ∙ rw whole (line_found k text)
