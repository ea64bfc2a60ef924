-- What the first mark says of every mark. Assumes nothing.
use mathlib.Core.Path.{◌≡◌, refl}
use mathlib.Core.Bool.{Bool, true, false}
use mathlib.Core.List.{List, [], ◌∷◌}
use Prim.Native.Nat.{ℕ, ◌+◌}
use lib.Dec.{eqb}
use borrow.Author.Tests.{eqb-true, eqb-false}
use Rattle.instruction.specs.Word.{pick}
use Rattle.program.specs.Lists.{Every}
use Rattle.marks.specs.Marks.{stop, first_mark}

abbrev pub Zero : ℕ → Type 0
Zero x = x ≡ 0

module _ (P : ℕ → Type 0) where
  -- what holds of 0 and of every mark holds of the first
  pub first_mark_lem : (xs : List ℕ) (line : ℕ) → P 0 → Every P xs → P (first_mark xs line).number
  unfolding first_mark
  first_mark_lem [] line o a = o
  first_mark_lem (x ∷ xs) line o a = go (eqb x 0) (first_mark_lem xs (line + 1) o a.1)
    where
      go : (t : Bool) → P (first_mark xs (line + 1)).number → P (pick t (first_mark xs (line + 1)) (stop x line)).number
      go true r = r
      go false r = a.0

-- no first mark: every mark is 0
pub no_mark : (xs : List ℕ) (line : ℕ) → (first_mark xs line).number ≡ 0 → Every Zero xs
unfolding first_mark
no_mark [] line e = tt
no_mark (x ∷ xs) line e = go (eqb x 0) refl e (λ r. no_mark xs (line + 1) r)
  where
    go : (t : Bool) → eqb x 0 ≡ t → (pick t (first_mark xs (line + 1)) (stop x line)).number ≡ 0 → ((first_mark xs (line + 1)).number ≡ 0 → Every Zero xs) → Every Zero (x ∷ xs)
    go true q r rest = (eqb-true x 0 q, rest r)
    go false q r rest = absurd (eqb-false x 0 q r)
