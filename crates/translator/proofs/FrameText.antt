-- Frames as text, one after another. Assumes nothing.
use mathlib.Core.Path.{◌≡◌, refl, sym, ap, ◌∙◌}
use mathlib.Core.List.{List, [], ◌∷◌, ◌++◌, append-nil, append_assoc}
use Prim.Native.Nat.{ℕ, ◌+◌, ◌*◌, ◌≤◌, ◌<◌}
use native.Mathlib.Numerals.{add-one}
use native.Mathlib.Omega.{arith}
use lib.ListN.{length, get_or, take, length-append}
use lib.Seq.{take-suc, length-take-le}
use Rattle.page.specs.declared.Page.{Page}
use Rattle.page.specs.OnPage.{PutOn}
use Rattle.page.proofs.Puts.{take_more}
use Rattle.page.proofs.OnPages.{◌⨾◌, on_as}
use Rattle.units.specs.Translate.{frame_line, frame_lines}

lines_more : (xs : List ℕ) (w : ℕ) → frame_lines (xs ++ w ∷ []) ≡ frame_lines xs ++ frame_line w
lines_more [] w = append-nil (frame_line w)
lines_more (x ∷ xs) w =
    ap (λ (s : List ℕ). frame_line x ++ s) (lines_more xs w) ∙ sym (append_assoc (frame_line x) (frame_lines xs) (frame_line w))

pub lines_length : (xs : List ℕ) → length (frame_lines xs) ≡ 19 * length xs
lines_length [] = refl
lines_length (x ∷ xs) = simp length-append (rw (lines_length xs) (omega arith))

-- the lines of the first n words
pub first_length : (ws : List ℕ) (n : ℕ) → n ≤ length ws → length (frame_lines (take n ws)) ≡ 19 * n
first_length ws n l = lines_length (take n ws) ∙ ap (λ (k : ℕ). 19 * k) (length-take-le n ws l)

pub put_next_line : (ws : List ℕ) (i : ℕ) {x y z : Page} → i < length ws → PutOn x (frame_lines (take i ws)) y
    → PutOn y (frame_line (get_or ws i 0)) z → PutOn x (frame_lines (take (i + 1) ws)) z
put_next_line ws i l p q =
    on_as (p ⨾ q) (sym (lines_more (take i ws) (get_or ws i 0)) ∙ ap frame_lines (take_more ws i l))
