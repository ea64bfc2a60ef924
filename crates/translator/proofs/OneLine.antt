-- A text that is one line of units, by its first line and its length. Assumes nothing.
use mathlib.Core.Path.{◌≡◌, refl, sym, ◌∙◌}
use mathlib.Core.Bool.{true, false, ◌&&◌, and-true, and-false}
use mathlib.Core.List.{List, [], ◌∷◌}
use Prim.Native.Nat.{ℕ, ◌+◌, ◌*◌, ◌-◌, ◌/◌, ◌%◌, ◌<◌}
use native.Mathlib.Nat.{not-suc-le-zero}
use native.Mathlib.Omega.{arith}
use lib.Dec.{eqb}
use lib.ListN.{length, take, drop, length-take, length-drop}
use borrow.Author.Tests.{eqb-true, eqb-false}
use Rattle.text.specs.declared.LineRead.{LineRead}
use Rattle.text.specs.declared.LineRead.TheVariants.{Whole, Broken, End}
use Rattle.text.specs.Hex.{Line, onto, lines_of, whole, line_read_of}
use Rattle.text.proofs.Cases.{by_test, never, both_true}
use Rattle.text.proofs.Lines.{next_line, broken_line, no_line, whole_digits}
use Rattle.instruction.proofs.Flags.{pick_cases}
use Rattle.units.specs.Units.{one_line}
use Rattle.translator.specs.Inside.{Digits}

onto_more : (l : Line) (b : ℕ) (ls : List Line) → one_line (l ∷ onto b ls) ≡ false
onto_more l b [] = refl
onto_more l b (m ∷ ls) = refl

-- a byte after a line is a second line
more : (l : Line) (xs : List ℕ) → 0 < length xs → one_line (l ∷ lines_of xs) ≡ false
unfolding lines_of
more l [] h = absurd (not-suc-le-zero h)
more l (b ∷ bs) h =
    pick_cases (λ (ls : List Line). one_line (l ∷ ls) ≡ false) (eqb b 10) (record { bytes = []; ended = true } ∷ lines_of bs)
    (onto b (lines_of bs))
    (λ _. refl) (λ _. onto_more l b (lines_of bs))

none_left : (xs : List ℕ) → length xs ≡ 0 → lines_of xs ≡ []
unfolding lines_of
none_left [] e = refl
none_left (x ∷ xs) e = absurd (omega arith)

module _ (s : List ℕ) where
  pub not_whole : line_read_of (lines_of (drop 0 s)) ≡ Broken → false ≡ one_line (lines_of s)
  not_whole e = let (l, ls, q, w) = broken_line s 0 e in rw q (go l ls w)
    where
      go : (l : Line) (ls : List Line) → whole l ≡ false → false ≡ one_line (l ∷ ls)
      go l [] w = rw w
      go l (m ∷ ls) w = refl

  pub not_any : line_read_of (lines_of (drop 0 s)) ≡ End → false ≡ one_line (lines_of s)
  not_any e = rw (no_line s 0 e)

  module _ (n : ℕ) (e : line_read_of (lines_of (drop 0 s)) ≡ Whole n) where
    pub some_bytes : n < length s
    some_bytes = let h = (next_line s 0 n e).0 in omega arith

    line : Line
    line = record { bytes = take n s; ended = true }

    pub one_line_lem : one_line (lines_of s) ≡ eqb (n % 4) 0 && eqb (length s - 1) n
    unfolding line
    one_line_lem =
        let h = next_line s 0 n e in
        let l : n < length s = some_bytes in
        let size : length (take n s) ≡ n = simp length-take (omega arith) in
        let left : length (drop (0 + n + 1) s) ≡ length s - (0 + n + 1) = simp length-drop in
        rw h.3
        (by_test (eqb (length s - 1) n)
        (λ t.
        let same : length s - 1 ≡ n = eqb-true (length s - 1) n t in
        rw (none_left (drop (0 + n + 1) s) (left ∙ omega arith), h.4, t, size) (sym (and-true (eqb (n % 4) 0))))
        (λ t.
        let other : length s - 1 ≡ n → ⊥ = eqb-false (length s - 1) n t in
        rw (more line (drop (0 + n + 1) s) (rw left (omega arith)), t) (sym (and-false (eqb (n % 4) 0)))))

-- the bytes of its units are digits
pub line_digits : (s : List ℕ) → one_line (lines_of s) ≡ true → Digits s
line_digits s e = go (line_read_of (lines_of (drop 0 s))) refl
  where
    go : (r : LineRead) → line_read_of (lines_of (drop 0 s)) ≡ r → Digits s
    go (Whole n) q =
        let h = next_line s 0 n q in
        let both = both_true (eqb (n % 4) 0) (eqb (length s - 1) n) (sym (one_line_lem s n q) ∙ e) in
        let four : n % 4 ≡ 0 = eqb-true (n % 4) 0 both.0 in
        let size : length s - 1 ≡ n = eqb-true (length s - 1) n both.1 in
        let all : 4 * (length s / 4) ≡ n = omega (arith, h.0) in
        rw all (whole_digits (take n s) h.4)
    go Broken q = never (cc (not_whole s q, e))
    go End q = never (cc (not_any s q, e))
