-- Cursors: where what was read at one leaves it. Assumes nothing.
use Rattle.std.proofs.Common.{◌≡◌, ℕ, ◌+◌, ◌%◌, ◌^◌, ◌<◌, ◌≤◌, true, false, List, [], ◌∷◌, length, take, drop, sym, ap, ◌∙◌, arith}
use Rattle.text.specs.declared.LineRead.{LineRead}
use Rattle.text.specs.declared.LineRead.TheVariants.{Whole, Broken, End}
use Rattle.text.specs.Hex.{Line, lines_of, whole, line_read_of}
use Rattle.text.proofs.Lines.{next_line, broken_line, no_line}
use Rattle.lines.specs.declared.Cursor.{Cursor}
use Rattle.lines.specs.declared.Found.{Found}
use Rattle.lines.specs.Cursors.{wrapped, cursor, past, found_at}

-- a number that a word holds stays
wrapped_small : (n : ℕ) → n < 2 ^ 64 → wrapped n ≡ n
wrapped_small n h = omega arith

-- a whole line of n digits stands at a place of a text: its digits and its end, and the lines after it are those of what follows its end
abbrev pub Standing : List ℕ → ℕ → ℕ → Type 0
Standing s at n =
    (at + n < length s)
    × (0 < n)
    × (n % 2 ≡ 0)
    × (lines_of (drop at s) ≡ record { bytes = take n (drop at s); ended = true } ∷ lines_of (drop (at + n + 1) s))
    × (whole (record { bytes = take n (drop at s); ended = true }) ≡ true)

-- What a reader of lines may take from what was found at a cursor.
module _ (s : List ℕ) (c : Cursor) (f : Found) (g : f ≡ found_at s c) where
  found_read : (r : LineRead) → f.read ≡ r → line_read_of (lines_of (drop c.at s)) ≡ r
  found_read r e = ap (λ (x : Found). x.read) (sym g) ∙ e

  -- no line: there is none
  pub found_none : f.read ≡ End → lines_of (drop c.at s) ≡ []
  found_none e = no_line s c.at (found_read End e)

  -- a broken line: there is a line, and it is not whole
  pub found_broken : f.read ≡ Broken
      → (l : Line) × (ls : List Line) × (lines_of (drop c.at s) ≡ l ∷ ls) × (whole l ≡ false)
  found_broken e = broken_line s c.at (found_read Broken e)

  module _ (n : ℕ) (e : f.read ≡ Whole n) where
    -- a whole line: it stands there
    pub found_whole : Standing s c.at n
    found_whole = next_line s c.at n (found_read (Whole n) e)

    -- and the cursor goes past its digits and its end, and one line on
    pub found_next : length s < 2 ^ 64 → c.line ≤ c.at + 1 → f.next ≡ cursor (c.at + n + 1) (c.line + 1)
    found_next short few =
        rw (
          g,
          found_read (Whole n) e,
          wrapped_small (c.at + n + 1) (omega (arith, found_whole.0)),
          wrapped_small (c.line + 1) (omega (arith, found_whole.0, found_whole.1)),
        )
