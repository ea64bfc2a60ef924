-- The kind of a line, as it is read where it stands in a text, and the line after the frames due. Assumes nothing.
use mathlib.Core.Path.{◌≡◌}
use mathlib.Core.List.{List}
use Prim.Native.Nat.{ℕ, ◌≤◌}
use native.Mathlib.Nat.{add-zero}
use native.Mathlib.Omega.{arith}
use lib.ListN.{drop}
use Rattle.text.specs.declared.LineRead.TheVariants.{Whole, Broken, End}
use Rattle.text.specs.Hex.{lines_of, number_of, digits_at}
use Rattle.lines.specs.declared.Cursor.{Cursor}
use Rattle.lines.specs.declared.Found.{Found}
use Rattle.lines.specs.Cursors.{found_at}
use Rattle.lines.proofs.Cursors.{found_none, found_broken, found_whole}
use Rattle.instruction.specs.Word.{pick}
use Rattle.reader.specs.Inside.{line_at}
use Rattle.claim.specs.ReadClaim.{known}
use Rattle.claim.specs.Inside.{other_number, last_number}
use Rattle.claim.proofs.Digits.{line_digits}

-- a line that is not the frame due, by the kind that stands in the text
pub other_line : (s : List ℕ) (at d : ℕ) → 2 ≤ d
    → other_number (number_of (digits_at s at 2)) ≡ pick (known (line_at s at d)) 12 11
unfolding known
other_line s at d two = rw (line_digits s at d 0 2 (omega arith) (omega arith), add-zero at)

-- the line after the frames due
module _ (s : List ℕ) (c : Cursor) (f : Found) (found : f ≡ found_at s c) where
  pub last_end : f.read ≡ End → last_number (lines_of (drop c.at s)) ≡ 0
  last_end e = rw (found_none s c f found e)

  pub last_broken : f.read ≡ Broken → last_number (lines_of (drop c.at s)) ≡ 10
  last_broken e =
      let (l, ls, h, w) = found_broken s c f found e in
      rw (h, w)

  pub last_whole : (d : ℕ) → f.read ≡ Whole d
      → (2 ≤ d) × (last_number (lines_of (drop c.at s)) ≡ pick (known (line_at s c.at d)) 12 11)
  last_whole d e =
      let w = found_whole s c f found d e in
      (omega (arith, w.1, w.2), rw (w.3, w.4))
