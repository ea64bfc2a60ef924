-- The walk by line: what a line brings to the program so far. Assumes nothing.
use mathlib.Core.Path.{◌≡◌, refl}
use mathlib.Core.Bool.{Bool, true, false}
use mathlib.Core.List.{List, [], ◌∷◌}
use Prim.Native.Nat.{ℕ, ◌+◌, ◌≤◌}
use native.Mathlib.Omega.{arith}
use lib.Dec.{eqb}
use lib.ListN.{length}
use Rattle.text.specs.Hex.{Line, whole}
use Rattle.instruction.specs.Word.{pick}
use Rattle.instruction.specs.Test.{passes, Holds}
use Rattle.instruction.proofs.Laws.{holds}
use Rattle.program.specs.Program.{Program}
use Rattle.program.specs.Tables.{Limited, tables_of}
use Rattle.frame.specs.declared.Counts.{Counts}
use Rattle.frame.specs.Frame.{digits_of, counts_of, may_stand, may_end, added}
use Rattle.reader.specs.Read.{Reading, refused, taken, line_kind, line_fields, read_lines}
use Rattle.frame.specs.Places.{step}
use Rattle.reader.specs.Inside.{framed, framed_tables}
use Rattle.frame.proofs.Added.{added_tables, added_counts, added_limited}

-- both tests passed
stood : (a b : Bool) (c d : Counts) → (pick a (pick b (step 0 c) (step 4 d)) (step 3 d)).number ≡ 0
    → (a ≡ true) × (b ≡ true)
stood true true c d e = (refl, refl)
stood true false c d e = absurd (omega arith)
stood false b c d e = absurd (omega arith)

-- one of them failed
fell : (a b : Bool) (c d : Counts) (r : Reading) (n : ℕ)
    → ((pick a (pick b (step 0 c) (step 4 d)) (step 3 d)).number ≡ 0 → ⊥)
    → (pick a (pick b r (refused 4 n)) (refused 3 n) ≡ refused (pick a (pick b (step 0 c) (step 4 d)) (step 3 d)).number n)
    × (2 ≤ (pick a (pick b (step 0 c) (step 4 d)) (step 3 d)).number)
    × ((pick a (pick b (step 0 c) (step 4 d)) (step 3 d)).number ≤ 4)
fell true true c d r n h = absurd (h refl)
fell true false c d r n h = (refl, omega arith, omega arith)
fell false b c d r n h = (refl, omega arith, omega arith)

-- the program after a line that stands
pub record Going (p : Program) (l : Line) (ls : List Line) (n : ℕ) : Type 0 where
  pub next : Program
  pub limited : Limited next
  pub counts : counts_of next ≡ (framed l (counts_of p)).counts
  pub tables : tables_of next ≡ framed_tables l (counts_of p) (tables_of p)
  pub reads : read_lines (l ∷ ls) p n ≡ read_lines ls next (n + 1)

module _ (p : Program) (l : Line) (ls : List Line) (n : ℕ) (good : whole l ≡ true) where
  pub going : Limited p → (framed l (counts_of p)).number ≡ 0 → Going p l ls n
  unfolding read_lines
  going lim e =
      let t = stood (eqb (length l.bytes) (digits_of (line_kind l))) (passes (may_stand (counts_of p) (line_kind l))) _ _ e in
      let h : Holds (may_stand (counts_of p) (line_kind l)) = holds (may_stand (counts_of p) (line_kind l)) t.1 in
      record {
        next = added p (line_kind l) (line_fields l);
        limited = added_limited p lim (line_fields l) (line_kind l) h;
        counts = rw (t.0, t.1) (added_counts p lim (line_fields l) (line_kind l) h);
        tables = rw (t.0, t.1) (added_tables p lim (line_fields l) (line_kind l) h);
        reads = rw (good, t.0, t.1);
      }

  pub falling : ((framed l (counts_of p)).number ≡ 0 → ⊥)
      → (read_lines (l ∷ ls) p n ≡ refused (framed l (counts_of p)).number n)
      × (2 ≤ (framed l (counts_of p)).number)
      × ((framed l (counts_of p)).number ≤ 4)
  unfolding read_lines
  falling h =
      rw good
      (fell (eqb (length l.bytes) (digits_of (line_kind l))) (passes (may_stand (counts_of p) (line_kind l))) _ _ _ n h)

pub broken : (p : Program) (l : Line) (ls : List Line) (n : ℕ) → whole l ≡ false → read_lines (l ∷ ls) p n ≡ refused 2 n
unfolding read_lines
broken p l ls n e = rw e

-- the end of the text
pub ended : (p : Program) (n : ℕ) → passes (may_end (counts_of p)) ≡ true → read_lines [] p n ≡ taken p
unfolding read_lines
ended p n e = rw e

pub missing : (p : Program) (n : ℕ) → passes (may_end (counts_of p)) ≡ false → read_lines [] p n ≡ refused 4 n
unfolding read_lines
missing p n e = rw e
