-- The numbers of a program text's refusals are 1 to 6. Assumes nothing.
use mathlib.Core.List.{List, [], ◌∷◌}
use mathlib.Core.Logic.{⊎_elim}
use Prim.Native.Nat.{ℕ, ◌+◌, ◌≤◌}
use native.Mathlib.Omega.{arith}
use lib.Dec.{eqb, ltb}
use lib.ListN.{length}
use borrow.Author.Tests.{eqb-false}
use Rattle.text.specs.Hex.{Line, lines_of, whole}
use Rattle.instruction.specs.Test.{passes}
use Rattle.instruction.proofs.Flags.{pick_cases}
use Rattle.program.specs.Program.{Program, no_program}
use Rattle.frame.specs.Frame.{digits_of, counts_of, may_stand, may_end, added}
use Rattle.marks.specs.Marks.{marks, first_mark}
use Rattle.marks.proofs.Clear.{mark_numbers}
use Rattle.reader.specs.Read.{Reading, refused, taken, line_kind, line_fields, read_lines, judged, valued, read_program}

-- of a reading
abbrev pub Numbered : Reading → Type 0
Numbered (refused number line) = (1 ≤ number) × (number ≤ 6)
Numbered (taken p) = Unit {0}

lines_numbered : (ls : List Line) (p : Program) (n : ℕ) → Numbered (read_lines ls p n)
unfolding read_lines
lines_numbered [] p n =
    pick_cases Numbered (passes (may_end (counts_of p))) (taken p) (refused 4 n) (λ _. tt) (λ _. (omega arith, omega arith))
lines_numbered (l ∷ ls) p n =
    pick_cases Numbered (whole l) _ (refused 2 n)
    (λ _.
    pick_cases Numbered (eqb (length l.bytes) (digits_of (line_kind l))) _ (refused 3 n)
    (λ _.
    pick_cases Numbered (passes (may_stand (counts_of p) (line_kind l))) _ (refused 4 n)
    (λ _. lines_numbered ls (added p (line_kind l) (line_fields l)) (n + 1)) (λ _. (omega arith, omega arith)))
    (λ _. (omega arith, omega arith)))
    (λ _. (omega arith, omega arith))

judged_numbered : (p : Program) → Numbered (judged p (first_mark (marks p) 1))
unfolding judged
judged_numbered p =
    let number = (first_mark (marks p) 1).number in
    pick_cases Numbered (eqb number 0) (taken p) (refused number (first_mark (marks p) 1).line) (λ _. tt)
    (λ t.
    ⊎_elim (λ z. absurd (eqb-false number 0 t z)) (λ (h : (5 ≤ number) × (number ≤ 6)). (omega (arith, h), h.1)) (mark_numbers p))

valued_numbered : (x : Reading) → Numbered x → Numbered (valued x)
unfolding valued
valued_numbered (refused number line) h = h
valued_numbered (taken p) h = judged_numbered p

pub numbered : (text : List ℕ) → Numbered (read_program text)
unfolding read_program
numbered text =
    pick_cases Numbered (ltb 65536 (length text)) (refused 1 0) _ (λ _. (omega arith, omega arith))
    (λ _. valued_numbered _ (lines_numbered (lines_of text) no_program 1))
