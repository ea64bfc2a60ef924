-- What the reader's inner functions promise one another: counters, places in the tables, a walk's outcome. Definitions only, and
-- none that a reader of the public promise has to believe.
use Rattle.std.specs.Prelude.{◌≡◌, true, List, ℕ, ◌≤◌, eqb, length, take, drop}
use Rattle.text.specs.Hex.{Line}
use Rattle.frame.specs.Places.{step, step_of, tables_with}
use Rattle.instruction.specs.Word.{pick}
use Rattle.program.specs.Tables.{Limited, tables_of}
use Rattle.frame.specs.declared.Counts.{Counts}
use Rattle.frame.specs.declared.Step.{Step}
use Rattle.marks.specs.declared.Stop.{Stop}
use Rattle.reader.specs.declared.Refusal.{Refusal}
use Rattle.reader.specs.declared.Refusal.TheVariants.{BadLine, BadFrame, OutOfOrder, BadValue, FallsThrough}
use Rattle.frame.specs.Frame.{digits_of}
use Rattle.reader.specs.Read.{Reading, refused, taken, line_kind, line_fields}

-- the line of so many digits at a place of a text
abbrev pub line_at : List ℕ → ℕ → ℕ → Line
line_at text at digits = record { bytes = take digits (drop at text); ended = true }

-- what a whole line brings: refusal 3 or 4, or one frame more
abbrev pub framed : Line → Counts → Step
framed l n = pick (eqb (length l.bytes) (digits_of (line_kind l))) (step_of n (line_kind l)) (step 3 n)

abbrev pub framed_tables : Line → Counts → List ℕ → List ℕ
framed_tables l n ws =
    pick (eqb (length l.bytes) (digits_of (line_kind l))) (tables_with n (line_kind l) (line_fields l) ws) ws

-- a walk that ended so, with the tables left so, read this: number 0 and the program's tables, or the refusal
abbrev pub Walked : Reading → Stop → List ℕ → Type 0
Walked (refused number line) s ws = (s.number ≡ number) × (s.line ≡ line) × (2 ≤ number) × (number ≤ 4)
Walked (taken p) s ws = (s.number ≡ 0) × (ws ≡ tables_of p) × Limited p

-- the refusal of a number, 2 to 6
abbrev pub refusal_of : ℕ → ℕ → Refusal
refusal_of number line =
    pick (eqb number 2) (BadLine line)
    (pick (eqb number 3) (BadFrame line)
    (pick (eqb number 4) (OutOfOrder line) (pick (eqb number 5) (BadValue line) (FallsThrough line))))
