-- What a text says: a program, or a refusal with its number and line. Definitions only.
use Rattle.std.specs.Prelude.{Result, Ok, Err, ⊤, List, [], ◌∷◌, ℕ, ◌+◌, eqb, ltb, length, take, drop}
use Rattle.text.specs.Hex.{Line, lines_of, whole, number_of as hex_of}
use Rattle.instruction.specs.Word.{pick}
use Rattle.instruction.specs.Test.{passes}
use Rattle.program.specs.Program.{Program, no_program}
use Rattle.program.specs.Tables.{tables_of}
use Rattle.frame.specs.declared.Kind.{Kind}
use Rattle.reader.specs.declared.Refusal.{Refusal}
use Rattle.reader.specs.declared.Refusal.TheVariants.{TooLong, BadLine, BadFrame, OutOfOrder, BadValue, FallsThrough}
use Rattle.marks.specs.declared.Stop.{Stop}
use Rattle.frame.specs.Frame.{kind_of, digits_of, counts_of, may_stand, may_end, added}
use Rattle.marks.specs.Marks.{marks, first_mark}

pub data Reading : Type 0 where
  refused : (number line : ℕ) → Reading
  taken : Program → Reading

-- the kind of a line, and the fields after it as one number
unfoldable pub line_kind : Line → Kind
line_kind l = kind_of (hex_of (take 2 l.bytes))

unfoldable pub line_fields : Line → ℕ
line_fields l = hex_of (drop 2 l.bytes)

-- "By line, lowest number on a line": 2 a line that is not whole; "3 unknown kind or wrong length"; "4 frame out of order, or
-- a count outside its limits (at the first line that cannot stand there; one missing at the end: one line past the last)".
-- p is the program so far, and n the number of the next line
unfoldable pub read_lines : List Line → Program → ℕ → Reading
read_lines [] p n = pick (passes (may_end (counts_of p))) (taken p) (refused 4 n)
read_lines (l ∷ ls) p n =
    pick (whole l)
    (pick (eqb (length l.bytes) (digits_of (line_kind l)))
    (pick (passes (may_stand (counts_of p) (line_kind l)))
    (read_lines ls (added p (line_kind l) (line_fields l)) (n + 1))
    (refused 4 n))
    (refused 3 n))
    (refused 2 n)

-- "Then likewise: 5 .. 6": the first marked line
unfoldable pub judged : Program → Stop → Reading
judged p s = pick (eqb s.number 0) (taken p) (refused s.number s.line)

unfoldable pub valued : Reading → Reading
valued (refused number line) = refused number line
valued (taken p) = judged p (first_mark (marks p) 1)

-- "1 program over 65,536 bytes", at line 0; then by line
unfoldable pub read_program : List ℕ → Reading
read_program text =
    pick (ltb 65536 (length text)) (refused 1 0) (valued (read_lines (lines_of text) no_program 1))

-- the number of a reading, 0 where a program was taken, and its values: the line
abbrev pub reading_number : Reading → ℕ
reading_number (refused number line) = number
reading_number (taken p) = 0

abbrev pub reading_values : Reading → List ℕ
reading_values (refused number line) = line ∷ []
reading_values (taken p) = []

-- the tables after a reading: "touches no lent memory" where refused
abbrev pub tables_after : Reading → List ℕ → List ℕ
tables_after (refused number line) before = before
tables_after (taken p) before = tables_of p

-- document 01's number of each refusal, and its line
abbrev pub refusal_number : Refusal → ℕ
refusal_number TooLong = 1
refusal_number (BadLine line) = 2
refusal_number (BadFrame line) = 3
refusal_number (OutOfOrder line) = 4
refusal_number (BadValue line) = 5
refusal_number (FallsThrough line) = 6

abbrev pub refusal_line : Refusal → ℕ
refusal_line TooLong = 0
refusal_line (BadLine line) = line
refusal_line (BadFrame line) = line
refusal_line (OutOfOrder line) = line
refusal_line (BadValue line) = line
refusal_line (FallsThrough line) = line

-- the number of what became of a text, 0 where it is read, and its values
abbrev pub number_of : Result ⊤ Refusal → ℕ
number_of (Ok done) = 0
number_of (Err refusal) = refusal_number refusal

abbrev pub values_of : Result ⊤ Refusal → List ℕ
values_of (Ok done) = []
values_of (Err refusal) = refusal_line refusal ∷ []

-- the line of a refusal, 0 where there is none
abbrev pub line_of : Result ⊤ Refusal → ℕ
line_of (Ok done) = 0
line_of (Err refusal) = refusal_line refusal
