-- Where a line begins, its number, and where the line after it begins. Definitions only.
use Rattle.std.specs.Prelude.{ℕ, ◌+◌, ◌%◌, ◌^◌, List, drop}
use Rattle.std.specs.Borrow.{Bor}
use Rattle.text.specs.Hex.{lines_of, line_read_of}
use Rattle.text.specs.declared.LineRead.{LineRead}
use Rattle.text.specs.declared.LineRead.TheVariants.{Whole, Broken, End}
use Rattle.lines.specs.declared.Cursor.{Cursor}
use Rattle.lines.specs.declared.Found.{Found}
use Rattle.lines.specs.declared.LineReader.{LineReader}

-- a number as a word of 64 bits holds it
abbrev pub wrapped : ℕ → ℕ
wrapped n = n % 2 ^ 64

abbrev pub cursor : ℕ → ℕ → Cursor
cursor at line = record { at = at; line = line }

-- after a whole line the next one begins past its digits and its end, with the number after its own; else there is none to go on to
abbrev pub past : Cursor → LineRead → Cursor
past c (Whole digits) = cursor (wrapped (c.at + digits + 1)) (wrapped (c.line + 1))
past c Broken = c
past c End = c

-- what stands at a cursor of a text, and the cursor after it
abbrev pub found_at : List ℕ → Cursor → Found
found_at text c =
    record {
      read = line_read_of (lines_of (drop c.at text));
      next = past c (line_read_of (lines_of (drop c.at text)));
    }

-- a reader is a text and a cursor
abbrev pub reader_at : Bor (List ℕ) → Cursor → LineReader
reader_at text c = record { text = text; at = c.at; line = c.line }

abbrev pub cursor_of : LineReader → Cursor
cursor_of r = cursor r.at r.line
