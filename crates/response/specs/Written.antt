-- What the tool prints and tells for the text of a panel whose claim it writes. Definitions only.
use Rattle.std.specs.Prelude.{List, [], ℕ}
use Rattle.output.specs.Written.{Writing, turned_down, short, written}
use Rattle.writer.specs.Claimed.{writing}
use Rattle.report.specs.Printed.{refused_line}
use Rattle.words.specs.Told.{refused_text}

-- the claim's text and nothing else, or "`refused` number .. line"; 23 has no line: it prints as 0
abbrev pub written_of : Writing → List ℕ
written_of (turned_down number line) = refused_line number line
written_of short = refused_line 23 0
written_of (written text) = text

-- the bytes that are printed for a panel, where so many go in
unfoldable pub claim_said : List ℕ → ℕ → List ℕ
claim_said panel size = written_of (writing panel size)

-- a refusal in the words of a table; nothing of a text that is written
abbrev pub written_told : List ℕ → Writing → List ℕ
written_told table (turned_down number line) = refused_text table number line
written_told table short = refused_text table 23 0
written_told table (written text) = []

unfoldable pub panel_told : List ℕ → List ℕ → ℕ → List ℕ
panel_told table panel size = written_told table (writing panel size)
