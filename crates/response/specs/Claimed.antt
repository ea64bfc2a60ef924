-- What the tool prints and tells for the texts of a panel and a claim. Definitions only.
use Rattle.std.specs.Prelude.{List, [], ◌∷◌, ◌++◌, cond as pick, ℕ, ◌+◌, ◌*◌, ◌/◌, leb, length, get_or}
use Rattle.text.specs.Hex.{digit_of}
use Rattle.program.specs.Lists.{tab}
use Rattle.machine.specs.History.{Made}
use Rattle.reader.specs.Read.{Reading, refused, taken, read_program}
use Rattle.checker.specs.Check.{Checking, turned_down, short, broken, kept, checking, answer_for}
use Rattle.report.specs.Printed.{three, accepted_word, violated_word, refused_line}
use Rattle.words.specs.Told.{told}

-- "each call has its own line"
abbrev pub lines_for : List Made → List ℕ
lines_for [] = []
lines_for (x ∷ xs) = three x.caller x.address x.callee ++ lines_for xs

-- the calls that such lines say: a line has nine bytes, its three numbers "two digits each"
unfoldable pub number_said : List ℕ → ℕ → ℕ
number_said lines at = digit_of (get_or lines at 0) * 16 + digit_of (get_or lines (at + 1) 0)

abbrev pub calls_said : List ℕ → List Made
calls_said lines =
    tab (length lines / 9)
    (λ i. record {
      caller = number_said lines (9 * i);
      address = number_said lines (9 * i + 3);
      callee = number_said lines (9 * i + 6);
    })

-- "`accepted` and the call list, or `violated` rule method address .. or `refused` number .. line"; 23 has no line: it prints as 0
abbrev pub said_of : Checking → List ℕ
said_of (turned_down number line) = refused_line number line
said_of short = refused_line 23 0
said_of (broken rule method address) = violated_word ++ three rule method address
said_of (kept calls) = accepted_word ++ lines_for calls

-- "a longer claim is 9", at line 0; "Program first, then claim"
abbrev pub longer : Reading → Checking
longer (refused number line) = turned_down number line
longer (taken p) = turned_down 9 0

-- what comes of the texts of the two files, "65,536 bytes each", where 24,576 bytes of memory are lent
unfoldable pub checking_of : List ℕ → List ℕ → Checking
checking_of panel claim = pick (leb (length claim) 65536) (checking panel claim 24576) (longer (read_program panel))

-- the bytes that are printed for them
unfoldable pub said : List ℕ → List ℕ → List ℕ
said panel claim = said_of (checking_of panel claim)

-- and what is told of them in the words of a table
unfoldable pub claim_told : List ℕ → List ℕ → List ℕ → List ℕ
claim_told table panel claim = told table (answer_for (checking_of panel claim))
