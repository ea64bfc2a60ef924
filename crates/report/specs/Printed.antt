-- What the tool prints of a verdict, by document 01, The tool. Definitions only.
use Rattle.std.specs.Prelude.{List, [], ◌∷◌, ◌++◌, ℕ, ◌+◌, ◌*◌, min, get_or}
use Rattle.page.specs.Digits.{two, eight}
use Rattle.program.specs.Lists.{joined}
use Rattle.verdict.specs.declared.Verdict.{Verdict}
use Rattle.verdict.specs.declared.Verdict.TheVariants.{Accepted, Violated, Refused, Short}

-- `00 00 01`: three numbers, two digits each, a space between, and the line end
abbrev pub three : ℕ → ℕ → ℕ → List ℕ
three a b c = two a ++ 32 ∷ two b ++ 32 ∷ two c ++ 10 ∷ []

-- "each call has its own line": call i, "a byte a number" in lent memory, three numbers a call; the first k calls
abbrev pub call_line : List ℕ → ℕ → List ℕ
call_line memory i = three (get_or memory (3 * i) 0) (get_or memory (3 * i + 1) 0) (get_or memory (3 * i + 2) 0)

unfoldable pub call_lines : List ℕ → ℕ → List ℕ
call_lines memory k = joined k (call_line memory)

-- `accepted` and its line end
abbrev pub accepted_word : List ℕ
accepted_word = 97 ∷ 99 ∷ 99 ∷ 101 ∷ 112 ∷ 116 ∷ 101 ∷ 100 ∷ 10 ∷ []

-- `violated` and a space
abbrev pub violated_word : List ℕ
violated_word = 118 ∷ 105 ∷ 111 ∷ 108 ∷ 97 ∷ 116 ∷ 101 ∷ 100 ∷ 32 ∷ []

-- `refused` and a space
abbrev pub refused_word : List ℕ
refused_word = 114 ∷ 101 ∷ 102 ∷ 117 ∷ 115 ∷ 101 ∷ 100 ∷ 32 ∷ []

-- "`refused` number (two digits) line (eight)"
abbrev pub refused_line : ℕ → ℕ → List ℕ
refused_line number line = refused_word ++ two number ++ 32 ∷ eight line ++ 10 ∷ []

-- "`accepted` and the call list, or `violated` rule method address, two digits each, or `refused` number (two digits) line
-- (eight)". No call list is longer than 16 methods of 32 addresses with 16 callees each. Too little memory is number 23
-- and has no line: its line prints as 0
abbrev pub printed : Verdict → List ℕ → List ℕ
printed (Accepted count) memory = accepted_word ++ call_lines memory (min count 8192)
printed (Violated rule method address) memory = violated_word ++ three rule method address
printed (Refused number line) memory = refused_line number line
printed Short memory = refused_line 23 0
