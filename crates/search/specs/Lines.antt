-- Handlers by their lines, from 0 in the order of the text, as document 01 speaks of them: no number is in it. The search by number
-- comes to the same, which proofs/FirstLine says. Definitions only.
use Rattle.std.specs.Prelude.{Bool, ◌&&◌, ℕ, ◌/◌, ◌%◌, ltb, leb, get_or, Option, option_map}
use Rattle.program.specs.Lists.{first}
use Rattle.program.specs.Program.{Program, method_at, handler_count, handler_target}
use Rattle.search.specs.Search.{below}

-- the fields f t g c of line i of method m's handlers
abbrev pub line_at : Program → ℕ → ℕ → ℕ
line_at p m i = get_or (method_at p m).handlers i 0

-- "covers f ≤ address < t .. catches c and below"
unfoldable pub line_fits : Program → ℕ → ℕ → ℕ → ℕ → Bool
line_fits p m pc c i =
    leb (line_at p m i / 16777216 % 256) pc && (ltb pc (line_at p m i / 65536 % 256) && below p c (line_at p m i % 256))

-- "goes to g"
abbrev pub line_target : Program → ℕ → ℕ → ℕ
line_target p m i = line_at p m i / 256 % 256

-- "The first that fits is taken"
abbrev pub first_line : Program → ℕ → ℕ → ℕ → Option ℕ
first_line p m pc c = first (handler_count p m) (line_fits p m pc c)

-- the address that a handler goes to, where there is one
abbrev pub target_of : Program → ℕ → Option ℕ → Option ℕ
target_of p m = option_map (handler_target p m)
