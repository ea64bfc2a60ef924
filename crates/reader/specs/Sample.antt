-- Document 01's sample program as its text, and texts as bytes. Definitions only.
use Rattle.std.specs.Prelude.{List, [] as nil, ◌∷◌ as cons, ℕ}
use Prim.Native.Char.{code}
use Prim.Native.String.{String, [], ◌∷◌}

-- the bytes of a quoted text of plain characters
abbrev pub bytes_of : String → List ℕ
bytes_of [] = nil
bytes_of (c ∷ s) = cons (code c) (bytes_of s)

-- document 01's sample
abbrev pub sample : String
sample = "01ff\n0100\n0101\n0101\n0101\n040000010100\n060d01000000000000\n061100000000000000\n040001010100\n061100000000000000\n"
