-- The number of each answer of a call that writes a text, and its values. Definitions only.
use Rattle.std.specs.Prelude.{List, [], ◌∷◌, ℕ}
use Rattle.output.specs.declared.Output.{Output}
use Rattle.output.specs.declared.Output.TheVariants.{Written, Refused, Short}

-- a refusal has its own; document 02 gives none to a text that is written, so that it is left free
abbrev pub number_of : Output → ℕ
number_of (Written count) = 36
number_of (Refused number line) = number
number_of Short = 23

-- the text's length; "number and line"; 23 has no line
abbrev pub values_of : Output → List ℕ
values_of (Written count) = count ∷ []
values_of (Refused number line) = line ∷ []
values_of Short = []
