-- What comes of a call that writes a text, and what lent memory holds afterwards. Definitions only.
use Rattle.std.specs.Prelude.{List, ◌++◌, ℕ, ltb, length, drop}
use Rattle.instruction.specs.Word.{pick}
use Rattle.output.specs.declared.Output.{Output}
use Rattle.output.specs.declared.Output.TheVariants.{Written, Refused, Short}
use Rattle.output.specs.Numbers.{number_of, values_of}

pub data Writing : Type 0 where
  turned_down : (number line : ℕ) → Writing
  short : Writing
  written : (text : List ℕ) → Writing

-- "Memory shorter than the text is refused": so many bytes are lent
abbrev pub fitting : ℕ → List ℕ → Writing
fitting size text = pick (ltb size (length text)) short (written text)

-- the answer, its number and its values
abbrev pub answer_for : Writing → Output
answer_for (turned_down number line) = Refused number line
answer_for short = Short
answer_for (written text) = Written (length text)

abbrev pub writing_number : Writing → ℕ
writing_number x = number_of (answer_for x)

abbrev pub writing_values : Writing → List ℕ
writing_values x = values_of (answer_for x)

-- "to the front of lent memory and nothing past it"; refused memory is "left untouched"
abbrev pub memory_after : Writing → List ℕ → List ℕ
memory_after (turned_down number line) before = before
memory_after short before = before
memory_after (written text) before = text ++ drop (length text) before
