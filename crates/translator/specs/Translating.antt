-- What comes of a call that writes the frames of a text of units. Definitions only.
use Rattle.std.specs.Prelude.{List, ℕ}
use Rattle.units.specs.Translate.{Translation, refused, translated, translation, frames_text}
use Rattle.output.specs.Written.{Writing, turned_down, fitting}

-- "last 23, memory shorter than the frames"
abbrev pub with_translation : ℕ → Translation → Writing
with_translation size (refused number line) = turned_down number line
with_translation size (translated is) = fitting size (frames_text is)

-- what comes of a text, where so many bytes of memory are lent
unfoldable pub translating : List ℕ → ℕ → Writing
translating text size = with_translation size (translation text)
