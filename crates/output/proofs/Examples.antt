-- A text of three bytes in memory of two, three, four and no bytes, by computation. Assumes nothing.
use mathlib.Core.Path.{◌≡◌, refl}
use mathlib.Core.List.{List, [], ◌∷◌}
use Prim.Native.Nat.{ℕ}
use Rattle.output.specs.declared.Output.TheVariants.{Written, Refused, Short}
use Rattle.output.specs.Written.{turned_down, short, written, fitting, answer_for, writing_number, writing_values, memory_after}

abbrev three : List ℕ
three = 97 ∷ 98 ∷ 10 ∷ []

-- "Memory shorter than the text is refused": one byte less; its exact length is taken, and more
one_less : fitting 2 three ≡ short
one_less = refl

none_lent : fitting 0 three ≡ short
none_lent = refl

exact : fitting 3 three ≡ written three
exact = refl

longer : fitting 4 three ≡ written three
longer = refl

-- "to the front of lent memory and nothing past it"
front : memory_after (fitting 5 three) (1 ∷ 2 ∷ 3 ∷ 4 ∷ 5 ∷ []) ≡ 97 ∷ 98 ∷ 10 ∷ 4 ∷ 5 ∷ []
front = refl

whole : memory_after (fitting 3 three) (1 ∷ 2 ∷ 3 ∷ []) ≡ three
whole = refl

-- "left untouched"
untouched : memory_after (fitting 2 three) (1 ∷ 2 ∷ []) ≡ 1 ∷ 2 ∷ []
untouched = refl

refused_untouched : memory_after (turned_down 5 2) (1 ∷ 2 ∷ 3 ∷ []) ≡ 1 ∷ 2 ∷ 3 ∷ []
refused_untouched = refl

-- what is answered, by number and values
answers : (answer_for (fitting 3 three) ≡ Written 3) × (answer_for (fitting 2 three) ≡ Short) × (answer_for (turned_down 5 2) ≡ Refused 5 2)
answers = (refl, refl, refl)

numbers : (writing_number (fitting 3 three) ≡ 36) × (writing_number (fitting 2 three) ≡ 23) × (writing_number (turned_down 5 2) ≡ 5)
numbers = (refl, refl, refl)

values : (writing_values (fitting 3 three) ≡ 3 ∷ []) × (writing_values (fitting 2 three) ≡ []) × (writing_values (turned_down 5 2) ≡ 2 ∷ [])
values = (refl, refl, refl)
