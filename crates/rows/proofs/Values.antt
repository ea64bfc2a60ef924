-- What is printed of a word that holds a value: a number's digits, or an object's, as of the value itself. Assumes nothing.
use mathlib.Core.Path.{◌≡◌, ap, ◌∙◌}
use mathlib.Core.List.{List, ◌∷◌}
use Prim.Native.Nat.{ℕ, ◌+◌, ◌/◌, ◌%◌, ◌≤◌, ◌<◌}
use native.Mathlib.Omega.{arith}
use borrow.Author.Tests.{lt-ltb, le-ltb}
use Rattle.page.specs.Digits.{two, eight}
use Rattle.arithmetic.specs.Arithmetic.{low}
use Rattle.machine.specs.declared.Value.{Value}
use Rattle.machine.specs.declared.Value.TheVariants.{Number, Reference}
use Rattle.memory.specs.Memory.{value_word}
use Rattle.memory.proofs.Values.{low_word}
use Rattle.rows.specs.State.{value_text}
use Rattle.rows.specs.Rows.{word_text}

pub number_word : (w : ℕ) → w < 4294967296 → word_text w ≡ eight w
unfolding word_text
number_word w l = rw (lt-ltb w 4294967296 l)

pub object_word_lem : (w : ℕ) → 4294967296 ≤ w → word_text w ≡ 64 ∷ two w
unfolding word_text
object_word_lem w l = rw (le-ltb w 4294967296 l)

-- the digits of an object's word are those of its number
object_digits : (o : ℕ) → two (4294967296 + o) ≡ two o
object_digits o =
    let high : (4294967296 + o) / 16 % 16 ≡ o / 16 % 16 = omega arith in
    let low : (4294967296 + o) % 16 ≡ o % 16 = omega arith in
    rw (high, low)

pub value_word_lem : (v : Value) → word_text (value_word v) ≡ value_text v
value_word_lem (Number z) = number_word (low z) (low_word z)
value_word_lem (Reference o) = object_word_lem (4294967296 + o) (omega arith) ∙ ap (λ (l : List ℕ). 64 ∷ l) (object_digits o)
