-- A number's word is below 2 ^ 32, and a value's word reads back. Assumes nothing.
use mathlib.Core.Path.{◌≡◌, ap, ◌∙◌}
use Prim.Native.Nat.{ℕ, ◌<◌}
use native.Mathlib.Omega.{arith}
use lib.IntN.{ℤ, pos, negsuc}
use mir.Syntax.{w32}
use mir.Val.{SFits, to_z, of_z}
use mir.ValLaws.{to_z-of_z}
use borrow.Author.Tests.{lt-ltb, le-ltb}
use Rattle.arithmetic.specs.Arithmetic.{low}
use Rattle.machine.specs.declared.Value.TheVariants.{Number, Reference}
use Rattle.memory.specs.Memory.{value_word, value_in}

-- the lowest 32 bits of an integer, and of one that has no more
pub low_word : (z : ℤ) → low z < 4294967296
low_word (pos n) = omega arith
low_word (negsuc n) = omega arith

pub low_same : (z : ℤ) → SFits w32 z → low z ≡ of_z w32 z
low_same (pos n) f = omega (arith, f.sfits)
low_same (negsuc n) f = omega (arith, f.sfits)

pub number_reads : (z : ℤ) → SFits w32 z → value_in (value_word (Number z)) ≡ Number z
unfolding value_in
number_reads z f =
    rw (lt-ltb (low z) 4294967296 (low_word z)) (ap Number (ap (to_z w32) (low_same z f) ∙ to_z-of_z w32 z f))

pub reference_reads : (o : ℕ) → o < 4294967296 → value_in (value_word (Reference o)) ≡ Reference o
unfolding value_in
reference_reads o l = rw (le-ltb (value_word (Reference o)) 4294967296 (omega arith)) (ap Reference (omega arith))
