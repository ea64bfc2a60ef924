-- What a lent value says, by what its first field is. Assumes nothing.
use mathlib.Core.Path.{◌≡◌, refl}
use Prim.Native.Nat.{ℕ, zero, suc, ◌+◌, ◌-◌, ◌<◌, ◌%◌, ◌^◌}
use native.Mathlib.Omega.{arith}
use lib.IntN.{ℤ, pos}
use borrow.Author.Tests.{lt-ltb}
use Rattle.text.proofs.Cases.{never}
use Rattle.machine.specs.declared.Value as machine
use Rattle.machine.specs.declared.Value.TheVariants.{Number, Reference}
use Rattle.cells.specs.Cells.{cell_of, value_of, value_by}
use Rattle.cells.specs.Reads.{reference_of, cell_in, place_by}

-- one less than a value's first field, where the last number of a word comes before 0
pub place_is : (o : ℕ) → o < 2 ^ 32 → (o + (2 ^ 64 - 1)) % 2 ^ 64 ≡ place_by o
place_is zero l = refl
place_is (suc o) l = omega arith

-- a value that is lent is read back
pub reads : (v : machine.Value) → value_of (cell_of v) ≡ v
reads (Number z) = refl
reads (Reference o) = refl

pub number_by : (o : ℕ) (z : ℤ) → o ≡ 0 → value_by o z ≡ Number z
number_by zero z e = refl
number_by (suc o) z e = never (omega arith)

pub reference_by : (o : ℕ) (z : ℤ) → (o ≡ 0 → ⊥) → value_by o z ≡ Reference (o - 1)
reference_by zero z d = absurd (d refl)
reference_by (suc o) z d = let same : suc o - 1 ≡ o = omega arith in rw (same) refl

-- a value that is read is lent again: a number as it was, an object without a number
pub number_normal : (o : ℕ) (z : ℤ) → o ≡ 0 → record { object = o; number = z } ≡ cell_in (value_by o z)
number_normal zero z e = refl
number_normal (suc o) z e = never (omega arith)

pub object_normal : (o : ℕ) (z : ℤ) → (o ≡ 0 → ⊥) → o < 4294967296 → record { object = o; number = pos 0 } ≡ cell_in (value_by o z)
object_normal zero z d l = absurd (d refl)
object_normal (suc o) z d l = rw (lt-ltb o 4294967295 (omega arith)) refl

pub number_place : (o : ℕ) → o ≡ 0 → place_by o ≡ 18446744073709551615
number_place zero e = refl
number_place (suc o) e = never (omega arith)

pub object_place_lem : (o : ℕ) → (o ≡ 0 → ⊥) → place_by o ≡ o - 1
object_place_lem zero d = absurd (d refl)
object_place_lem (suc o) d = let same : suc o - 1 ≡ o = omega arith in rw (same) refl

-- an object whose number 32 bits hold
pub reference_is : (o : ℕ) → o < 4294967295 → reference_of o ≡ cell_of (Reference o)
reference_is o l = rw (lt-ltb o 4294967295 l) refl
