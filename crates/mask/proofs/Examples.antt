-- The definitions at single masks, by computation. Assumes nothing.
use mathlib.Core.Path.{◌≡◌, refl}
use mathlib.Core.Bool.{true, false}
use Prim.Native.Nat.{ℕ, ◌-◌, ◌^◌}
use Rattle.mask.specs.Mask.{has, is_empty, subset, has_number}

-- ---- bits
-- 4611686018427387904 is 2 ^ 62, zero's bit alone, and 9223372036854775808 is 2 ^ 63, that of other numbers alone
has_62 : has (record { bits = 4611686018427387904 }) 62 ≡ true
unfolding has
has_62 = refl

not_63 : has (record { bits = 4611686018427387904 }) 63 ≡ false
unfolding has
not_63 = refl

not_0 : has (record { bits = 4611686018427387904 }) 0 ≡ false
unfolding has
not_0 = refl

-- the last bit
has_63 : has (record { bits = 9223372036854775808 }) 63 ≡ true
unfolding has
has_63 = refl

-- 5 is bits 0 and 2
five_0 : has (record { bits = 5 }) 0 ≡ true
unfolding has
five_0 = refl

five_1 : has (record { bits = 5 }) 1 ≡ false
unfolding has
five_1 = refl

five_2 : has (record { bits = 5 }) 2 ≡ true
unfolding has
five_2 = refl

-- no mask has bit 64
not_64 : (b : ℕ) → has (record { bits = b }) 64 ≡ false
unfolding has
not_64 b = refl

-- ---- subsets
-- bits 0 and 2 are among bits 0, 1 and 2, and not the other way round
part : subset (record { bits = 5 }) (record { bits = 7 }) ≡ true
unfolding subset has
part = refl

not_part : subset (record { bits = 7 }) (record { bits = 5 }) ≡ false
unfolding subset has
not_part = refl

-- no bits and all bits
none_in_none : subset (record { bits = 0 }) (record { bits = 0 }) ≡ true
unfolding subset has
none_in_none = refl

all_in_all : subset (record { bits = 2 ^ 64 - 1 }) (record { bits = 2 ^ 64 - 1 }) ≡ true
unfolding subset has
all_in_all = refl

-- all bits but the last lack it
last_not_in : subset (record { bits = 2 ^ 64 - 1 }) (record { bits = 2 ^ 63 - 1 }) ≡ false
unfolding subset has
last_not_in = refl

-- ---- numbers
zero_number : has_number (record { bits = 4611686018427387904 }) ≡ true
unfolding has_number has
zero_number = refl

other_number_lem : has_number (record { bits = 9223372036854775808 }) ≡ true
unfolding has_number has
other_number_lem = refl

-- every bit but the two
no_number : has_number (record { bits = 2 ^ 62 - 1 }) ≡ false
unfolding has_number has
no_number = refl

-- ---- no bits
empty_0 : is_empty (record { bits = 0 }) ≡ true
unfolding is_empty has
empty_0 = refl

-- the last bit alone
not_empty_63 : is_empty (record { bits = 9223372036854775808 }) ≡ false
unfolding is_empty has
not_empty_63 = refl
