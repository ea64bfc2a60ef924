-- Masks: which bits a mask has, and when one mask is a subset of another. Definitions only.
use Rattle.std.specs.Prelude.{Bool, true, not, ◌&&◌, ◌||◌, ℕ, zero, suc, ◌+◌, ◌*◌, ◌/◌, ◌%◌, ◌^◌, eqb, ltb}
use Rattle.instruction.specs.Word.{pick}
use Rattle.mask.specs.declared.Mask.{Mask}

-- "62 for number zero, 63 for other numbers"
abbrev pub zero_bit : ℕ
zero_bit = 62

abbrev pub other_bit : ℕ
other_bit = 63

-- "A mask is 64 bits": bit k is 1
unfoldable pub has : Mask → ℕ → Bool
has m k = ltb k 64 && eqb (m.bits / 2 ^ k % 2) 1

-- the test passes at 0, 1, .., n - 1
abbrev pub every : ℕ → (ℕ → Bool) → Bool
every zero test = true
every (suc n) test = test zero && every n (λ k. test (suc k))

-- no bit is in the mask
unfoldable pub is_empty : Mask → Bool
is_empty m = every 64 (λ k. not (has m k))

-- every bit of one mask is in the other
unfoldable pub subset : Mask → Mask → Bool
subset m other = every 64 (λ k. not (has m k) || has other k)

-- the mask has zero's bit or that of other numbers
unfoldable pub has_number : Mask → Bool
has_number m = has m zero_bit || has m other_bit

-- the number whose bits below n are those that pass the test
abbrev pub bits_where : ℕ → (ℕ → Bool) → ℕ
bits_where zero test = 0
bits_where (suc n) test = pick (test zero) 1 0 + 2 * bits_where n (λ k. test (suc k))
