-- The number before and after another, as the code counts and as the definitions say. Assumes nothing.
use Rattle.std.proofs.Common.{◌≡◌, ℕ, ◌+◌, ◌-◌, ◌<◌, ◌%◌, ◌^◌, arith}
use borrow.Author.Tests.{lt-ltb}
use Rattle.text.proofs.Cases.{by_test}
use lib.Dec.{ltb}
use borrow.Author.Tests.{ltb-true, ltb-false}
use Rattle.shift.specs.Places.{preceding_of}
use Rattle.shift.specs.Shift.{up_of, following_of}

pub preceding_is : (n : ℕ) → 0 < n → preceding_of n ≡ n - 1
preceding_is n l = rw (lt-ltb 0 n l)

pub before_is : (n : ℕ) → n < 2 ^ 64 → (n + (2 ^ 64 - 1)) % 2 ^ 64 ≡ preceding_of n
before_is n l =
    by_test (ltb 0 n) (λ t. rw t (omega (arith, ltb-true 0 n t))) (λ t. rw t (omega (arith, ltb-false 0 n t)))

pub up_is : (n : ℕ) → n < 2 ^ 64 → (n + 1) % 2 ^ 64 ≡ up_of n
up_is n l =
    by_test (ltb n 18446744073709551615) (λ t. rw t (omega (arith, ltb-true n 18446744073709551615 t))) (λ t. rw t (omega (arith, ltb-false n 18446744073709551615 t)))

pub following_is : (n : ℕ) → n < 2 ^ 32 → (n + 1) % 2 ^ 32 ≡ following_of n
following_is n l =
    by_test (ltb n 4294967295) (λ t. rw t (omega (arith, ltb-true n 4294967295 t))) (λ t. rw t (omega (arith, ltb-false n 4294967295 t)))
