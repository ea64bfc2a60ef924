-- The lines of calls have nine bytes each. Assumes nothing.
use mathlib.Core.Path.{◌≡◌, refl}
use mathlib.Core.List.{List, ◌++◌}
use Prim.Native.Nat.{ℕ, zero, suc, ◌+◌, ◌*◌}
use native.Mathlib.Omega.{arith}
use lib.ListN.{length, length-append}
use Rattle.program.specs.Lists.{joined}
use Rattle.report.specs.Printed.{call_line, call_lines, accepted_word}

-- k texts of nine bytes
joined_nine : (k : ℕ) (f : ℕ → List ℕ) → ((i : ℕ) → length (f i) ≡ 9) → length (joined k f) ≡ 9 * k
joined_nine zero f h = refl
joined_nine (suc k) f h =
    omega (arith, length-append (f zero) (joined k (λ i. f (suc i))), h zero, joined_nine k (λ i. f (suc i)) (λ i. h (suc i)))

pub accepted_length : (memory : List ℕ) (k : ℕ) → length (accepted_word ++ call_lines memory k) ≡ 9 + 9 * k
unfolding call_lines
accepted_length memory k = omega (arith, joined_nine k (call_line memory) (λ i. refl))
