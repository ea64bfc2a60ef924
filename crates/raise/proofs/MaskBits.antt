-- The bits of masks that are made of others. Assumes nothing.
use mathlib.Core.Path.{◌≡◌, ◌∙◌}
use mathlib.Core.Bool.{◌&&◌}
use Prim.Native.Nat.{ℕ, ◌<◌}
use lib.Dec.{eqb, ltb}
use borrow.Author.Tests.{eqb-true, lt-ltb}
use Rattle.text.proofs.Cases.{by_test}
use Rattle.mask.specs.declared.Mask.{Mask}
use Rattle.mask.specs.Mask.{has}

pub below_64 : (b k : ℕ) → b < 64 → eqb k b && ltb k 64 ≡ eqb k b
below_64 b k l = by_test (eqb k b) (λ e. rw (e, eqb-true k b e, lt-ltb b 64 l)) (λ e. rw e)

-- the mask of one bit
pub one_bit : (r : Mask) (b : ℕ) → b < 64 → ((k : ℕ) → has r k ≡ eqb k b && ltb k 64) → (k : ℕ) → has r k ≡ eqb k b
one_bit r b l f k = f k ∙ below_64 b k l
