-- The first register of a call. Assumes nothing.
use mathlib.Core.Path.{◌≡◌, refl}
use mathlib.Core.Bool.{true}
use Prim.Native.Nat.{ℕ, zero, suc, ◌+◌, ◌%◌, ◌<◌}
use native.Mathlib.Omega.{arith}
use lib.Dec.{ltb}
use lib.ListN.{take, get_or}
use borrow.Author.Tests.{lt-ltb}
use Rattle.program.specs.Lists.{tab}
use Rattle.units.specs.Formats.{field_a_a, fieldB, five_of, listed, ranged}
use Rattle.units.specs.Frames.{first_of}

pub listed_none : (u w : ℕ) → fieldB u ≡ 0 → 0 ≡ first_of (listed u w)
listed_none u w e = rw e

listed_from : (u w n : ℕ) → (n ≡ 0 → ⊥) → w % 16 ≡ get_or (take n (five_of u w)) 0 0
listed_from u w zero h = absurd (h refl)
listed_from u w (suc n) h = refl

pub listed_some : (u w : ℕ) → (fieldB u ≡ 0 → ⊥) → w % 16 ≡ first_of (listed u w)
listed_some u w h = listed_from u w (fieldB u) h

pub ranged_none : (u w : ℕ) → field_a_a u ≡ 0 → 0 ≡ first_of (ranged u w)
ranged_none u w e = rw e

ranged_from : (w n : ℕ) → (n ≡ 0 → ⊥) → (ltb 0 n ≡ true → w < 256) → w % 256 ≡ get_or (tab n (λ j. w + j)) 0 0
ranged_from w zero h k = absurd (h refl)
ranged_from w (suc n) h k = let l = k (lt-ltb 0 (suc n) (omega arith)) in omega arith

pub ranged_some : (u w : ℕ) → (field_a_a u ≡ 0 → ⊥) → (ltb 0 (field_a_a u) ≡ true → w < 256) → w % 256 ≡ first_of (ranged u w)
ranged_some u w h k = ranged_from w (field_a_a u) h k
