-- The two readings of a test agree: it passes exactly if what it says holds. Assumes nothing.
use mathlib.Core.Path.{◌≡◌, refl}
use mathlib.Core.Bool.{true, false}
use Prim.Native.Nat.{ℕ}
use native.Mathlib.Omega.{arith}
use borrow.Author.Tests.{ltb-true, leb-true, eqb-true, not-true, lt-ltb, le-leb, eq-eqb}
use Rattle.instruction.proofs.Flags.{both_true}
use Rattle.instruction.specs.Test.{Test, always, under, most, same, ◌&◌, given, never, passes, Holds}

pub holds : (t : Test) → passes t ≡ true → Holds t
holds always e = tt
holds (under a b) e = ltb-true a b e
holds (most a b) e = leb-true a b e
holds (same a b) e = eqb-true a b e
holds (s & t) e =
    let h = both_true (passes s) (passes t) e in
    (holds s h.0, holds t h.1)
holds (given true t) e = λ _. holds t e
holds (given false t) e = λ f. absurd (let z : ◌≡◌ {A = ℕ} 0 1 = cc in omega arith)
holds (never b) e = not-true b e

pub passing : (t : Test) → Holds t → passes t ≡ true
passing always h = refl
passing (under a b) h = lt-ltb a b h
passing (most a b) h = le-leb a b h
passing (same a b) h = eq-eqb a b h
passing (s & t) h = rw (passing s h.0, passing t h.1)
passing (given true t) h = passing t (h refl)
passing (given false t) h = refl
passing (never true) h = let z : ◌≡◌ {A = ℕ} 0 1 = cc in absurd (omega arith)
passing (never false) h = refl
