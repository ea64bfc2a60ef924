-- What one test of a rule answers, from what the code asked: masks, and guards of the program. Assumes nothing.
use mathlib.Core.Path.{◌≡◌, refl, sym, ap, ◌∙◌}
use mathlib.Core.Bool.{Bool, true, false, not, ◌&&◌, ◌||◌}
use Prim.Native.Nat.{ℕ, ◌≤◌}
use native.Mathlib.Omega.{arith}
use lib.Dec.{eqb}
use borrow.Author.Tests.{ne_eqb}
use Rattle.instruction.proofs.Flags.{or_right}
use Rattle.mask.specs.Mask.{every}
use Rattle.mask.proofs.Laws.{every_all, every_same}

-- a guard that passes asks, one that fails does not
pub asked : (t f : Bool) → t ≡ true → not t || f ≡ f
asked true f e = refl
asked false f e = cc

pub unasked : (t f : Bool) → t ≡ false → not t || f ≡ true
unasked true f e = cc
unasked false f e = refl

-- a test that every number passes, asked of some
pub all_asked : (n : ℕ) (asks test : ℕ → Bool) → ((r : ℕ) → test r ≡ true) → true ≡ every n (λ r. not (asks r) || test r)
all_asked n asks test h =
    sym (every_all n (λ r. not (asks r) || test r) (λ r l. or_right (not (asks r)) (test r) (h r)))

-- to leave out a number that is not below the bound is to leave out none
pub none_left_out : (b : Bool) (n a : ℕ) (test : ℕ → Bool) → n ≤ a → b ≡ every n (λ r. not (not (eqb r a)) || test r) → b ≡ every n test
none_left_out b n a test l e =
    e
    ∙ every_same n (λ r. not (not (eqb r a)) || test r) test
    (λ r h. asked (not (eqb r a)) (test r) (ap not (ne_eqb r a (λ d. omega arith))))

-- two answers, of which the second is asked where the first is true
pub and_passed : (a b s t : Bool) → a ≡ true → a ≡ s → b ≡ t → b ≡ s && t
and_passed a b s t passed e f = rw (sym e, passed) f

pub and_failed : (a s t : Bool) → a ≡ false → a ≡ s → false ≡ s && t
and_failed a s t failed e = rw (sym e, failed)
