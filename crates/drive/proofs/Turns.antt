-- Turns of a loop: the slices stay the same ones, and where a number falls with each turn, so many turns are enough. Assumes
-- nothing.
use mathlib.Core.Path.{◌≡◌, refl, sym, ◌∙◌}
use mathlib.Core.Bool.{Bool, true, false, not}
use mathlib.Core.List.{List}
use Prim.Native.Nat.{ℕ, zero, suc, ◌<◌, ◌≤◌}
use native.Mathlib.Nat.{not-suc-le-zero}
use native.Mathlib.Omega.{arith}
use lib.Dec.{T as Holds}
use Rattle.instruction.specs.Word.{pick}
use Rattle.drive.specs.declared.Lent as slices
use Rattle.drive.specs.Models.{Lent, Same, Done, done, looped}

pub same_turns : (k m n : slices.Lent) → Same k m → Same m n → Same k n
same_turns k m n a b =
    record {
      frames = b.frames ∙ a.frames;
      objects = b.objects ∙ a.objects;
      statics = b.statics ∙ a.statics;
    }

module _ {P : Type 0} (more : List ℕ → P → Bool) (body : List ℕ → Lent → P → Done P) where
  -- where the test fails, nothing more is done
  pub turn_over : (t : List ℕ) (n : ℕ) (m : Lent) (p : P) → Holds (not (more t p)) → done p m ≡ looped more body t n m p
  unfolding looped
  turn_over t zero m p h = refl
  turn_over t (suc n) m p h = over (more t p) h
    where
      over : (b : Bool) → Holds (not b) → done p m ≡ pick b (looped more body t n (body t m p).memory (body t m p).result) (done p m)
      over true h = absurd h
      over false h = refl

  -- where it holds, a turn is made
  one_turn : (t : List ℕ) (n : ℕ) (m : Lent) (p : P) → Holds (more t p) → looped more body t n (body t m p).memory (body t m p).result ≡ looped more body t (suc n) m p
  unfolding looped
  one_turn t n m p h = made (more t p) h
    where
      made : (b : Bool) → Holds b → looped more body t n (body t m p).memory (body t m p).result ≡ pick b (looped more body t n (body t m p).memory (body t m p).result) (done p m)
      made true h = refl
      made false h = absurd h

  module _ (turns : P → ℕ) (falls : (t : List ℕ) (m : Lent) (p : P) → Holds (more t p) → turns (body t m p).result < turns p) where
    -- more turns than are enough change nothing
    by_test : (t : List ℕ) (n k : ℕ) (m : Lent) (p : P) (c : Bool) → more t p ≡ c → (Holds (more t p) → looped more body t n m p ≡ looped more body t k m p)
        → looped more body t n m p ≡ looped more body t k m p
    by_test t n k m p true e go = go (rw e tt)
    by_test t n k m p false e go = sym (turn_over t n m p (rw e tt)) ∙ turn_over t k m p (rw e tt)

    pub more_turns : (t : List ℕ) (n k : ℕ) (m : Lent) (p : P) → turns p ≤ n → turns p ≤ k → looped more body t n m p ≡ looped more body t k m p
    more_turns t zero k m p a b = by_test t zero k m p (more t p) refl (λ h. let f = falls t m p h in absurd (not-suc-le-zero (below (turns (body t m p).result) (turns p) f a)))
      where
        below : (x y : ℕ) → x < y → y ≤ 0 → suc x ≤ 0
        below x y h l = omega arith
    more_turns t (suc n) zero m p a b = by_test t (suc n) zero m p (more t p) refl (λ h. let f = falls t m p h in absurd (not-suc-le-zero (below (turns (body t m p).result) (turns p) f b)))
      where
        below : (x y : ℕ) → x < y → y ≤ 0 → suc x ≤ 0
        below x y h l = omega arith
    more_turns t (suc n) (suc k) m p a b =
        by_test t (suc n) (suc k) m p (more t p) refl
        (λ h.
        sym (one_turn t n m p h)
        ∙ more_turns t n k (body t m p).memory (body t m p).result (omega (arith, falls t m p h)) (omega (arith, falls t m p h))
        ∙ one_turn t k m p h)

    -- a turn leads on to the same end
    on_by : (t : List ℕ) (m : Lent) (p : P) → Holds (more t p) → (q : ℕ) → turns p ≡ q
        → looped more body t (turns (body t m p).result) (body t m p).memory (body t m p).result ≡ looped more body t q m p
    on_by t m p h zero e = absurd (not-suc-le-zero (below (turns (body t m p).result) (turns p) (falls t m p h) e))
      where
        below : (x y : ℕ) → x < y → y ≡ 0 → suc x ≤ 0
        below x y h l = omega arith
    on_by t m p h (suc n) e =
        more_turns t (turns (body t m p).result) n (body t m p).memory (body t m p).result (omega arith) (omega (arith, e, falls t m p h)) ∙ one_turn t n m p h

    pub turn_on : (t : List ℕ) (m : Lent) (p : P) → Holds (more t p)
        → looped more body t (turns (body t m p).result) (body t m p).memory (body t m p).result ≡ looped more body t (turns p) m p
    turn_on t m p h = on_by t m p h (turns p) refl
