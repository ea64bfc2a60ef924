-- The first n elements of a list become c: as many elements, and one more at a time. Assumes nothing.
use mathlib.Core.Path.{◌≡◌, refl, sym, ◌∙◌, ap}
use Prim.Native.Nat.{ℕ, zero, suc, ◌+◌}
use native.Mathlib.Numerals.{add-one}
use mathlib.Core.List.{List}
use lib.ListN.{length, set, length-set}
use Rattle.store.specs.Store.{filled}

pub filled_length : {A : Type 0} (n : ℕ) (c : A) (ys : List A) → length (filled n c ys) ≡ length ys
unfolding filled
filled_length zero c ys = refl
filled_length (suc n) c ys = length-set (filled n c ys) _ c ∙ filled_length n c ys

pub filled_more : {A : Type 0} (n : ℕ) (c : A) (ys : List A) → set (filled n c ys) n c ≡ filled (n + 1) c ys
unfolding filled
filled_more n c ys = sym (ap (λ (m : ℕ). filled m c ys) (add-one n))

pub filled_none : {A : Type 0} (c : A) (ys : List A) → filled 0 c ys ≡ ys
unfolding filled
filled_none c ys = refl
