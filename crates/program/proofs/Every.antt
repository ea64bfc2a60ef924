-- What holds of every element of a list: of lists put together, of lists by index, and of what follows from it. Assumes nothing.
use mathlib.Core.List.{List, [], ◌∷◌, ◌++◌}
use Prim.Native.Nat.{ℕ, zero, suc, ◌<◌}
use native.Mathlib.Nat.{not-suc-le-zero, le_of_suc-le-suc}
use native.Mathlib.Omega.{arith}
use Rattle.program.specs.Lists.{tab, joined, Every}

module _ {A : Type 0} (P : A → Type 0) where
  pub every_append : (xs ys : List A) → Every P xs → Every P ys → Every P (xs ++ ys)
  every_append [] ys h k = k
  every_append (x ∷ xs) ys h k = (h.0, every_append xs ys h.1 k)

  pub every_parts : (xs ys : List A) → Every P (xs ++ ys) → Every P xs × Every P ys
  every_parts [] ys h = (tt, h)
  every_parts (x ∷ xs) ys h =
      let r = every_parts xs ys h.1 in
      ((h.0, r.0), r.1)

  pub every_tab : (n : ℕ) (f : ℕ → A) → ((i : ℕ) → P (f i)) → Every P (tab n f)
  every_tab zero f h = tt
  every_tab (suc n) f h = (h zero, every_tab n (λ k. f (suc k)) (λ i. h (suc i)))

  pub tab_each : (n : ℕ) (f : ℕ → A) → Every P (tab n f) → (i : ℕ) → i < n → P (f i)
  tab_each zero f h i l = absurd (not-suc-le-zero l)
  tab_each (suc n) f h zero l = h.0
  tab_each (suc n) f h (suc i) l = tab_each n (λ k. f (suc k)) h.1 i (le_of_suc-le-suc l)

  pub every_joined : (n : ℕ) (f : ℕ → List A) → ((i : ℕ) → i < n → Every P (f i)) → Every P (joined n f)
  every_joined zero f h = tt
  every_joined (suc n) f h =
      every_append (f zero) (joined n (λ k. f (suc k))) (h zero (omega arith))
      (every_joined n (λ k. f (suc k)) (λ i l. h (suc i) (omega arith)))

  pub joined_each : (n : ℕ) (f : ℕ → List A) → Every P (joined n f) → (i : ℕ) → i < n → Every P (f i)
  joined_each zero f h i l = absurd (not-suc-le-zero l)
  joined_each (suc n) f h zero l = (every_parts (f zero) (joined n (λ k. f (suc k))) h).0
  joined_each (suc n) f h (suc i) l =
      joined_each n (λ k. f (suc k)) (every_parts (f zero) (joined n (λ k. f (suc k))) h).1 i (le_of_suc-le-suc l)

  pub every_map : (Q : A → Type 0) → ((x : A) → P x → Q x) → (xs : List A) → Every P xs → Every Q xs
  every_map Q g [] h = tt
  every_map Q g (x ∷ xs) h = (g x h.0, every_map Q g xs h.1)

-- what holds for each of 0, 1, .., n - 1 of every element
pub every_swap : {A : Type 0} (P : ℕ → A → Type 0) (n : ℕ) (xs : List A) → ((i : ℕ) → i < n → Every (P i) xs)
    → Every (λ x. (i : ℕ) → i < n → P i x) xs
every_swap P n [] h = tt
every_swap P n (x ∷ xs) h = (λ i l. (h i l).0, every_swap P n xs (λ i l. (h i l).1))
