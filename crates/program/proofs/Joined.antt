-- Lists put together: one list more, lists that agree, and how long they are at most. Assumes nothing.
use mathlib.Core.Path.{◌≡◌, refl, sym, ap, ◌∙◌}
use mathlib.Core.List.{List, ◌++◌, append-nil, append_assoc}
use Prim.Native.Nat.{ℕ, zero, suc, ◌*◌, ◌≤◌, ◌<◌}
use native.Mathlib.Nat.{suc-mul}
use native.Mathlib.Omega.{arith}
use lib.ListN.{length, length-append}
use Rattle.program.specs.Lists.{joined}

module _ {A : Type 0} where
  pub joined_more : (n : ℕ) (f : ℕ → List A) → joined (suc n) f ≡ joined n f ++ f n
  joined_more zero f = append-nil (f zero)
  joined_more (suc n) f =
      ap (λ (l : List A). f zero ++ l) (joined_more n (λ k. f (suc k)))
      ∙ sym (append_assoc (f zero) (joined n (λ k. f (suc k))) (f (suc n)))

  -- two that agree below n
  pub joined_cong : (n : ℕ) (f g : ℕ → List A) → ((k : ℕ) → k < n → f k ≡ g k) → joined n f ≡ joined n g
  joined_cong zero f g h = refl
  joined_cong (suc n) f g h =
      ap (λ (l : List A). l ++ joined n (λ k. f (suc k))) (h zero (omega arith))
      ∙ ap (λ (l : List A). g zero ++ l) (joined_cong n (λ k. f (suc k)) (λ k. g (suc k)) (λ k l. h (suc k) (omega arith)))

  -- n lists of at most b elements
  pub joined_short : (n b : ℕ) (f : ℕ → List A) → ((k : ℕ) → k < n → length (f k) ≤ b) → length (joined n f) ≤ n * b
  joined_short zero b f h = omega arith
  joined_short (suc n) b f h =
      omega (
        arith,
        length-append (f zero) (joined n (λ k. f (suc k))),
        h zero (omega arith),
        joined_short n b (λ k. f (suc k)) (λ k l. h (suc k) (omega arith)),
        suc-mul n b,
      )
