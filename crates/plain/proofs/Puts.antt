-- Words that are put one after another from a place on: what stands there then. Assumes nothing.
use mathlib.Core.Path.{◌≡◌, refl, sym, ap, ◌∙◌}
use mathlib.Core.List.{List}
use Prim.Native.Nat.{ℕ, zero, suc, ◌+◌, ◌≤◌, ◌<◌}
use native.Mathlib.Decide.{dec_lt}
use native.Mathlib.Omega.{arith}
use lib.Dec.{ltb}
use lib.ListN.{length, get_or, set, length-set}
use lib.Seq.{get_or-set_same, get_or-set_other, ext_get_or}
use borrow.Author.Tests.{lt-ltb, le-ltb}
use Rattle.instruction.specs.Word.{pick}
use Rattle.program.specs.Lists.{tab}
use Rattle.program.proofs.Lists.{length_tab, getD_tab}
use Rattle.plain.specs.Words.{put}

module _ (g : ℕ → ℕ) (ws : List ℕ) (from : ℕ) where
  pub length_put : (n : ℕ) → length (put n g ws from) ≡ length ws
  unfolding put
  length_put zero = refl
  length_put (suc n) = length-set (put n g ws from) (from + n) (g n) ∙ length_put n

  -- within, and after
  put_in : (n i : ℕ) → i < n → from + n ≤ length ws → get_or (put n g ws from) (from + i) 0 ≡ g i
  unfolding put
  put_in zero i l h = absurd (omega arith)
  put_in (suc n) i l h =
      elim (dec_lt i n) [
        | yes k ↦ get_or-set_other (put n g ws from) (from + n) (from + i) (g n) 0 (λ e. omega arith)
            ∙ put_in n i k (omega arith)
        | no k ↦ let e : i ≡ n = omega arith in
            rw e (get_or-set_same (put n g ws from) (from + n) (g n) 0 (omega (arith, length_put n)))
      ]

  put_after : (n q : ℕ) → from + n ≤ q → get_or (put n g ws from) q 0 ≡ get_or ws q 0
  unfolding put
  put_after zero q l = refl
  put_after (suc n) q l =
      get_or-set_other (put n g ws from) (from + n) q (g n) 0 (λ e. omega arith) ∙ put_after n q (omega arith)

  -- n words, and then m words
  pub put_put : (n m : ℕ) → put m (λ j. g (n + j)) (put n g ws from) (from + n) ≡ put (n + m) g ws from
  unfolding put
  put_put n zero = let e : n ≡ n + 0 = omega arith in ap (λ (k : ℕ). put k g ws from) e
  put_put n (suc m) =
      let a : from + n + m ≡ from + (n + m) = omega arith in
      let e : suc (n + m) ≡ n + suc m = omega arith in
      ap (λ (l : List ℕ). set l (from + n + m) (g (n + m))) (put_put n m)
      ∙ ap (λ (k : ℕ). set (put (n + m) g ws from) k (g (n + m))) a
      ∙ ap (λ (k : ℕ). put k g ws from) e

-- the same words
pub put_cong : (g h : ℕ → ℕ) (ws : List ℕ) (from n : ℕ) → ((i : ℕ) → i < n → g i ≡ h i) → put n g ws from ≡ put n h ws from
unfolding put
put_cong g h ws from zero same = refl
put_cong g h ws from (suc n) same =
    ap (λ (l : List ℕ). set l (from + n) (g n)) (put_cong g h ws from n (λ i l. same i (omega arith)))
    ∙ ap (λ (v : ℕ). set (put n h ws from) (from + n) v) (same n (omega arith))

-- words from the first on, index by index
pub put_tab : (n : ℕ) (g : ℕ → ℕ) (ws : List ℕ) → n ≤ length ws
    → put n g ws 0 ≡ tab (length ws) (λ k. pick (ltb k n) (g k) (get_or ws k 0))
put_tab n g ws u =
    ext_get_or 0 (put n g ws 0) (tab (length ws) f) (length_put g ws 0 n ∙ sym (length_tab (length ws) f)) (λ q h. at q (omega (arith, h, length_put g ws 0 n)))
  where
    f : ℕ → ℕ
    f k = pick (ltb k n) (g k) (get_or ws k 0)

    at : (q : ℕ) → q < length ws → get_or (put n g ws 0) q 0 ≡ get_or (tab (length ws) f) q 0
    at q h =
        elim (dec_lt q n) [
          | yes l ↦
              let z : q ≡ 0 + q = omega arith in
              let p : f q ≡ g q = rw (lt-ltb q n l) refl in
              ap (λ (k : ℕ). get_or (put n g ws 0) k 0) z ∙ put_in g ws 0 n q l (omega arith) ∙ sym p ∙ sym (getD_tab (length ws) f q 0 h)
          | no l ↦
              let p : f q ≡ get_or ws q 0 = rw (le-ltb q n (omega arith)) refl in
              put_after g ws 0 n q (omega arith) ∙ sym p ∙ sym (getD_tab (length ws) f q 0 h)
        ]
