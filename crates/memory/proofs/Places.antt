-- Where the words of frames (19 each) and of objects (17 each) stand, for any width: no two at one place. Assumes nothing.
use mathlib.Core.Path.{◌≡◌, sym, ap, ◌∙◌}
use Prim.Native.Nat.{ℕ, suc, ◌+◌, ◌*◌, ◌/◌, ◌%◌, ◌≤◌, ◌<◌}
use native.Mathlib.Nat.{add_comm, zero-add, mul-suc, mul-le-mul_left, div-add-mod, div-eq_of_lt, mod-eq_of_lt, add-mul-div_left, mul-add-mod_self_left}
use native.Mathlib.Omega.{arith}

-- word j of the i-th, each w words wide: `frame_place i j` at 19, `object_place i j` at 17
module _ (w : ℕ) where
  -- what place q is (`mod-lt` of native.Mathlib.Nat: q % w < w)
  pub place_of : (q : ℕ) → q ≡ w * (q / w) + q % w
  place_of q = sym (div-add-mod q w)

  pub place_less : (i j i' j' : ℕ) → j < w → i < i' → w * i + j < w * i' + j'
  place_less i j i' j' l h =
      let m : w * suc i ≤ w * i' = mul-le-mul_left w h in
      let s : w * suc i ≡ w * i + w = mul-suc w i in
      omega arith

  pub place_div : (i j : ℕ) → j < w → (w * i + j) / w ≡ i
  place_div i j l =
      ap (λ (n : ℕ). n / w) (add_comm (w * i) j)
      ∙ add-mul-div_left j i (omega arith)
      ∙ ap (λ (n : ℕ). n + i) (div-eq_of_lt l)
      ∙ zero-add i

  pub place_mod : (i j : ℕ) → j < w → (w * i + j) % w ≡ j
  place_mod i j l = mul-add-mod_self_left w i j ∙ mod-eq_of_lt l

  -- no two words at one place
  pub place_same : (i j i' j' : ℕ) → j < w → j' < w → w * i + j ≡ w * i' + j' → (i ≡ i') × (j ≡ j')
  place_same i j i' j' l l' e = (
    sym (place_div i j l) ∙ ap (λ (n : ℕ). n / w) e ∙ place_div i' j' l',
    sym (place_mod i j l) ∙ ap (λ (n : ℕ). n % w) e ∙ place_mod i' j' l',
  )
