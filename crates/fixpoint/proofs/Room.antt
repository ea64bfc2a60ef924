-- How many bits a claim may still get: 621,568 at most, and a claim that grows and has no less room got none. Assumes nothing.
use mathlib.Core.Path.{◌≡◌, refl, sym}
use mathlib.Core.Bool.{Bool, true, false}
use mathlib.Core.List.{List}
use Prim.Native.Nat.{ℕ, zero, suc, ◌+◌, ◌*◌, ◌<◌, ◌≤◌}
use native.Mathlib.Omega.{arith}
use native.Mathlib.Decide.{ℕ_discrete}
use lib.ListN.{length}
use Rattle.text.proofs.Cases.{never}
use Rattle.instruction.specs.Word.{pick}
use Rattle.mask.specs.Mask.{has}
use Rattle.mask.proofs.Laws.{has_less}
use Rattle.flow.specs.Claim.{Claim}
use Rattle.slots.specs.Layout.{claim_size, place_of, slot_at, claim_in}
use Rattle.slots.proofs.Places.{place_back}
use Rattle.claim.proofs.NoBits.{bit_inside}
use Rattle.order.specs.Order.{Below}
use Rattle.fixpoint.specs.Risen.{total, room}

-- ---- sums of n numbers
-- of numbers none of which is greater
total_less : (n : ℕ) (a b : ℕ → ℕ) → ((i : ℕ) → i < n → a i ≤ b i) → total n a ≤ total n b
unfolding total
total_less zero a b h = omega arith
total_less (suc n) a b h = omega (arith, h n (omega arith), total_less n a b (λ i l. h i (omega arith)))

same_at : (n i : ℕ) (a b : ℕ → ℕ) → i < suc n → (i < n → b i ≤ a i) → b n ≤ a n → Dec (i ≡ n) → b i ≤ a i
same_at n i a b l rest last (yes same) = rw same last
same_at n i a b l rest last (no other) = rest (omega (arith, other))

-- equal sums of such numbers are of equal numbers
total_same : (n : ℕ) (a b : ℕ → ℕ) → ((i : ℕ) → i < n → a i ≤ b i) → total n b ≤ total n a → (i : ℕ) → i < n → b i ≤ a i
unfolding total
total_same zero a b h e i l = absurd (omega arith)
total_same (suc n) a b h e i l =
    let rest : total n a ≤ total n b = total_less n a b (λ j k. h j (omega arith)) in
    let last : a n ≤ b n = h n (omega arith) in
    same_at n i a b l (total_same n a b (λ j k. h j (omega arith)) (omega arith) i) (omega arith) (ℕ_discrete i n)

-- of numbers of at most b
total_most : (n b : ℕ) (g : ℕ → ℕ) → ((i : ℕ) → g i ≤ b) → total n g ≤ b * n
unfolding total
total_most zero b g h = omega arith
total_most (suc n) b g h =
    let more : b * suc n ≡ b + b * n = omega arith in
    omega (arith, total_most n b g h, h n, more)

-- ---- the bits that a word lacks
abbrev lacks : Claim → ℕ → ℕ → ℕ
lacks c i k = pick (has (c (slot_at i)) k) 0 1

lacks_less : (a b : Bool) → (a ≡ true → b ≡ true) → pick b 0 1 ≤ pick a 0 1
lacks_less true true h = omega arith
lacks_less true false h = let e : false ≡ true = h refl in never (cc)
lacks_less false true h = omega arith
lacks_less false false h = omega arith

lacks_back : (a b : Bool) → pick a 0 1 ≤ pick b 0 1 → b ≡ true → a ≡ true
lacks_back true b l e = refl
lacks_back false true l e = absurd (omega arith)
lacks_back false false l e = e

module _ (c d : Claim) (grows : Below c d) where
  bit_less : (i k : ℕ) → lacks d i k ≤ lacks c i k
  bit_less i k = lacks_less (has (c (slot_at i)) k) (has (d (slot_at i)) k) (grows (slot_at i) k)

  bits_less : (i : ℕ) → total 64 (lacks d i) ≤ total 64 (lacks c i)
  bits_less i = total_less 64 (lacks d i) (lacks c i) (λ k _. bit_less i k)

  -- a claim that grows and has no less room has no more bits
  same_bits : room c ≤ room d → (i k : ℕ) → i < 9712 → k < 64 → has (d (slot_at i)) k ≡ true → has (c (slot_at i)) k ≡ true
  unfolding room
  same_bits e i k li lk =
      lacks_back (has (c (slot_at i)) k) (has (d (slot_at i)) k)
      (total_same 64 (lacks d i) (lacks c i) (λ j _. bit_less i j)
      (total_same 9712 (λ j. total 64 (lacks d j)) (λ j. total 64 (lacks c j)) (λ j _. bits_less j) e i li) k lk)

-- the same of words, whose slots past the last have no bit
module _ (ws us : List ℕ) (size : length us ≡ claim_size) (grows : Below (claim_in ws) (claim_in us)) where
  pub no_more : room (claim_in ws) ≤ room (claim_in us) → Below (claim_in us) (claim_in ws)
  no_more e s k h =
      let l = bit_inside us size s k h in
      let same = place_back s l in
      rw same at (same_bits (claim_in ws) (claim_in us) grows e (place_of s) k l (has_less (claim_in us s) k h) (rw (sym same) at h))

-- ---- the words have 621,568 bits
one_most : (t : Bool) → pick t 0 1 ≤ 1
one_most true = omega arith
one_most false = omega arith

word_most : (c : Claim) (n i : ℕ) → total n (lacks c i) ≤ 1 * n
word_most c n i = total_most n 1 (lacks c i) (λ k. one_most (has (c (slot_at i)) k))

pub room_most : (c : Claim) → room c ≤ 621568
unfolding room
room_most c =
    let all : total 9712 (λ i. total 64 (lacks c i)) ≤ 64 * 9712 =
    total_most 9712 64 (λ i. total 64 (lacks c i)) (λ i. omega (arith, word_most c 64 i)) in
    omega arith
