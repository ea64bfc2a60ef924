-- Rows of words: the bits that are in words and not in others, gathered in one mask; and what rows say of registers. Assumes nothing.
use mathlib.Core.Path.{◌≡◌, refl, sym, ap, ◌∙◌}
use mathlib.Core.Bool.{Bool, true, false, not, ◌&&◌, ◌||◌}
use mathlib.Core.List.{List}
use Prim.Native.Nat.{ℕ, zero, suc, ◌+◌, ◌<◌, ◌≤◌}
use native.Mathlib.Omega.{arith}
use borrow.Author.Tests.{ltb-true, ltb-false, lt-ltb, le-ltb}
use lib.Dec.{ltb}
use Rattle.text.proofs.Cases.{by_test, both_true}
use Rattle.mask.specs.declared.Mask.{Mask}
use Rattle.mask.specs.Mask.{has, every, is_empty, subset}
use Rattle.mask.proofs.Laws.{and_false, every_at, every_same, subset_all}
use Rattle.flow.specs.Claim.{register_at}
use Rattle.slots.specs.Layout.{claim_size, row_of, place_of, mask_at, claim_in}
use Rattle.slots.proofs.Places.{row_in_lem}
use Rattle.carry.specs.Carried.{word_in, row_in, row_flows}

-- ---- bits gathered
and_four : (a b c d : Bool) → (a && b) && (c && d) ≡ (a && c) && (b && d)
and_four true true c d = refl
and_four true false c d = sym (and_false c)
and_four false b c d = refl

every_and : (n : ℕ) (f g : ℕ → Bool) → every n (λ k. f k && g k) ≡ every n f && every n g
every_and zero f g = refl
every_and (suc n) f g =
    ap (◌&&◌ (f zero && g zero)) (every_and n (λ k. f (suc k)) (λ k. g (suc k)))
    ∙ and_four (f zero) (g zero) (every n (λ k. f (suc k))) (every n (λ k. g (suc k)))

-- one bit: of those gathered before, of a word, of the other's
bit_more : (o x y : Bool) → not (o || (x && not y)) ≡ not o && (not x || y)
bit_more true x y = refl
bit_more false true true = refl
bit_more false true false = refl
bit_more false false y = refl

-- with the bits of one mask that are not in another gathered too, there is none where there was none before and the one is in the other
pub gathered : (out x y more all : Mask) → ((k : ℕ) → has more k ≡ has x k && not (has y k))
    → ((k : ℕ) → has all k ≡ has out k || has more k) → is_empty all ≡ is_empty out && subset x y
unfolding is_empty subset
gathered out x y more all d e =
    every_same 64 (λ k. not (has all k)) (λ k. not (has out k) && (not (has x k) || has y k))
    (λ k l. rw (e k, d k) (bit_more (has out k) (has x k) (has y k)))
    ∙ every_and 64 (λ k. not (has out k)) (λ k. not (has x k) || has y k)

-- ---- registers
register_word : (ws : List ℕ) (m pc r : ℕ) → r < 16 → claim_in ws (register_at m pc r) ≡ mask_at ws (row_of m pc + r)
unfolding claim_in place_of
register_word ws m pc r l = rw (lt-ltb r 16 l)

register_past : (ws : List ℕ) (m pc r : ℕ) → 16 ≤ r → claim_in ws (register_at m pc r) ≡ mask_at ws claim_size
unfolding claim_in place_of
register_past ws m pc r l = rw (le-ltb r 16 l)

-- the registers of a row lie inside the words
pub row_inside : (m pc : ℕ) → m < 16 → pc < 32 → row_of m pc + 16 ≤ claim_size
row_inside m pc l h = omega (arith, row_in_lem m pc l h)

-- where a row is in another, all registers are: any past the 16 lies past the last word at both addresses
pub registers_in_lem : (ws : List ℕ) (m pc to : ℕ) → row_flows ws m pc to ≡ true → (r : ℕ)
    → subset (claim_in ws (register_at m pc r)) (claim_in ws (register_at m to r)) ≡ true
registers_in_lem ws m pc to e r =
    let row = row_in ws (row_of m pc) (row_of m to) in
    let a = both_true (ltb m 16) (ltb pc 32 && (ltb to 32 && row)) e in
    let b = both_true (ltb pc 32) (ltb to 32 && row) a.1 in
    let passed = (both_true (ltb to 32) row b.1).1 in
    by_test (ltb r 16)
    (λ t.
    let l = ltb-true r 16 t in
    rw (register_word ws m pc r l, register_word ws m to r l) (every_at 16 (word_in ws (row_of m pc) (row_of m to)) passed r l))
    (λ t.
    let l = ltb-false r 16 t in
    rw (register_past ws m pc r l, register_past ws m to r l) (subset_all _ _ (λ k h. h)))
