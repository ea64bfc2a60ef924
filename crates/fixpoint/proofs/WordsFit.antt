-- The words of the least claim, by its definition, are words of 64 bits. Assumes nothing.
use mathlib.Core.Bool.{Bool, true, false, ◌||◌}
use mathlib.Core.List.{List}
use Prim.Native.Nat.{ℕ, zero, suc, ◌+◌, ◌*◌, ◌^◌, ◌≤◌, ◌<◌}
use native.Mathlib.Nat.{pow-suc}
use native.Mathlib.Omega.{arith}
use lib.Dec.{ltb}
use lib.ListN.{get_or}
use borrow.Author.Tests.{ltb-true, ltb-false}
use Rattle.text.proofs.Cases.{by_test}
use Rattle.instruction.specs.Word.{pick}
use Rattle.mask.specs.Mask.{has, bits_where}
use Rattle.program.specs.Lists.{tab}
use Rattle.program.specs.Program.{Program}
use Rattle.program.proofs.Lists.{getD_tab, getD_tab_out}
use Rattle.flow.specs.Claim.{Slot}
use Rattle.flow.specs.Verdict.{Verdict, accepted, violated, verdict}
use Rattle.slots.specs.Layout.{claim_size, place_of, mask_at, claim_in, no_masks}
use Rattle.claim.proofs.NoBits.{none_zero}
use Rattle.fixpoint.specs.LeastOf.{program_asks, raised_word, raised_to, once_raised, unless, least_by, least_words}

two_more : (b n x : ℕ) → b ≤ 1 → x < 2 ^ n → b + 2 * x < 2 ^ suc n
two_more b n x l h = omega (arith, pow-suc 2 n)

bit_few : (t : Bool) → pick t 1 0 ≤ 1
bit_few true = omega arith
bit_few false = omega arith

where_less : (n : ℕ) (test : ℕ → Bool) → bits_where n test < 2 ^ n
where_less zero test = omega arith
where_less (suc n) test =
    two_more (pick (test zero) 1 0) n (bits_where n (λ k. test (suc k))) (bit_few (test zero)) (where_less n (λ k. test (suc k)))

abbrev pub Fits : List ℕ → Type 0
Fits ws = (i : ℕ) → get_or ws i 0 < 2 ^ 64

tab_fits : (n : ℕ) (f : ℕ → ℕ) → ((i : ℕ) → f i < 2 ^ 64) → (i : ℕ) → get_or (tab n f) i 0 < 2 ^ 64
tab_fits n f h i =
    by_test (ltb i n)
    (λ t. rw (getD_tab n f i 0 (ltb-true i n t)) (h i))
    (λ t. rw (getD_tab_out n f i 0 (ltb-false i n t)) (omega arith))

unless_fits : (v : Verdict) (ws more : List ℕ) → Fits ws → Fits more → Fits (unless v ws more)
unless_fits accepted ws more h g = h
unless_fits (violated n m pc) ws more h g = g

module _ (p : Program) where
  word_fits : (ws : List ℕ) (i : ℕ) → raised_word p ws i < 2 ^ 64
  unfolding raised_word
  word_fits ws i = where_less 64 (λ k. has (mask_at ws i) k || program_asks p (claim_in ws) i k)

  raised_fits : (n : ℕ) (ws : List ℕ) → Fits (raised_to n p ws)
  unfolding raised_to
  raised_fits n ws = tab_fits n (raised_word p ws) (word_fits ws)

  least_fits : (n : ℕ) (ws : List ℕ) → Fits ws → Fits (least_by n p ws)
  unfolding least_by
  least_fits zero ws h = h
  least_fits (suc n) ws h =
      unless_fits (verdict p (claim_in ws)) ws (least_by n p (once_raised p ws)) h
      (least_fits n (once_raised p ws) (raised_fits claim_size ws))

  pub words_fit : Fits (least_words p)
  unfolding least_words
  words_fit = least_fits 621568 no_masks (λ i. rw (none_zero i) (omega arith))

pub claim_fits : (ws : List ℕ) → Fits ws → (s : Slot) → (claim_in ws s).bits < 2 ^ 64
unfolding claim_in
claim_fits ws h s = h (place_of s)
