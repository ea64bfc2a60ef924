-- Registers in rows of words: their places, rows that no address has, and a row joined into another as far as both lie inside the words.
-- Assumes nothing.
use mathlib.Core.Path.{◌≡◌, ap, ◌∙◌}
use mathlib.Core.Bool.{false}
use mathlib.Core.List.{List}
use Prim.Native.Nat.{ℕ, ◌+◌, ◌-◌, ◌≤◌, ◌<◌, min}
use native.Mathlib.Omega.{arith}
use lib.Dec.{ltb}
use lib.ListN.{length, get_or-eq_default}
use borrow.Author.Tests.{ltb-true, ltb-false, lt-ltb}
use Rattle.text.proofs.Cases.{by_test, never}
use Rattle.mask.specs.Mask.{has}
use Rattle.mask.proofs.Sets.{no_bit}
use Rattle.program.specs.Program.{Program, method_count, registers, code_length}
use Rattle.reader.specs.Formed.{Formed}
use Rattle.flow.specs.Claim.{Slot, register_at, Claim}
use Rattle.flow.specs.Flows.{each}
use Rattle.flow.specs.Rules.{carried}
use Rattle.slots.specs.Layout.{claim_size, row_of, place_of, mask_of, claim_in}
use Rattle.slots.proofs.Places.{row_in_lem, row_address}
use Rattle.order.specs.Raised.{Raised}
use Rattle.raise.specs.Inside.{Consecutive, each_into}
use Rattle.raise.proofs.Places.{row_own}

-- ---- places of registers
register_in : (m pc r : ℕ) → r < 16 → place_of (register_at m pc r) ≡ row_of m pc + r
unfolding place_of
register_in m pc r l = rw (lt-ltb r 16 l)

pub at_most_16 : (n x y : ℕ) → n ≡ min (min x 16) y → n ≤ 16
at_most_16 n x y e = omega arith

pub registers_from_lem : (m pc n i : ℕ) → i ≡ row_of m pc → n ≤ 16 → Consecutive (register_at m pc) i n
registers_from_lem m pc n i e few r l = rw e (register_in m pc r (omega arith))

register_past : (m pc r : ℕ) → claim_size ≤ row_of m pc → claim_size ≤ place_of (register_at m pc r)
unfolding place_of
register_past m pc r l = by_test (ltb r 16) (λ t. rw t (omega (arith, l))) (λ t. rw t (omega arith))

-- a register past the last word has no bit
empty_past : (ws : List ℕ) (m pc r k : ℕ) → length ws ≡ claim_size → claim_size ≤ row_of m pc → has (claim_in ws (register_at m pc r)) k ≡ false
unfolding claim_in
empty_past ws m pc r k size l =
    let past : length ws ≤ place_of (register_at m pc r) = omega (arith, size, register_past m pc r l) in
    ap (λ (x : ℕ). has (mask_of x) k) (get_or-eq_default ws 0 past) ∙ no_bit k

-- ---- flows that carry no bit need no work
fewer : (n all : ℕ) (s t : ℕ → Slot) (c d : Claim) → n ≤ all → ((r : ℕ) → n ≤ r → r < all → (k : ℕ) → has (c (s r)) k ≡ false)
    → Raised (each n (each_into s t)) c d → Raised (each all (each_into s t)) c d
fewer n all s t c d l empty raised =
    record {
      grows = raised.grows;
      asked = λ r h k x. by_test (ltb r n)
          (λ b. raised.asked r (ltb-true r n b) k x)
          (λ b. let none = empty r (ltb-false r n b) h k in never (cc));
      least = λ e h b. raised.least e (λ r x. h r (omega arith)) b;
    }

-- ---- the registers of an address of a well-formed program
module _ (p : Program) (formed : Formed p) (m pc to : ℕ) (ws : List ℕ) (d : Claim) (lm : m < method_count p) (lp : to < code_length p m)
    (size : length ws ≡ claim_size) where
  pub row_carried : (n : ℕ) → n ≡ min (min (registers p m) 16) (min (claim_size - row_of m pc) (claim_size - row_of m to))
      → Raised (each n (each_into (register_at m pc) (register_at m to))) (claim_in ws) d → Raised (carried p m pc to) (claim_in ws) d
  row_carried n e raised =
      let few = (formed.methods m lm).registers_to in
      let method : m < 16 = omega (arith, formed.limited.methods) in
      let (there, inside) = row_own p formed m to lm lp in
      fewer n (registers p m) (register_at m pc) (register_at m to) (claim_in ws) d (omega (arith, e))
      (λ r more less k. by_test (ltb pc 32)
      (λ t. absurd (omega (arith, e, few, there, inside, row_in_lem m pc method (ltb-true pc 32 t), ltb-true pc 32 t)))
      (λ t. empty_past ws m pc r k size (omega (arith, row_address m pc (ltb-false pc 32 t)))))
      raised
