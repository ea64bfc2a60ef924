-- A mask joined into the word at a slot's place is joined into that slot's mask and into no other. Assumes nothing.
use mathlib.Core.Path.{◌≡◌, sym, ap, ◌∙◌}
use mathlib.Core.Bool.{true, ◌||◌}
use mathlib.Core.List.{List}
use Prim.Native.Nat.{ℕ, ◌+◌, ◌*◌, ◌<◌}
use native.Mathlib.Omega.{arith}
use lib.Dec.{eqb}
use lib.ListN.{length, set}
use lib.Seq.{get_or-set_same, get_or-set_other}
use borrow.Author.Tests.{eqb-true, eqb-false, lt-ltb}
use Rattle.text.proofs.Cases.{by_test}
use Rattle.instruction.proofs.Flags.{or_right}
use Rattle.mask.specs.declared.Mask.{Mask}
use Rattle.mask.specs.Mask.{has}
use Rattle.program.specs.Program.{Program, method_count, code_length}
use Rattle.reader.specs.Formed.{Formed}
use Rattle.flow.specs.Claim.{Slot, register_at, result_at, field_of, static_of, returned_by, leaving, Claim}
use Rattle.flow.proofs.Callees.{or_cases}
use Rattle.slots.specs.Layout.{claim_size, row_of, place_of, mask_of, mask_at, claim_in}
use Rattle.slots.proofs.Places.{row_in_lem, places_apart}
use Rattle.order.specs.Order.{Below}
use Rattle.order.specs.Own.{Own}
use Rattle.order.specs.Raised.{Joined}
use Rattle.raise.specs.Raises.{Replaced}

-- ---- the slots of a well-formed program have places
module _ (p : Program) (formed : Formed p) where
  -- the row of an address, with the words after it
  pub row_own : (m pc : ℕ) → m < method_count p → pc < code_length p m
      → (row_of m pc ≡ (m * 32 + pc) * 17) × ((m * 32 + pc) * 17 + 16 < claim_size)
  row_own m pc lm lp =
      let method : m < 16 = omega (arith, formed.limited.methods) in
      let address : pc < 32 = omega (arith, (formed.methods m lm).code_to) in
      (row_in_lem m pc method address, omega arith)

  pub own_inside : (s : Slot) → Own p s → place_of s < claim_size
  unfolding place_of
  own_inside (register_at m pc r) (lm, lp, lr) =
      let few : r < 16 = omega (arith, (formed.methods m lm).registers_to) in
      let (row, inside) = row_own m pc lm lp in
      rw (lt-ltb r 16 few, row) (omega (arith, inside))
  own_inside (result_at m pc) (lm, lp) =
      let (row, inside) = row_own m pc lm lp in
      rw row (omega (arith, inside))
  own_inside (field_of k x) (lk, lx, has-it) =
      let class : k < 60 = omega (arith, formed.limited.classes) in
      let field : x < 16 = omega (arith, formed.limited.fields) in
      rw (lt-ltb k 60 class, lt-ltb x 16 field) (omega arith)
  own_inside (static_of x) l =
      let few : x < 16 = omega (arith, formed.limited.statics) in
      rw (lt-ltb x 16 few) (omega arith)
  own_inside (returned_by m) l =
      let few : m < 16 = omega (arith, formed.limited.methods) in
      rw (lt-ltb m 16 few) (omega arith)
  own_inside (leaving m) l =
      let few : m < 16 = omega (arith, formed.limited.methods) in
      rw (lt-ltb m 16 few) (omega arith)

-- ---- one word
pub claim_at : (ws : List ℕ) (s : Slot) (i : ℕ) → place_of s ≡ i → claim_in ws s ≡ mask_at ws i
unfolding claim_in
claim_at ws s i e = ap (mask_at ws) e

pub replaced : (ws : List ℕ) (i n : ℕ) → length ws ≡ claim_size → i < claim_size → Replaced i (mask_of n) (claim_in ws) (claim_in (set ws i n))
unfolding claim_in
replaced ws i n size inside =
    record {
      there = λ s e. ap mask_of (rw e (get_or-set_same ws i n 0 (omega arith)));
      elsewhere = λ s ne. ap mask_of (get_or-set_other ws i (place_of s) n 0 ne);
    }

module _ (ws : List ℕ) (i : ℕ) (m all : Mask) (size : length ws ≡ claim_size) (inside : i < claim_size)
    (more : (k : ℕ) → has all k ≡ has (mask_at ws i) k || has m k) where
  after : List ℕ
  after = set ws i all.bits

  put : Replaced i all (claim_in ws) (claim_in after)
  unfolding after
  put = replaced ws i all.bits size inside

  more_grows : Below (claim_in ws) (claim_in after)
  more_grows t k h =
      by_test (eqb (place_of t) i)
      (λ e.
      let same = eqb-true (place_of t) i e in
      rw (put.there t same, more k, sym (claim_at ws t i same), h))
      (λ e. rw (put.elsewhere t (eqb-false (place_of t) i e)) h)

  more_has : (s : Slot) → place_of s ≡ i → (k : ℕ) → has m k ≡ true → has (claim_in after s) k ≡ true
  more_has s e k h = rw (put.there s e, more k) (or_right (has (mask_at ws i) k) (has m k) h)

  more_least : (s : Slot) → place_of s ≡ i → (c : Claim) → ((k : ℕ) → has m k ≡ true → has (c s) k ≡ true) → Below (claim_in ws) c
      → Below (claim_in after) c
  more_least s e c into below t k h =
      by_test (eqb (place_of t) i)
      (λ f.
      let same = eqb-true (place_of t) i f in
      let slot : s ≡ t = places_apart s t (rw e inside) (rw same inside) (e ∙ sym same) in
      or_cases (has (mask_at ws i) k) (has m k)
      (λ x. below t k (rw (claim_at ws t i same) x))
      (λ x. rw (← slot) (into k x))
      (sym (more k) ∙ rw (put.there t same) at h))
      (λ f. below t k (rw (put.elsewhere t (eqb-false (place_of t) i f)) at h))

  pub joined_at : (s : Slot) → place_of s ≡ i → Joined s m (claim_in ws) (claim_in (set ws i all.bits))
  unfolding after
  joined_at s e = record { grows = more_grows; has_it = more_has s e; least = more_least s e }
