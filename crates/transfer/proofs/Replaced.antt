-- Registers and result that go on to the next address while the written register holds another mask in place of its own, which is then
-- put back: rules 2 and 4 are met. Assumes nothing.
use mathlib.Core.Path.{◌≡◌, refl, ap}
use mathlib.Core.Bool.{true, not}
use Prim.Native.Nat.{ℕ, suc, ◌<◌}
use native.Mathlib.Omega.{arith}
use lib.Dec.{eqb}
use borrow.Author.Tests.{eqb-true, eqb-false, eq-eqb, ne_eqb}
use Rattle.text.proofs.Cases.{by_test, never}
use Rattle.instruction.specs.Word.{pick}
use Rattle.mask.specs.declared.Mask.{Mask}
use Rattle.program.specs.Program.{Program, method_count, registers, code_length}
use Rattle.reader.specs.Formed.{Formed}
use Rattle.flow.specs.Claim.{Slot, register_at, result_at, Claim}
use Rattle.flow.specs.Flows.{Flows, ◌⊆◌, Holds}
use Rattle.flow.specs.Rules.{onward, writes}
use Rattle.slots.specs.Layout.{place_of}
use Rattle.slots.proofs.Places.{places_apart}
use Rattle.order.specs.Order.{Below}
use Rattle.order.specs.Own.{Own}
use Rattle.order.specs.Raised.{Goes, Raised, all_of}
use Rattle.raise.specs.Raises.{Replaced}
use Rattle.raise.proofs.Places.{own_inside}
use Rattle.transfer.specs.Transfer.{Gives}

-- any claim with another mask at a place
replace : ℕ → Mask → Claim → Claim
replace i m c s = pick (eqb (place_of s) i) m (c s)

is_replaced : (i : ℕ) (m : Mask) (c : Claim) → Replaced i m c (replace i m c)
unfolding replace
is_replaced i m c =
    record { there = λ s e. rw (eq-eqb (place_of s) i e); elsewhere = λ s ne. rw (ne_eqb (place_of s) i ne) }

module _ (p : Program) (formed : Formed p) (m pc a : ℕ) (lm : m < method_count p) (lp : suc pc < code_length p m) (la : a < registers p m)
    (value : Mask) (c c' d' d : Claim) where
  -- the written register, and the same at the next address
  abbrev own : Slot
  own = register_at m pc a

  abbrev next : Slot
  next = register_at m (suc pc) a

  own_is : Own p own
  own_is = (lm, omega arith, la)

  -- the written register alone lies at its place
  alone : (s : Slot) → place_of s ≡ place_of own → s ≡ own
  alone s e = let inside = own_inside p formed own own_is in places_apart s own (rw e inside) inside e

  -- no other register lies there, of this address or the next one, and no result
  other : (r : ℕ) → (r ≡ a → ⊥) → place_of (register_at m pc r) ≡ place_of own → ⊥
  other r ne e = let same = alone (register_at m pc r) e in ne (cc)

  later : (r : ℕ) → place_of (register_at m (suc pc) r) ≡ place_of own → ⊥
  later r e = let same = alone (register_at m (suc pc) r) e in absurd (omega (arith, address (suc pc) r pc a same))
    where
      address : (x r y t : ℕ) → register_at m x r ≡ register_at m y t → x ≡ y
      address x r y t e = cc

  not_same : (r : ℕ) → not (eqb r a) ≡ true → r ≡ a → ⊥
  not_same r e same = let is = eq-eqb r a same in never (cc)

  result : (x : ℕ) → place_of (result_at m x) ≡ place_of own → ⊥
  result x e = let same = alone (result_at m x) e in never (cc)

  module _ (f : Flows) (gives : Gives c f next value) (put : Replaced (place_of own) value c c')
      (raised : Raised (onward p m pc (suc pc)) c' d') (back : Replaced (place_of own) (c own) d' d) where
    put_grows : Below c d
    put_grows s k h =
        by_test (eqb (place_of s) (place_of own))
        (λ e.
        let same = eqb-true (place_of s) (place_of own) e in
        rw (back.there s same) (rw (alone s same) at h))
        (λ e.
        let ne = eqb-false (place_of s) (place_of own) e in
        rw (back.elsewhere s ne) (raised.grows s k (rw (put.elsewhere s ne) h)))

    -- what flows from another slot
    from_other : (s t : Slot) → (place_of s ≡ place_of own → ⊥) → (place_of t ≡ place_of own → ⊥) → Goes c' d' (s ⊆ t) → Goes c d (s ⊆ t)
    from_other s t x y h k e = rw (back.elsewhere t y) (h k (rw (put.elsewhere s x) e))

    put_asked : Goes c d (all_of (writes p m pc a f))
    put_asked = (
      (
        λ r l e. from_other (register_at m pc r) (register_at m (suc pc) r) (other r (not_same r e)) (later r) (raised.asked.0 r l),
        from_other (result_at m pc) (result_at m (suc pc)) (result pc) (result (suc pc)) raised.asked.1,
      ),
      (
        gives.asked d (λ k x. rw (back.elsewhere next (later a)) (raised.asked.0 a la k (rw (put.there own refl) x))),
        λ n l. absurd (omega arith),
      ),
    )

    module _ (e : Claim) (h : Holds e (all_of (writes p m pc a f))) (b : Below c e) where
      abbrev e' : Claim
      e' = replace (place_of own) value e

      e_put : Replaced (place_of own) value e e'
      e_put = is_replaced (place_of own) value e

      put_below : Below c' e'
      put_below s k x =
          by_test (eqb (place_of s) (place_of own))
          (λ t.
          let same = eqb-true (place_of s) (place_of own) t in
          rw (e_put.there s same) (rw (put.there s same) at x))
          (λ t.
          let ne = eqb-false (place_of s) (place_of own) t in
          rw (e_put.elsewhere s ne) (b s k (rw (put.elsewhere s ne) at x)))

      holds : Holds e' (onward p m pc (suc pc))
      holds = (
        λ r l k x. by_test (eqb r a)
            (λ t.
            let same = eqb-true r a t in
            rw (same, e_put.elsewhere next (later a))
            (gives.least e h.1.0 b k (rw (e_put.there own refl) at (rw same at x))))
            (λ t.
            let ne = eqb-false r a t in
            rw (e_put.elsewhere (register_at m (suc pc) r) (later r))
            (h.0.0 r l (ap not t) k (rw (e_put.elsewhere (register_at m pc r) (other r ne)) at x))),
        λ k x. rw (e_put.elsewhere (result_at m (suc pc)) (result (suc pc)))
            (h.0.1 k (rw (e_put.elsewhere (result_at m pc) (result pc)) at x)),
      )

      put_least : Below d e
      put_least s k x =
          by_test (eqb (place_of s) (place_of own))
          (λ t.
          let same = eqb-true (place_of s) (place_of own) t in
          rw (alone s same) (b own k (rw (back.there s same) at x)))
          (λ t.
          let ne = eqb-false (place_of s) (place_of own) t in
          rw (e_put.elsewhere s ne) at (raised.least e' holds put_below s k (rw (back.elsewhere s ne) at x)))

    pub written_meanwhile : Raised (all_of (writes p m pc a f)) c d
    written_meanwhile = record { grows = put_grows; asked = put_asked; least = put_least }
