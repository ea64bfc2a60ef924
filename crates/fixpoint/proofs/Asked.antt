-- What flows ask for, by place and bit: they go into a claim that has it, and a claim in which they hold has it. Assumes nothing.
use mathlib.Core.Path.{◌≡◌, refl}
use mathlib.Core.Bool.{Bool, true, ◌||◌}
use Prim.Native.Nat.{ℕ, ◌<◌}
use lib.Dec.{eqb}
use borrow.Author.Tests.{eqb-true, eq-eqb}
use Rattle.std.specs.Prelude.{Option, Some, None}
use Rattle.text.proofs.Cases.{by_test, never, both_true}
use Rattle.instruction.proofs.Flags.{or_right}
use Rattle.mask.specs.Mask.{has, has_number}
use Rattle.flow.specs.Claim.{Slot, Claim}
use Rattle.flow.specs.Flows.{Flows, ◌∈◌, ◌⊆◌, ◌&◌, each, given, numeric, when, found, handled, unhandled, Holds}
use Rattle.flow.proofs.Callees.{some_at, some_one}
use Rattle.slots.specs.Layout.{claim_size, place_of}
use Rattle.slots.proofs.Places.{places_apart}
use Rattle.order.specs.Order.{Below}
use Rattle.order.specs.Raised.{Goes}
use Rattle.order.specs.Own.{Targets}
use Rattle.order.proofs.Flowing.{number_kept}
use Rattle.fixpoint.specs.LeastOf.{asks, by_found, by_caught, by_uncaught}

-- ---- tests
pub or_left : (a b : Bool) → a ≡ true → a || b ≡ true
or_left a b e = rw e

-- ---- the outcome that a test passed at
by_found_lem : {P : Type 0} (r : Option ℕ) (test : ℕ → Bool) → by_found r test ≡ true → ((m : ℕ) → r ≡ Some m → test m ≡ true → P) → P
by_found_lem (Some m) test e f = f m refl e
by_found_lem None test e f = never (cc)

by_caught_lem : {P : Type 0} (r : Option ℕ) (test : ℕ → Bool) → by_caught r test ≡ true → ((m : ℕ) → r ≡ Some m → test m ≡ true → P) → P
by_caught_lem (Some m) test e f = f m refl e
by_caught_lem None test e f = never (cc)

by_uncaught_lem : {P : Type 0} (r : Option ℕ) (t : Bool) → by_uncaught r t ≡ true → (r ≡ None → t ≡ true → P) → P
by_uncaught_lem (Some m) t e f = never (cc)
by_uncaught_lem None t e f = f refl e

abbrev pub Inside : Slot → Type 0
Inside s = place_of s < claim_size

-- ---- a claim that has all that is asked
module _ (c d : Claim) where
  pub asked_goes : (f : Flows) → Targets Inside f → ((s : Slot) (k : ℕ) → Inside s → asks c f (place_of s) k ≡ true → has (d s) k ≡ true)
      → Goes c d f
  asked_goes (j ∈ s) o h = h s j o (rw (eq-eqb (place_of s) (place_of s) refl) (eq-eqb j j refl))
  asked_goes (s ⊆ t) o h = λ k e. h t k o (rw (eq-eqb (place_of t) (place_of t) refl) e)
  asked_goes (f & g) o h = (
    asked_goes f o.0 (λ s k l e. h s k l (or_left (asks c f (place_of s) k) (asks c g (place_of s) k) e)),
    asked_goes g o.1 (λ s k l e. h s k l (or_right (asks c f (place_of s) k) (asks c g (place_of s) k) e)),
  )
  asked_goes (each n g) o h = λ i li. asked_goes (g i) (o i li) (λ s k l e. h s k l (some_at n (λ x. asks c (g x) (place_of s) k) i li e))
  asked_goes (given j t f) o h = λ x. asked_goes f o (λ s k l e. h s k l (rw x e))
  asked_goes (numeric t f) o h = λ x. asked_goes f o (λ s k l e. h s k l (rw x e))
  asked_goes (when t f) o h = λ x. asked_goes f (o x) (λ s k l e. h s k l (rw x e))
  asked_goes (found r g) o h = λ m x. asked_goes (g m) (o m x) (λ s k l e. h s k l (rw x e))
  asked_goes (handled r g) o h = λ m x. asked_goes (g m) (o m x) (λ s k l e. h s k l (rw x e))
  asked_goes (unhandled r f) o h = λ x. asked_goes f (o x) (λ s k l e. h s k l (rw x e))

-- ---- a claim in which they hold, above the one that is asked
module _ (c e : Claim) (below : Below c e) (s : Slot) (k : ℕ) (inside : Inside s) where
  same_slot : (t : Slot) → eqb (place_of t) (place_of s) ≡ true → t ≡ s
  same_slot t q =
      let place = eqb-true (place_of t) (place_of s) q in
      places_apart t s (rw place inside) inside place

  pub holds_asked : (f : Flows) → Holds e f → asks c f (place_of s) k ≡ true → has (e s) k ≡ true
  holds_asked (j ∈ t) h q =
      let (place, bit) = both_true (eqb (place_of t) (place_of s)) (eqb j k) q in
      rw (← same_slot t place, ← eqb-true j k bit) h
  holds_asked (u ⊆ t) h q =
      let (place, bit) = both_true (eqb (place_of t) (place_of s)) (has (c u) k) q in
      rw (← same_slot t place) (h k (below u k bit))
  holds_asked (f & g) h q =
      by_test (asks c f (place_of s) k) (holds_asked f h.0) (λ t. holds_asked g h.1 (rw t at q))
  holds_asked (each n g) h q =
      let (i, l, x) = some_one n (λ x. asks c (g x) (place_of s) k) q in
      holds_asked (g i) (h i l) x
  holds_asked (given j t f) h q =
      let (bit, rest) = both_true (has (c t) j) (asks c f (place_of s) k) q in
      holds_asked f (h (below t j bit)) rest
  holds_asked (numeric t f) h q =
      let (bit, rest) = both_true (has_number (c t)) (asks c f (place_of s) k) q in
      holds_asked f (h (number_kept (c t) (e t) (below t) bit)) rest
  holds_asked (when t f) h q =
      let (bit, rest) = both_true t (asks c f (place_of s) k) q in
      holds_asked f (h bit) rest
  holds_asked (found r g) h q = by_found_lem r (λ m. asks c (g m) (place_of s) k) q (λ m x y. holds_asked (g m) (h m x) y)
  holds_asked (handled r g) h q = by_caught_lem r (λ m. asks c (g m) (place_of s) k) q (λ m x y. holds_asked (g m) (h m x) y)
  holds_asked (unhandled r f) h q = by_uncaught_lem r (asks c f (place_of s) k) q (λ x y. holds_asked f (h x) y)
