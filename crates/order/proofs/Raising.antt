-- Raising a claim: by one flow, by flows one after another, and by flows under a test. Assumes nothing.
use mathlib.Core.Path.{◌≡◌}
use mathlib.Core.Bool.{Bool, true, false}
use Prim.Native.Nat.{ℕ, suc}
use native.Mathlib.Omega.{arith}
use borrow.Author.Count.{below_more}
use Rattle.text.proofs.Cases.{never}
use Rattle.mask.specs.declared.Mask.{Mask}
use Rattle.mask.specs.Mask.{has}
use Rattle.flow.specs.Claim.{Slot, Claim}
use Rattle.flow.specs.Flows.{Flows, ◌∈◌, ◌⊆◌, ◌&◌, each, when, Holds}
use Rattle.order.specs.Order.{Below}
use Rattle.order.specs.Raised.{Goes, Raised, Joined, nothing}
use Rattle.order.proofs.Flowing.{goes_more}

pub below_same : (c : Claim) → Below c c
below_same c s k e = e

pub below_then : (c d e : Claim) → Below c d → Below d e → Below c e
below_then c d e f g s k h = g s k (f s k h)

-- ---- one flow
-- the mask of a slot joined into another's
pub raised_into : (s t : Slot) (c d : Claim) → Joined t (c s) c d → Raised (s ⊆ t) c d
raised_into s t c d j =
    record { grows = j.grows; asked = j.has_it; least = λ e h b. j.least e (λ k x. h k (b s k x)) b }

-- a mask with one bit
pub raised_bit : (k : ℕ) (m : Mask) (s : Slot) (c d : Claim) → has m k ≡ true → ((i : ℕ) → has m i ≡ true → i ≡ k) → Joined s m c d
    → Raised (k ∈ s) c d
raised_bit k m s c d own only j =
    record {
      grows = j.grows;
      asked = j.has_it k own;
      least = λ e h b. j.least e (λ i x. rw (only i x) h) b;
    }

-- ---- other flows that ask for the same
pub raised_as : (f g : Flows) (c d : Claim) → (Goes c d f → Goes c d g) → ((e : Claim) → Below c e → Holds e g → Holds e f)
    → Raised f c d → Raised g c d
raised_as f g c d goes holds r =
    record { grows = r.grows; asked = goes r.asked; least = λ e h b. r.least e (holds e b h) b }

-- ---- flows one after another
pub raised_nothing : (c : Claim) → Raised nothing c c
raised_nothing c = record { grows = below_same c; asked = λ i l. absurd (omega arith); least = λ e h b. b }

pub raised_both : (f g : Flows) (c d e : Claim) → Raised f c d → Raised g d e → Raised (f & g) c e
raised_both f g c d e a b =
    record {
      grows = below_then c d e a.grows b.grows;
      asked = (goes_more c c d e (below_same c) b.grows f a.asked, goes_more d c e e a.grows (below_same e) g b.asked);
      least = λ x h l. b.least x h.1 (a.least x h.0 l);
    }

-- the first n of them, then one more
pub raised_more : (n : ℕ) (g : ℕ → Flows) (c d e : Claim) → Raised (each n g) c d → Raised (g n) d e → Raised (each (suc n) g) c e
raised_more n g c d e a b =
    record {
      grows = below_then c d e a.grows b.grows;
      asked = λ i l. below_more (λ j. Goes c e (g j)) n
          (λ j k. goes_more c c d e (below_same c) b.grows (g j) (a.asked j k))
          (goes_more d c e e a.grows (below_same e) (g n) b.asked) i (omega arith);
      least = λ x h l. b.least x (h n (omega arith)) (a.least x (λ i k. h i (omega arith)) l);
    }

pub raised_none : (g : ℕ → Flows) (c : Claim) → Raised (each 0 g) c c
raised_none g c = record { grows = below_same c; asked = λ i l. absurd (omega arith); least = λ e h b. b }

-- ---- under a test that passes, or fails
pub raised_when : (t : Bool) (f : Flows) (c d : Claim) → t ≡ true → Raised f c d → Raised (when t f) c d
raised_when t f c d e a =
    record { grows = a.grows; asked = λ _. a.asked; least = λ x h b. a.least x (h e) b }

pub left_when : (t : Bool) (f : Flows) (c : Claim) → t ≡ false → Raised (when t f) c c
left_when t f c e = record { grows = below_same c; asked = λ x. never (cc); least = λ x h b. b }
