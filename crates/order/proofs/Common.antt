-- The common part of two accepted claims is accepted, whatever the program; two least claims have the same bits. Assumes nothing.
use mathlib.Core.Path.{◌≡◌, sym, ◌∙◌}
use mathlib.Core.Bool.{true, ◌&&◌}
use mathlib.Core.List.{List, [], ◌∷◌}
use Prim.Native.Nat.{ℕ}
use lib.Dec.{ltb}
use borrow.Author.Tests.{ltb-true}
use Rattle.text.proofs.Cases.{by_test}
use Rattle.instruction.proofs.Flags.{both_true}
use Rattle.mask.specs.declared.Mask.{Mask}
use Rattle.mask.specs.Mask.{has, subset}
use Rattle.mask.proofs.Laws.{same_test, subset_all}
use Rattle.mask.proofs.Sets.{where_has}
use Rattle.program.specs.Lists.{Every}
use Rattle.program.specs.Program.{Program}
use Rattle.flow.specs.Claim.{Slot, Claim}
use Rattle.flow.specs.Flows.{Flows, ◌∈◌, ◌⊆◌, ◌&◌, each, given, numeric, when, found, handled, unhandled, Holds}
use Rattle.flow.specs.Rules.{Rule, rules_at}
use Rattle.flow.specs.Verdict.{accepted, verdict}
use Rattle.flow.proofs.Verdicts.{accepted_holds, rules_at_lem, rules_hold, holds_accepted}
use Rattle.order.specs.Order.{Below, meet, common, Least}
use Rattle.order.specs.Raised.{Goes}
use Rattle.order.proofs.Flowing.{goes_holds, holds_goes, goes_more}

-- ---- the bits of the common part: those that `Mask::common` promises
pub meet_has : (m other : Mask) (k : ℕ) → has (meet m other) k ≡ has m k && has other k
unfolding meet has
meet_has m other k =
    by_test (ltb k 64)
    (λ t. where_has (λ i. has m i && has other i) k (ltb-true k 64 t))
    (λ t. rw t)

meet_in : (m other : Mask) (k : ℕ) → has m k ≡ true → has other k ≡ true → has (meet m other) k ≡ true
meet_in m other k a b = meet_has m other k ∙ rw (a, b)

meet_both : (m other : Mask) (k : ℕ) → has (meet m other) k ≡ true → (has m k ≡ true) × (has other k ≡ true)
meet_both m other k e = both_true (has m k) (has other k) (sym (meet_has m other k) ∙ e)

module _ (c d : Claim) where
  pub common_left : Below (common c d) c
  common_left s k e = (meet_both (c s) (d s) k e).0

  pub common_right : Below (common c d) d
  common_right s k e = (meet_both (c s) (d s) k e).1

  -- and every claim below both is below it
  pub common_greatest : (e : Claim) → Below e c → Below e d → Below e (common c d)
  common_greatest e left right s k h = meet_in (c s) (d s) k (left s k h) (right s k h)

  -- flows that go into both go into the common part
  into_common : (b : Claim) (f : Flows) → Goes b c f → Goes b d f → Goes b (common c d) f
  into_common b (k ∈ s) h g = meet_in (c s) (d s) k h g
  into_common b (s ⊆ t) h g = λ k e. meet_in (c t) (d t) k (h k e) (g k e)
  into_common b (f & f') h g = (into_common b f h.0 g.0, into_common b f' h.1 g.1)
  into_common b (each n f) h g = λ i l. into_common b (f i) (h i l) (g i l)
  into_common b (given k s f) h g = λ e. into_common b f (h e) (g e)
  into_common b (numeric s f) h g = λ e. into_common b f (h e) (g e)
  into_common b (when t f) h g = λ e. into_common b f (h e) (g e)
  into_common b (found r f) h g = λ m e. into_common b (f m) (h m e) (g m e)
  into_common b (handled r f) h g = λ m e. into_common b (f m) (h m e) (g m e)
  into_common b (unhandled r f) h g = λ e. into_common b f (h e) (g e)

  -- flows that hold of two claims hold of their common part
  pub common_holds : (f : Flows) → Holds c f → Holds d f → Holds (common c d) f
  common_holds f h g =
      goes_holds (common c d) f
      (into_common (common c d) f
      (goes_more c (common c d) c c common_left (λ s k e. e) f (holds_goes c f h))
      (goes_more d (common c d) d d common_right (λ s k e. e) f (holds_goes d f g)))

  common_rules : (rs : List Rule) → Every (λ r. Holds c r.flows) rs → Every (λ r. Holds d r.flows) rs
      → Every (λ r. Holds (common c d) r.flows) rs
  common_rules [] h g = tt
  common_rules (r ∷ rs) h g = (common_holds r.flows h.0 g.0, common_rules rs h.1 g.1)

  -- "The common part, mask by mask, of two accepted claims is likewise shown to be accepted"
  pub common_accepted : (p : Program) → verdict p c ≡ accepted → verdict p d ≡ accepted → verdict p (common c d) ≡ accepted
  common_accepted p a b =
      holds_accepted p (common c d)
      (rules_hold p (common c d)
      (λ m pc l k.
      common_rules (rules_at p m pc)
      (rules_at_lem p c (accepted_holds p c a) m pc l k)
      (rules_at_lem p d (accepted_holds p d b) m pc l k)))

-- ---- the least claim
-- there is at most one: two have the same bits
pub least_unique : (p : Program) (c d : Claim) → Least p c → Least p d → (s : Slot) (k : ℕ) → has (c s) k ≡ has (d s) k
least_unique p c d h g s k =
    same_test (has (c s) k) (has (d s) k) (h.below d g.accepting s k) (g.below c h.accepting s k)

-- by masks, as document 02 says it
pub least_subset : (p : Program) (c d : Claim) → Least p c → verdict p d ≡ accepted → (s : Slot) → subset (c s) (d s) ≡ true
least_subset p c d h e s = subset_all (c s) (d s) (h.below d e s)
