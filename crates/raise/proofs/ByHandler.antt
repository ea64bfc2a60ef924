-- Rules 9 and 10 met for a set of classes, handler by handler in the order of the text: each takes those that it catches of the rest,
-- and what is left goes into the method's mask. Assumes nothing.
use mathlib.Core.Path.{◌≡◌, sym, ◌∙◌}
use mathlib.Core.Bool.{true, false, ◌&&◌}
use Prim.Native.Nat.{ℕ, ◌+◌, ◌<◌}
use lib.Dec.{ltb}
use Rattle.std.specs.Prelude.{Some}
use Rattle.text.proofs.Cases.{by_test, never}
use Rattle.mask.specs.declared.Mask.{Mask}
use Rattle.mask.specs.Mask.{has}
use Rattle.mask.proofs.Laws.{has_less}
use Rattle.program.specs.Program.{Program, class_count, handler_count, handler_target}
use Rattle.search.specs.Search.{catches, handler_for}
use Rattle.flow.specs.Claim.{result_at, leaving, Claim}
use Rattle.flow.specs.Flows.{Flows, ◌∈◌, ◌&◌, Holds}
use Rattle.flow.specs.Rules.{carried, into_handler, into_leaving}
use Rattle.sets.proofs.Handlers.{same_classes, passed, none_yet, Rest, uncaught, is_taken_lem, taken_now, in_rest, rest_uncaught}
use Rattle.order.specs.Order.{Below}
use Rattle.order.specs.Raised.{Goes, Raised, Joined}
use Rattle.order.proofs.Flowing.{goes_more}
use Rattle.order.proofs.Raising.{below_same, below_then}
use Rattle.raise.specs.Inside.{raised_flows, taken_into}

module _ (p : Program) (m pc : ℕ) (mask : Mask) where
  -- what rule 9 asks for class k at the target of handler i
  abbrev into : ℕ → ℕ → Flows
  into i k = carried p m pc (handler_target p m i) & k ∈ result_at m (handler_target p m i)

  -- ---- the claim so far: met for the classes that a handler from number h on catches
  pub record Partial (h : ℕ) (c d : Claim) : Type 0 where
    pub grows : Below c d
    pub asked : (k : ℕ) → k < class_count p → has mask k ≡ true → passed p m pc h k ≡ false
        → (i : ℕ) × (handler_for p m pc k ≡ Some i) × Goes c d (into i k)
    pub least : (e : Claim) → Holds e (raised_flows p m pc mask) → Below c e → Below d e

  pub partial_start : (c : Claim) → Partial (handler_count p m) c c
  partial_start c =
      record {
        grows = below_same c;
        asked = λ k l t f. let z = none_yet p m pc k in never (cc);
        least = λ e h b. b;
      }

  -- ---- one handler more
  module _ (h : ℕ) (l : h < handler_count p m) (rest taken : Mask) (so_far : Rest p m pc mask (h + 1) rest)
      (bits : (k : ℕ) → has taken k ≡ has rest k && (ltb k (class_count p) && catches p m pc k h))
      (c d e : Claim) (so : Partial (h + 1) c d) (r : Raised (taken_into p m pc (handler_target p m h) taken) d e) where
    more_asked : (k : ℕ) → k < class_count p → has mask k ≡ true → passed p m pc h k ≡ false
        → (i : ℕ) × (handler_for p m pc k ≡ Some i) × Goes c e (into i k)
    more_asked k less t f =
        by_test (passed p m pc (h + 1) k)
        (λ before.
        let (took, handler) = taken_now p m pc mask h l rest taken so_far bits k less t before f in
        let go = r.asked k (has_less taken k took) took in
        (h, handler, goes_more d c e e so.grows (below_same e) (into h k) go))
        (λ before.
        let (i, handler, go) = so.asked k less t before in
        (i, handler, goes_more c c d e (below_same c) r.grows (into i k) go))

    more_least : (x : Claim) → Holds x (raised_flows p m pc mask) → Below c x → Below e x
    more_least x holds b =
        r.least x
        (λ k lk t.
        let is = is_taken_lem p m pc mask h l rest taken so_far bits k t in
        holds.0 k is.within is.in_mask h is.handler)
        (so.least x holds b)

    pub partial_more : Partial h c e
    partial_more = record { grows = below_then c d e so.grows r.grows; asked = more_asked; least = more_least }

  -- ---- all handlers, then the method's own mask
  module _ (rest : Mask) (left : Rest p m pc mask 0 rest) (c d e : Claim) (so : Partial 0 c d)
      (j : Joined (leaving m) rest d e) where
    handled_asked : (k : ℕ) → k < class_count p → has mask k ≡ true → Goes c e (into_handler p m pc k)
    handled_asked k l t h f =
        by_test (passed p m pc 0 k)
        (λ z. let u = uncaught p m pc k z in never (cc))
        (λ z.
        let (i, g, go) = so.asked k l t z in
        let same : i ≡ h = cc in
        rw (← same) (goes_more c c d e (below_same c) j.grows (into i k) go))

    leaving_asked : (k : ℕ) → k < class_count p → has mask k ≡ true → Goes c e (into_leaving p m pc k)
    leaving_asked k l t u =
        by_test (passed p m pc 0 k)
        (λ z. j.has_it k (in_rest p m pc mask rest left k l t z))
        (λ z. let (i, g, go) = so.asked k l t z in never (cc))

    rest_into : (x : Claim) → Holds x (raised_flows p m pc mask) → (k : ℕ) → has rest k ≡ true → has (x (leaving m)) k ≡ true
    rest_into x holds k r =
        let (l, t, none) = rest_uncaught p m pc mask rest left k r in
        holds.1 k l t none

    pub partial_end : Raised (raised_flows p m pc mask) c e
    partial_end =
        record {
          grows = below_then c d e so.grows j.grows;
          asked = (handled_asked, leaving_asked);
          least = λ x holds b. j.least x (rest_into x holds) (so.least x holds b);
        }

-- ---- the classes of the program in a mask, for the mask
module _ (p : Program) (m pc : ℕ) (mask rest classes : Mask) (bits : (k : ℕ) → has rest k ≡ has mask k && has classes k)
    (all : (k : ℕ) → has classes k ≡ ltb k (class_count p)) where
  same : (k : ℕ) → k < class_count p → has rest k ≡ has mask k
  same = same_classes p mask rest classes bits all

  pub for_mask : (c d : Claim) → Raised (raised_flows p m pc rest) c d → Raised (raised_flows p m pc mask) c d
  for_mask c d r =
      record {
        grows = r.grows;
        asked = (λ k l t. r.asked.0 k l (same k l ∙ t), λ k l t. r.asked.1 k l (same k l ∙ t));
        least = λ e h b. r.least e (λ k l t. h.0 k l (sym (same k l) ∙ t), λ k l t. h.1 k l (sym (same k l) ∙ t)) b;
      }
