-- A claim that is raised at a broken rule has less room, so that raising ends; claims that rise one after another. Assumes nothing.
use mathlib.Core.Path.{◌≡◌}
use mathlib.Core.List.{List, [], ◌∷◌}
use Prim.Native.Nat.{ℕ, ◌<◌}
use native.Mathlib.Omega.{arith}
use native.Mathlib.Decide.{dec_lt}
use lib.ListN.{length}
use Rattle.text.proofs.Cases.{never}
use Rattle.program.specs.Lists.{Every}
use Rattle.program.specs.Program.{Program, method_count, code_length}
use Rattle.flow.specs.Claim.{Claim}
use Rattle.flow.specs.Flows.{Holds}
use Rattle.flow.specs.Rules.{Rule, rules_at}
use Rattle.flow.specs.Verdict.{violated, verdict}
use Rattle.flow.proofs.Verdicts.{accepted_holds, rules_at_lem, violated_first}
use Rattle.slots.specs.Layout.{claim_size, claim_in, no_masks}
use Rattle.claim.proofs.NoBits.{none_has}
use Rattle.order.specs.Order.{Below}
use Rattle.order.specs.Raised.{Raised, all_of}
use Rattle.order.proofs.Flowing.{goes_holds, goes_more}
use Rattle.order.proofs.Raising.{below_same}
use Rattle.fixpoint.specs.Risen.{Risen, Upward, room}
use Rattle.fixpoint.proofs.Room.{no_more}

-- ---- the rules of a list, one by one
all_rules : (c : Claim) (n : ℕ) (rs : List Rule) → Holds c (all_of rs) → Every (λ r. r.number ≡ n → Holds c r.flows) rs
all_rules c n [] h = tt
all_rules c n (r ∷ rs) h = (λ _. h.0, all_rules c n rs h.1)

-- ---- raised at a broken rule
module _ (p : Program) (n m pc : ℕ) (ws us : List ℕ) (size : length us ≡ claim_size) where
  abbrev c : Claim
  c = claim_in ws

  abbrev d : Claim
  d = claim_in us

  -- with no less room, no bit would be new, and the rule would hold
  pub risen_less : verdict p c ≡ violated n m pc → Risen p m pc c d → room d < room c
  risen_less e r = by (dec_lt (room d) (room c))
    where
      by : Dec (room d < room c) → room d < room c
      by (yes l) = l
      by (no l) =
          let rules = all_of (rules_at p m pc) in
          let back : Below d c = no_more ws us size r.grows (omega (arith, l)) in
          let holds = goes_holds c rules (goes_more c c d c (below_same c) back rules r.asked) in
          absurd ((violated_first p c n m pc e).broken (all_rules c n (rules_at p m pc) holds))

-- ---- the claim with no bit is below every claim
pub none_below : (e : Claim) → Below (claim_in no_masks) e
none_below e s k h = never (cc (none_has s k))

-- ---- rising, one after another
pub upward_same : (p : Program) (c : Claim) → Upward p c c
upward_same p c = record { grows = below_same c; under = λ e a b. b }

pub upward_then : (p : Program) (c d e : Claim) → Upward p c d → Upward p d e → Upward p c e
upward_then p c d e f g =
    record { grows = λ s k h. g.grows s k (f.grows s k h); under = λ x a b. g.under x a (f.under x a b) }

pub risen_upward : (p : Program) (m pc : ℕ) (c d : Claim) → Risen p m pc c d → Upward p c d
risen_upward p m pc c d r = record { grows = r.grows; under = r.under }

pub risen_then : (p : Program) (m pc : ℕ) (c d e : Claim) → Risen p m pc c d → Upward p d e → Risen p m pc c e
risen_then p m pc c d e r g =
    record {
      grows = λ s k h. g.grows s k (r.grows s k h);
      asked = goes_more c c d e (below_same c) g.grows (all_of (rules_at p m pc)) r.asked;
      under = λ x a b. g.under x a (r.under x a b);
    }

-- ---- raised by all rules of an address
all_hold : (e : Claim) (rs : List Rule) → Every (λ r. Holds e r.flows) rs → Holds e (all_of rs)
all_hold e [] h = λ i l. absurd (omega arith)
all_hold e (r ∷ rs) h = (h.0, all_hold e rs h.1)

pub raised_risen : (p : Program) (m pc : ℕ) (c d : Claim) → m < method_count p → pc < code_length p m → Raised (all_of (rules_at p m pc)) c d
    → Risen p m pc c d
raised_risen p m pc c d lm lp r =
    record {
      grows = r.grows;
      asked = r.asked;
      under = λ e a b. r.least e (all_hold e (rules_at p m pc) (rules_at_lem p e (accepted_holds p e a) m pc lm lp)) b;
    }
