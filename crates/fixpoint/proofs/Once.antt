-- Words with all that is asked of them have risen, by the rules of every address. Assumes nothing.
use mathlib.Core.Path.{◌≡◌, refl, sym, ap, ◌∙◌}
use mathlib.Core.Bool.{Bool, true, ◌||◌}
use mathlib.Core.List.{List, [], ◌∷◌}
use Prim.Native.Nat.{ℕ, ◌<◌}
use native.Mathlib.Omega.{arith}
use lib.ListN.{length, get_or}
use Rattle.text.proofs.Cases.{by_test, never}
use Rattle.instruction.proofs.Flags.{or_right}
use Rattle.mask.specs.declared.Mask.{Mask}
use Rattle.mask.specs.Mask.{has}
use Rattle.mask.proofs.Laws.{has_less}
use Rattle.mask.proofs.Sets.{where_has}
use Rattle.program.specs.Lists.{Every}
use Rattle.program.proofs.Lists.{length_tab, getD_tab}
use Rattle.program.specs.Program.{Program, method_count, code_length}
use Rattle.reader.specs.Formed.{Formed}
use Rattle.flow.specs.Claim.{Slot, Claim}
use Rattle.flow.specs.Flows.{Flows, ◌∈◌, ◌⊆◌, ◌&◌, each, given, numeric, when, found, handled, unhandled, Holds, some}
use Rattle.flow.specs.Rules.{Rule, rules_at}
use Rattle.flow.specs.Verdict.{accepted, verdict}
use Rattle.flow.proofs.Callees.{some_at, some_one}
use Rattle.flow.proofs.Verdicts.{accepted_holds, rules_at_lem}
use Rattle.slots.specs.Layout.{claim_size, place_of, mask_of, mask_at, claim_in}
use Rattle.claim.specs.Allowed.{full_claim}
use Rattle.claim.proofs.FullClaim.{full_accepted}
use Rattle.claim.proofs.NoBits.{bit_inside}
use Rattle.order.specs.Order.{Below}
use Rattle.order.specs.Raised.{Goes, all_of}
use Rattle.order.specs.Own.{Own, Targets}
use Rattle.order.proofs.Targets.{rules_own}
use Rattle.raise.proofs.Places.{own_inside}
use Rattle.fixpoint.specs.Risen.{Risen}
use Rattle.fixpoint.specs.LeastOf.{asks, rules_ask, program_asks, raised_word, raised_to, once_raised}
use Rattle.fixpoint.proofs.Asked.{or_left, Inside, asked_goes, holds_asked}

targets_more : (P Q : Slot → Type 0) → ((s : Slot) → P s → Q s) → (f : Flows) → Targets P f → Targets Q f
targets_more P Q g (k ∈ s) h = g s h
targets_more P Q g (s ⊆ t) h = g t h
targets_more P Q g (f & f') h = (targets_more P Q g f h.0, targets_more P Q g f' h.1)
targets_more P Q g (each n f) h = λ i l. targets_more P Q g (f i) (h i l)
targets_more P Q g (given k s f) h = targets_more P Q g f h
targets_more P Q g (numeric s f) h = targets_more P Q g f h
targets_more P Q g (when t f) h = λ e. targets_more P Q g f (h e)
targets_more P Q g (found r f) h = λ m e. targets_more P Q g (f m) (h m e)
targets_more P Q g (handled r f) h = λ m e. targets_more P Q g (f m) (h m e)
targets_more P Q g (unhandled r f) h = λ e. targets_more P Q g f (h e)

-- ---- the rules of a list
rules_goes : (c d : Claim) (rs : List Rule) → Every (λ r. Targets Inside r.flows) rs
    → ((s : Slot) (k : ℕ) → Inside s → rules_ask c rs (place_of s) k ≡ true → has (d s) k ≡ true) → Goes c d (all_of rs)
rules_goes c d [] o h = λ i l. absurd (omega arith)
rules_goes c d (r ∷ rs) o h = (
  asked_goes c d r.flows o.0 (λ s k l e. h s k l (or_left (asks c r.flows (place_of s) k) (rules_ask c rs (place_of s) k) e)),
  rules_goes c d rs o.1 (λ s k l e. h s k l (or_right (asks c r.flows (place_of s) k) (rules_ask c rs (place_of s) k) e)),
)

rules_asked : (c e : Claim) → Below c e → (s : Slot) (k : ℕ) → Inside s → (rs : List Rule) → Every (λ r. Holds e r.flows) rs
    → rules_ask c rs (place_of s) k ≡ true → has (e s) k ≡ true
rules_asked c e below s k l [] h q = never (cc)
rules_asked c e below s k l (r ∷ rs) h q =
    by_test (asks c r.flows (place_of s) k)
    (holds_asked c e below s k l r.flows h.0)
    (λ t. rules_asked c e below s k l rs h.1 (rw t at q))

every_inside : (p : Program) → Formed p → (rs : List Rule) → Every (λ r. Targets (Own p) r.flows) rs
    → Every (λ r. Targets Inside r.flows) rs
every_inside p formed [] h = tt
every_inside p formed (r ∷ rs) h = (targets_more (Own p) Inside (own_inside p formed) r.flows h.0, every_inside p formed rs h.1)

-- ---- any number of words: at a literal one, `tab` would be computed
raised_size : (n : ℕ) (p : Program) (ws : List ℕ) → length (raised_to n p ws) ≡ n
unfolding raised_to
raised_size n p ws = length_tab n (raised_word p ws)

raised_word_lem : (n : ℕ) (p : Program) (ws : List ℕ) (i : ℕ) → i < n → get_or (raised_to n p ws) i 0 ≡ raised_word p ws i
unfolding raised_to
raised_word_lem n p ws i l = getD_tab n (raised_word p ws) i 0 l

word_has : (p : Program) (ws : List ℕ) (i k : ℕ) → k < 64
    → has (mask_of (raised_word p ws i)) k ≡ has (mask_at ws i) k || program_asks p (claim_in ws) i k
unfolding raised_word
word_has p ws i k less = where_has (λ k. has (mask_at ws i) k || program_asks p (claim_in ws) i k) k less

module _ (p : Program) (formed : Formed p) where
  -- ---- once
  pub once_size : (ws : List ℕ) → length (once_raised p ws) ≡ claim_size
  once_size ws = raised_size claim_size p ws

  module _ (ws : List ℕ) (size : length ws ≡ claim_size) where
    abbrev us : List ℕ
    us = once_raised p ws

    claim_at : (vs : List ℕ) (s : Slot) → claim_in vs s ≡ mask_of (get_or vs (place_of s) 0)
    unfolding claim_in
    claim_at vs s = refl

    bit_at : (s : Slot) (k : ℕ) → Inside s → k < 64
        → has (claim_in us s) k ≡ has (claim_in ws s) k || program_asks p (claim_in ws) (place_of s) k
    bit_at s k l less =
        ap (λ (x : Mask). has x k) (claim_at us s ∙ ap mask_of (raised_word_lem claim_size p ws (place_of s) l))
        ∙ word_has p ws (place_of s) k less
        ∙ ap (λ (x : Mask). has x k || program_asks p (claim_in ws) (place_of s) k) (sym (claim_at ws s))

    once_grows : Below (claim_in ws) (claim_in us)
    once_grows s k e =
        bit_at s k (bit_inside ws size s k e) (has_less (claim_in ws s) k e)
        ∙ or_left (has (claim_in ws s) k) (program_asks p (claim_in ws) (place_of s) k) e

    -- a rule that asks, as a test of its address; as one of its method
    abbrev asked_at : Slot → ℕ → ℕ → ℕ → Bool
    asked_at s k m pc = rules_ask (claim_in ws) (rules_at p m pc) (place_of s) k

    abbrev asked_in : Slot → ℕ → ℕ → Bool
    asked_in s k m = some (code_length p m) (asked_at s k m)

    less_64 : (s : Slot) (k m pc : ℕ) → Inside s → m < method_count p → pc < code_length p m → k < 64
        → asked_at s k m pc ≡ true → has (claim_in us s) k ≡ true
    unfolding program_asks
    less_64 s k m pc l lm lp less e =
        bit_at s k l less
        ∙ or_right (has (claim_in ws s) k) _
        (some_at (method_count p) (asked_in s k) m lm (some_at (code_length p m) (asked_at s k m) pc lp e))

    pub once_under : (e : Claim) → verdict p e ≡ accepted → Below (claim_in ws) e → Below (claim_in us) e
    unfolding program_asks
    once_under e a b s k h =
        let l = bit_inside us (once_size ws) s k h in
        let either = sym (bit_at s k l (has_less (claim_in us s) k h)) ∙ h in
        by_test (has (claim_in ws s) k)
        (b s k)
        (λ t.
        let (m, lm, in-method) = some_one (method_count p) (asked_in s k) (rw t at either) in
        let (pc, lp, asked) = some_one (code_length p m) (asked_at s k m) in-method in
        rules_asked (claim_in ws) e b s k l (rules_at p m pc) (rules_at_lem p e (accepted_holds p e a) m pc lm lp) asked)

    -- a bit that is asked for is one of 64: the claim with all allowed bits is accepted
    asked_less : Below (claim_in ws) (full_claim p) → (s : Slot) (k m pc : ℕ) → Inside s → m < method_count p → pc < code_length p m
        → asked_at s k m pc ≡ true → k < 64
    asked_less b s k m pc l lm lp e =
        has_less (full_claim p s) k
        (rules_asked (claim_in ws) (full_claim p) b s k l (rules_at p m pc)
        (rules_at_lem p (full_claim p) (accepted_holds p (full_claim p) (full_accepted p formed)) m pc lm lp) e)

    pub once_risen : Below (claim_in ws) (full_claim p) → (m pc : ℕ) → m < method_count p → pc < code_length p m
        → Risen p m pc (claim_in ws) (claim_in us)
    once_risen b m pc lm lp =
        record {
          grows = once_grows;
          asked = rules_goes (claim_in ws) (claim_in us) (rules_at p m pc)
              (every_inside p formed (rules_at p m pc) (rules_own p formed m lm pc lp))
              (λ s k l e. less_64 s k m pc l lm lp (asked_less b s k m pc l lm lp e) e);
          under = once_under;
        }
