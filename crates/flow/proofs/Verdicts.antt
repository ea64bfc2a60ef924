-- The verdict is accepted exactly where every rule holds; a violated verdict names the first broken rule. Assumes nothing.
use mathlib.Core.Path.{◌≡◌, refl, sym, subst}
use mathlib.Core.List.{List, [], ◌∷◌}
use Prim.Native.Nat.{ℕ, zero, suc, ◌<◌}
use native.Mathlib.Nat.{le_of_suc-le-suc}
use native.Mathlib.Omega.{arith}
use Rattle.text.proofs.Cases.{never}
use Rattle.program.specs.Program.{Program, method_count, code_length}
use Rattle.program.specs.Lists.{Every}
use Rattle.instruction.proofs.Flags.{pick_cases}
use Rattle.flow.specs.Claim.{Claim}
use Rattle.flow.specs.Flows.{Holds, kept}
use Rattle.flow.specs.Rules.{Rule, rules_at, RuleHolds, RulesHold}
use Rattle.flow.specs.Verdict.{Verdict, accepted, violated, or_else, first_of, verdict_of, verdict, Before, by_first, by_second, by_third, FirstBroken}
use Rattle.flow.proofs.Kept.{kept_holds, holds_kept}
use Rattle.flow.proofs.Rising.{Rising, rules_rising, below_least}

-- ---- the first verdict that is not accepted: of two, of k
or_else_cases : {P : Type 0} (v w : Verdict) (n m pc : ℕ) → or_else v w ≡ violated n m pc → (v ≡ violated n m pc → P)
    → (v ≡ accepted → w ≡ violated n m pc → P)
    → P
or_else_cases accepted w n m pc e first later = later refl e
or_else_cases (violated n' m' pc') w n m pc e first later = first e

or_else_left : (v w : Verdict) → or_else v w ≡ accepted → v ≡ accepted
or_else_left accepted w e = refl
or_else_left (violated n m pc) w e = e

or_else_right : (v w : Verdict) → or_else v w ≡ accepted → w ≡ accepted
or_else_right accepted w e = e
or_else_right (violated n m pc) w e = never (cc)

first_at : (k : ℕ) (g : ℕ → Verdict) → first_of k g ≡ accepted → (i : ℕ) → i < k → g i ≡ accepted
first_at zero g e i l = absurd (omega arith)
first_at (suc k) g e zero l = or_else_left (g zero) (first_of k (λ i. g (suc i))) e
first_at (suc k) g e (suc i) l =
    first_at k (λ i. g (suc i)) (or_else_right (g zero) (first_of k (λ i. g (suc i))) e) i (le_of_suc-le-suc l)

pub first_all : (k : ℕ) (g : ℕ → Verdict) → ((i : ℕ) → i < k → g i ≡ accepted) → first_of k g ≡ accepted
first_all zero g h = refl
first_all (suc k) g h = rw (h zero (omega arith)) (first_all k (λ i. g (suc i)) (λ i l. h (suc i) (omega arith)))

abbrev AcceptedBelow : (ℕ → Verdict) → ℕ → Type 0
AcceptedBelow g i = (j : ℕ) → j < i → g j ≡ accepted

one_more_lem : (g : ℕ → Verdict) (i : ℕ) → g zero ≡ accepted → AcceptedBelow (λ j. g (suc j)) i → AcceptedBelow g (suc i)
one_more_lem g i e h zero l = e
one_more_lem g i e h (suc j) l = h j (le_of_suc-le-suc l)

-- it is one of them, and those before it are accepted
first_violated : (k : ℕ) (g : ℕ → Verdict) (n m pc : ℕ) → first_of k g ≡ violated n m pc
    → (i : ℕ) × (i < k) × (g i ≡ violated n m pc) × AcceptedBelow g i
first_violated zero g n m pc e = never (cc)
first_violated (suc k) g n m pc e =
    or_else_cases (g zero) (first_of k (λ i. g (suc i))) n m pc e
    (λ first. (zero, omega arith, first, λ j l. absurd (omega arith)))
    (λ none later.
    let (i, l, this, before) = first_violated k (λ i. g (suc i)) n m pc later in
    (suc i, omega arith, this, one_more_lem g i none before))

-- ---- the rules of a list
abbrev AllHold : Claim → List Rule → Type 0
AllHold c rs = Every (λ r. Holds c r.flows) rs

-- those of one number
abbrev HoldAt : Claim → ℕ → List Rule → Type 0
HoldAt c n rs = Every (λ r. r.number ≡ n → Holds c r.flows) rs

all_hold : (c : Claim) (rs : List Rule) → ((n : ℕ) → HoldAt c n rs) → AllHold c rs
all_hold c [] h = tt
all_hold c (r ∷ rs) h = ((h r.number).0 refl, all_hold c rs (λ n. (h n).1))

hold_at : (c : Claim) (n : ℕ) (rs : List Rule) → AllHold c rs → HoldAt c n rs
hold_at c n [] h = tt
hold_at c n (r ∷ rs) h = (λ _. h.0, hold_at c n rs h.1)

module _ (c : Claim) (m pc : ℕ) where
  accepted_all : (rs : List Rule) → verdict_of c m pc rs ≡ accepted → AllHold c rs
  accepted_all [] e = tt
  accepted_all (r ∷ rs) e =
      pick_cases (λ v. v ≡ accepted → AllHold c (r ∷ rs)) (kept c r.flows) _ _
      (λ k e. (kept_holds c r.flows k, accepted_all rs e)) (λ k e. never (cc)) e

  all_accepted : (rs : List Rule) → AllHold c rs → verdict_of c m pc rs ≡ accepted
  all_accepted [] h = refl
  all_accepted (r ∷ rs) h = rw (holds_kept c r.flows h.0) (all_accepted rs h.1)

  -- rule n is broken, those of lower number hold, and this is the address
  record Named (rs : List Rule) (n m' pc' : ℕ) : Type 0 where
    method : m ≡ m'
    address : pc ≡ pc'
    broken : HoldAt c n rs → ⊥
    lower : (n' : ℕ) → n' < n → HoldAt c n' rs

  named : (least : ℕ) (rs : List Rule) → Rising least rs → (n m' pc' : ℕ) → verdict_of c m pc rs ≡ violated n m' pc' → Named rs n m' pc'
  named least [] h n m' pc' e = never (cc)
  named least (r ∷ rs) h n m' pc' e =
      pick_cases (λ v. v ≡ violated n m' pc' → Named (r ∷ rs) n m' pc') (kept c r.flows) _ _
      (λ k e.
      let rest = named (suc r.number) rs h.1 n m' pc' e in
      record {
        method = rest.method;
        address = rest.address;
        broken = λ all. rest.broken all.1;
        lower = λ n' l. (λ _. kept_holds c r.flows k, rest.lower n' l);
      })
      (λ k e.
      let number : r.number ≡ n = cc in
      record {
        method = cc;
        address = cc;
        broken = λ all. let holds = holds_kept c r.flows (all.0 number) in never (cc);
        lower = λ n' l. below_least (λ r. Holds c r.flows) r.number n' (omega arith) (r ∷ rs) (omega arith, h.1);
      })
      e

-- ---- the rules of a program
module _ (p : Program) (c : Claim) where
  abbrev at : ℕ → ℕ → Verdict
  at m pc = verdict_of c m pc (rules_at p m pc)

  abbrev in_method : ℕ → Verdict
  in_method m = first_of (code_length p m) (at m)

  address_holds : (m pc n : ℕ) → at m pc ≡ accepted → RuleHolds p c n m pc
  address_holds m pc n e = hold_at c n (rules_at p m pc) (accepted_all c m pc (rules_at p m pc) e)

  method_holds : (m : ℕ) → in_method m ≡ accepted → (pc n : ℕ) → pc < code_length p m → RuleHolds p c n m pc
  method_holds m e pc n l = address_holds m pc n (first_at (code_length p m) (at m) e pc l)

  pub accepted_holds : verdict p c ≡ accepted → RulesHold p c
  unfolding verdict
  accepted_holds e m pc n l k = method_holds m (first_at (method_count p) in_method e m l) pc n k

  -- the rules at an address, each at its own number
  pub rules_at_lem : RulesHold p c → (m pc : ℕ) → m < method_count p → pc < code_length p m → Every (λ r. Holds c r.flows) (rules_at p m pc)
  rules_at_lem h m pc l k = all_hold c (rules_at p m pc) (λ n. h m pc n l k)

  pub rules_hold : ((m pc : ℕ) → m < method_count p → pc < code_length p m → Every (λ r. Holds c r.flows) (rules_at p m pc)) → RulesHold p c
  rules_hold h m pc n l k = hold_at c n (rules_at p m pc) (h m pc l k)

  pub holds_accepted : RulesHold p c → verdict p c ≡ accepted
  unfolding verdict
  holds_accepted h =
      first_all (method_count p) in_method
      (λ m l. first_all (code_length p m) (at m) (λ pc k. all_accepted c m pc (rules_at p m pc) (rules_at_lem h m pc l k)))

  -- the rules before rule n at address pc of method m
  before_holds : (n m pc : ℕ) → AcceptedBelow in_method m → AcceptedBelow (at m) pc
      → ((i : ℕ) → i < n → RuleHolds p c i m pc)
      → (m' pc' n' : ℕ)
      → pc' < code_length p m'
      → Before m' pc' n' m pc n
      → RuleHolds p c n' m' pc'
  before_holds n m pc methods addresses lower m' pc' n' k (by_first l) = method_holds m' (methods m' l) pc' n' k
  before_holds n m pc methods addresses lower m' pc' n' k (by_second e l) =
      subst (λ i. RuleHolds p c n' i pc') (sym e) (address_holds m pc' n' (addresses pc' l))
  before_holds n m pc methods addresses lower m' pc' n' k (by_third e e' l) =
      subst (λ i. RuleHolds p c n' i pc') (sym e) (subst (λ j. RuleHolds p c n' m j) (sym e') (lower n' l))

  named_first : (n i j m pc : ℕ) → i < method_count p → j < code_length p i → AcceptedBelow in_method i → AcceptedBelow (at i) j
      → Named c i j (rules_at p i j) n m pc
      → FirstBroken p c n m pc
  named_first n i j m pc l k methods addresses h =
      rw (← h.method, ← h.address)
      (record {
        method = l;
        address = k;
        broken = h.broken;
        lower = λ m' pc' n' _. before_holds n i j methods addresses h.lower m' pc' n';
      })

  pub violated_first : (n m pc : ℕ) → verdict p c ≡ violated n m pc → FirstBroken p c n m pc
  unfolding verdict
  violated_first n m pc e =
      let (i, l, inside, methods) = first_violated (method_count p) in_method n m pc e in
      let (j, k, this, addresses) = first_violated (code_length p i) (at i) n m pc inside in
      named_first n i j m pc l k methods addresses (named c i j 0 (rules_at p i j) (rules_rising p i j) n m pc this)
