-- The verdict on a list of rules by its first broken one, the first verdict of several, and a verdict by its rule and place. Assumes
-- nothing.
use Rattle.std.specs.Prelude.{Option, None, Some}
use mathlib.Core.Path.{◌≡◌, refl, sym, ap, ◌∙◌}
use mathlib.Core.List.{List, [], ◌∷◌}
use Prim.Native.Nat.{ℕ, zero, suc, ◌<◌}
use native.Mathlib.Omega.{arith}
use Rattle.text.proofs.Cases.{by_test, never}
use Rattle.program.specs.Program.{Program}
use Rattle.flow.specs.Claim.{Claim}
use Rattle.flow.specs.Flows.{kept}
use Rattle.flow.specs.Rules.{Rule, rules_at}
use Rattle.flow.specs.Verdict.{Verdict, accepted, violated, first_of, verdict_of, verdict}
use Rattle.flow.proofs.Verdicts.{first_all}
use Rattle.rules.specs.declared.Broken.{Broken}
use Rattle.rules.specs.Broken.{broken_in, address_verdict, broken_of}

-- the verdict that a rule's number says
abbrev pub saying : Option ℕ → ℕ → ℕ → Verdict
saying None m pc = accepted
saying (Some n) m pc = violated n m pc

says_broken : (c : Claim) (m pc : ℕ) (rs : List Rule) → verdict_of c m pc rs ≡ saying (broken_in c rs) m pc
says_broken c m pc [] = refl
says_broken c m pc (r ∷ rs) =
    by_test (kept c r.flows) (λ t. rw t (says_broken c m pc rs)) (λ f. rw f)

-- at an address
pub address_says : (p : Program) (c : Claim) (m pc : ℕ)
    → address_verdict p c m pc ≡ saying (broken_in c (rules_at p m pc)) m pc
address_says p c m pc = says_broken c m pc (rules_at p m pc)

-- ---- a verdict by its rule and place
pub is_accepted : (v : Verdict) → None ≡ broken_of v → v ≡ accepted
is_accepted accepted e = refl
is_accepted (violated n m pc) e = never (cc)

pub is_violated : (v : Verdict) (b : Broken) → Some b ≡ broken_of v → v ≡ violated b.rule b.method b.address
is_violated accepted b e = never (cc)
is_violated (violated n m pc) b e =
    let same : b ≡ record { rule = n; method = m; address = pc } = cc in
    rw same

-- the verdict that an answer says
abbrev pub said_by : Option Broken → Verdict
said_by None = accepted
said_by (Some b) = violated b.rule b.method b.address

module _ (p : Program) (c : Claim) where
  pub verdict_said : (b : Option Broken) → b ≡ broken_of (verdict p c) → verdict p c ≡ said_by b
  verdict_said None e = is_accepted (verdict p c) e
  verdict_said (Some b) e = is_violated (verdict p c) b e

-- ---- the first of several verdicts
-- one that is not accepted, where all before it are
first_here : (n : ℕ) (g : ℕ → Verdict) (i r m pc : ℕ) → i < n → ((k : ℕ) → k < i → g k ≡ accepted) → g i ≡ violated r m pc
    → first_of n g ≡ violated r m pc
first_here zero g i r m pc l h e = absurd (omega arith)
first_here (suc n) g zero r m pc l h e = rw e
first_here (suc n) g (suc i) r m pc l h e =
    rw (h zero (omega arith)) (first_here n (λ j. g (suc j)) i r m pc (omega arith) (λ k less. h (suc k) (omega arith)) e)

module _ (n : ℕ) (g : ℕ → Verdict) where
  pub none_broken : ((k : ℕ) → k < n → g k ≡ accepted) → None ≡ broken_of (first_of n g)
  none_broken h = ap broken_of (sym (first_all n g h))

  pub broken_there : (i : ℕ) (b : Broken) → i < n → ((k : ℕ) → k < i → g k ≡ accepted) → Some b ≡ broken_of (g i)
      → Some b ≡ broken_of (first_of n g)
  broken_there i b l h e =
      let here = is_violated (g i) b e in
      e ∙ ap broken_of (here ∙ sym (first_here n g i b.rule b.method b.address l h here))
