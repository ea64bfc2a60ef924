-- The verdict on a claim: accepted, or the first broken rule. Definitions only.
use Rattle.std.specs.Prelude.{◌≡◌, List, [], ◌∷◌, ℕ, zero, suc, ◌<◌}
use Rattle.instruction.specs.Word.{pick}
use Rattle.program.specs.Program.{Program, method_count, code_length}
use Rattle.flow.specs.Claim.{Claim}
use Rattle.flow.specs.Flows.{kept}
use Rattle.flow.specs.Rules.{Rule, rules_at, RuleHolds}

pub data Verdict : Type 0 where
  accepted : Verdict
  violated : (rule method address : ℕ) → Verdict

-- the first verdict that is not accepted
abbrev pub or_else : Verdict → Verdict → Verdict
or_else accepted later = later
or_else (violated n m pc) later = violated n m pc

abbrev pub first_of : ℕ → (ℕ → Verdict) → Verdict
first_of zero g = accepted
first_of (suc n) g = or_else (g zero) (first_of n (λ i. g (suc i)))

-- the first broken rule of those at address pc of method m
abbrev pub verdict_of : Claim → ℕ → ℕ → List Rule → Verdict
verdict_of c m pc [] = accepted
verdict_of c m pc (r ∷ rs) = pick (kept c r.flows) (verdict_of c m pc rs) (violated r.number m pc)

-- "A broken rule is reported by lowest method, address, rule"
unfoldable pub verdict : Program → Claim → Verdict
verdict p c = first_of (method_count p) (λ m. first_of (code_length p m) (λ pc. verdict_of c m pc (rules_at p m pc)))

-- three numbers come before three others, where the first counts most
pub data Before (m pc n m' pc' n' : ℕ) : Type 0 where
  by_first : m < m' → Before m pc n m' pc' n'
  by_second : m ≡ m' → pc < pc' → Before m pc n m' pc' n'
  by_third : m ≡ m' → pc ≡ pc' → n < n' → Before m pc n m' pc' n'

-- what a violated verdict says: rule n is broken at address pc of method m, and all rules before it hold
pub record FirstBroken (p : Program) (c : Claim) (n m pc : ℕ) : Type 0 where
  pub method : m < method_count p
  pub address : pc < code_length p m
  pub broken : RuleHolds p c n m pc → ⊥
  pub lower : (m' pc' n' : ℕ) → m' < method_count p → pc' < code_length p m' → Before m' pc' n' m pc n
      → RuleHolds p c n' m' pc'
