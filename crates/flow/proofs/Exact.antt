-- The verdict names a rule exactly where it is the first broken one. Assumes nothing.
use mathlib.Core.Path.{◌≡◌, refl}
use Prim.Native.Nat.{ℕ, ◌<◌}
use native.Mathlib.Omega.{arith}
use lib.Dec.{ltb}
use borrow.Author.Tests.{ltb-true, ltb-false}
use Rattle.text.proofs.Cases.{by_test}
use Rattle.program.specs.Program.{Program}
use Rattle.flow.specs.Claim.{Claim}
use Rattle.flow.specs.Verdict.{Verdict, accepted, violated, verdict, Before, by_first, by_second, by_third, FirstBroken}
use Rattle.flow.proofs.Verdicts.{accepted_holds, violated_first}

-- one number is less, greater or the same
compared : {P : Type 0} (a b : ℕ) → (a < b → P) → (b < a → P) → (a ≡ b → P) → P
compared a b less more same =
    by_test (ltb a b) (λ t. less (ltb-true a b t))
    (λ t.
    by_test (ltb b a) (λ u. more (ltb-true b a u))
    (λ u. same (omega (arith, ltb-false a b t, ltb-false b a u))))

-- of three numbers and three others, one comes before, or they are the same
ordered : {P : Type 0} (m pc n m' pc' n' : ℕ) → (Before m pc n m' pc' n' → P) → (Before m' pc' n' m pc n → P)
    → (m ≡ m' → pc ≡ pc' → n ≡ n' → P) → P
ordered m pc n m' pc' n' before after same =
    compared m m' (λ l. before (by_first l)) (λ l. after (by_first l))
    (λ e.
    compared pc pc' (λ l. before (by_second e l)) (λ l. after (by_second (cc) l))
    (λ f. compared n n' (λ l. before (by_third e f l)) (λ l. after (by_third (cc) (cc) l)) (same e f)))

module _ (p : Program) (c : Claim) (n m pc : ℕ) (first : FirstBroken p c n m pc) where
  is_violated : (v : Verdict) → verdict p c ≡ v → v ≡ violated n m pc
  is_violated accepted e = absurd (first.broken (accepted_holds p c e m pc n first.method first.address))
  is_violated (violated n' m' pc') e =
      let other = violated_first p c n' m' pc' e in
      ordered m pc n m' pc' n'
      (λ before. absurd (first.broken (other.lower m pc n first.method first.address before)))
      (λ after. absurd (other.broken (first.lower m' pc' n' other.method other.address after)))
      (λ e f g. cc)

  pub first_violated : verdict p c ≡ violated n m pc
  first_violated = is_violated (verdict p c) refl
