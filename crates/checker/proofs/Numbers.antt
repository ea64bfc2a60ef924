-- Numbers that a caller of the checker sees: 34 is that of acceptance alone, since refusals are numbered up to 13. Assumes nothing.
use mathlib.Core.Path.{◌≡◌}
use mathlib.Core.List.{List, [], ◌∷◌}
use Prim.Native.Nat.{ℕ, ◌≤◌}
use native.Mathlib.Omega.{arith}
use lib.Dec.{ltb}
use Rattle.instruction.proofs.Flags.{pick_cases}
use Rattle.verdict.specs.declared.Verdict.TheVariants.{Accepted}
use Rattle.verdict.specs.Numbers.{number_of, values_of}
use Rattle.program.specs.Program.{Program}
use Rattle.reader.specs.Read.{Reading, refused, taken, read_program}
use Rattle.reader.proofs.Numbers.{Numbered as ReadNumbered, numbered as read-numbered}
use Rattle.flow.specs.Claim.{Claim}
use Rattle.flow.specs.Verdict.{Verdict, accepted, violated, verdict}
use Rattle.slots.specs.Layout.{claim_in}
use Rattle.claim.specs.ReadClaim.{Reading as ClaimReading, refused as claim_refused, taken as claim_taken, read_claim}
use Rattle.claim.proofs.Numbers.{Numbered as ClaimNumbered, numbered as claim-numbered}
use Rattle.checker.specs.Check.{Checking, turned_down, short, broken, kept, decided, with_claim, with_program, checking, answer_for, checking_number, checking_values}

-- refusals are numbered up to 13
abbrev Numbered : Checking → Type 0
Numbered (turned_down number line) = number ≤ 13
Numbered short = Unit {0}
Numbered (broken rule method address) = Unit {0}
Numbered (kept calls) = Unit {0}

decided_numbered : (p : Program) (c : Claim) (v : Verdict) → Numbered (decided p c v)
decided_numbered p c accepted = tt
decided_numbered p c (violated rule method address) = tt

with_claim_numbered : (p : Program) (size : ℕ) (x : ClaimReading) → ClaimNumbered x → Numbered (with_claim p size x)
with_claim_numbered p size (claim_refused number line) h = h.1
with_claim_numbered p size (claim_taken masks) h =
    pick_cases Numbered (ltb size 24576) short _ (λ _. tt) (λ _. decided_numbered p (claim_in masks) (verdict p (claim_in masks)))

with_program_numbered : (claim : List ℕ) (size : ℕ) (x : Reading) → ReadNumbered x → Numbered (with_program claim size x)
with_program_numbered claim size (refused number line) h = omega (arith, h.1)
with_program_numbered claim size (taken p) h = with_claim_numbered p size (read_claim p claim) (claim-numbered p claim)

numbered : (program claim : List ℕ) (size : ℕ) → Numbered (checking program claim size)
unfolding checking
numbered program claim size = with_program_numbered claim size (read_program program) (read-numbered program)

-- number and values of acceptance: it is accepted
accepted_is : (x : Checking) → Numbered x → (k : ℕ) → checking_number x ≡ 34 → checking_values x ≡ k ∷ [] → answer_for x ≡ Accepted k
accepted_is (turned_down number line) h k e v = absurd (omega (arith, h, e))
accepted_is short h k e v = absurd (omega (arith, e))
accepted_is (broken rule method address) h k e v = absurd (omega (arith, e))
accepted_is (kept calls) h k e v = cc

pub accepted_by : (program claim : List ℕ) (size k : ℕ) → checking_number (checking program claim size) ≡ number_of (Accepted k)
    → checking_values (checking program claim size) ≡ values_of (Accepted k) → answer_for (checking program claim size) ≡ Accepted k
accepted_by program claim size k = accepted_is (checking program claim size) (numbered program claim size) k
