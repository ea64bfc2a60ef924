-- Demand 3, of a program's text, a claim's text and a list of calls; and what `check` promises. Definitions only.
use Rattle.std.specs.Prelude.{◌≡◌, List, ℕ, length}
use Rattle.verdict.specs.declared.Verdict.{Verdict}
use Rattle.verdict.specs.declared.Verdict.TheVariants.{Accepted}
use Rattle.program.specs.Program.{Program}
use Rattle.reader.specs.Read.{taken, read_program}
use Rattle.machine.specs.History.{Made}
use Rattle.flow.specs.Covered.{Covered}
use Rattle.slots.specs.Layout.{claim_in}
use Rattle.claim.specs.ReadClaim.{taken as claim_taken, read_claim}
use Rattle.calls.specs.Bytes.{calls_in}
use Rattle.checker.specs.Check.{checking, answer_for, memory_after}

-- the texts are read, and after every number of steps the run of the program stays inside the claim's masks and the list
pub record Coverage (program claim : List ℕ) (calls : List Made) : Type 0 where
  pub p : Program
  pub program_read : read_program program ≡ taken p
  pub masks : List ℕ
  pub claim_read : read_claim p claim ≡ claim_taken masks
  pub covered : (n : ℕ) → Covered p (claim_in masks) calls n

-- the clauses `verdict`, `memory` and `coverage` of `check`, at two texts, lent memory before and after, and an answer: "a claim is
-- accepted when the checker's own call answers so, and the call list is the one that call wrote"
pub record Promised (program claim before after : List ℕ) (r : Verdict) : Type 0 where
  pub verdict_clause : r ≡ answer_for (checking program claim (length before))
  pub memory_clause : after ≡ memory_after (checking program claim (length before)) before
  pub coverage_clause : (k : ℕ) → r ≡ Accepted k → Coverage program claim (calls_in k after)
