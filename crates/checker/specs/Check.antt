-- What the checker answers, and what lent memory holds afterwards. Definitions only.
use Rattle.std.specs.Prelude.{List, ◌++◌, ℕ, ◌*◌, ltb, length, drop}
use Rattle.instruction.specs.Word.{pick}
use Rattle.verdict.specs.declared.Verdict.{Verdict as Answer}
use Rattle.verdict.specs.declared.Verdict.TheVariants.{Accepted, Violated, Refused, Short}
use Rattle.verdict.specs.Numbers.{number_of, values_of}
use Rattle.program.specs.Program.{Program}
use Rattle.reader.specs.Read.{Reading, refused, taken, read_program}
use Rattle.machine.specs.History.{Made}
use Rattle.flow.specs.Claim.{Claim}
use Rattle.flow.specs.Verdict.{Verdict, accepted, violated, verdict}
use Rattle.flow.specs.Calls.{call_list}
use Rattle.slots.specs.Layout.{claim_in}
use Rattle.claim.specs.ReadClaim.{Reading as ClaimReading, refused as claim_refused, taken as claim_taken, read_claim}
use Rattle.calls.specs.Bytes.{call_bytes}

pub data Checking : Type 0 where
  turned_down : (number line : ℕ) → Checking
  short : Checking
  broken : (rule method address : ℕ) → Checking
  kept : (calls : List Made) → Checking

-- the flow rules decide
abbrev pub decided : Program → Claim → Verdict → Checking
decided p c accepted = kept (call_list p c)
decided p c (violated rule method address) = broken rule method address

-- "23: fewer than .. 24,576 bytes to the checker; untouched, after all of the above"
abbrev pub judged : Program → Claim → ℕ → Checking
judged p c size = pick (ltb size 24576) short (decided p c (verdict p c))

-- "Program first, then claim"
abbrev pub with_claim : Program → ℕ → ClaimReading → Checking
with_claim p size (claim_refused number line) = turned_down number line
with_claim p size (claim_taken masks) = judged p (claim_in masks) size

abbrev pub with_program : List ℕ → ℕ → Reading → Checking
with_program claim size (refused number line) = turned_down number line
with_program claim size (taken p) = with_claim p size (read_claim p claim)

-- what comes of a program's text and a claim's, where so many bytes of memory are lent
unfoldable pub checking : List ℕ → List ℕ → ℕ → Checking
checking program claim size = with_program claim size (read_program program)

-- the answer: "Acceptance gives its count of entries"
abbrev pub answer_for : Checking → Answer
answer_for (turned_down number line) = Refused number line
answer_for short = Short
answer_for (broken rule method address) = Violated rule method address
answer_for (kept calls) = Accepted (length calls)

-- its number and its values
abbrev pub checking_number : Checking → ℕ
checking_number x = number_of (answer_for x)

abbrev pub checking_values : Checking → List ℕ
checking_values x = values_of (answer_for x)

-- "Acceptance .. writes it, a byte a number, to the front of lent memory and nothing past it; a violated claim writes nothing";
-- a refusal "touches no lent memory"
abbrev pub memory_after : Checking → List ℕ → List ℕ
memory_after (turned_down number line) before = before
memory_after short before = before
memory_after (broken rule method address) before = before
memory_after (kept calls) before = call_bytes calls ++ drop (3 * length calls) before
