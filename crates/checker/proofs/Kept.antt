-- Demand 3 wherever `checking` is kept with a list of calls, so also of whatever is printed; and of the calls that stand in memory after
-- an answer of acceptance. Assumes nothing.
use mathlib.Core.Path.{◌≡◌, refl, sym, subst}
use mathlib.Core.Bool.{Bool, true, false}
use mathlib.Core.List.{List}
use Prim.Native.Nat.{ℕ, ◌*◌}
use lib.Dec.{ltb}
use lib.ListN.{length, drop}
use Rattle.text.proofs.Cases.{never}
use Rattle.instruction.specs.Word.{pick}
use Rattle.verdict.specs.declared.Verdict.{Verdict as Answer}
use Rattle.verdict.specs.declared.Verdict.TheVariants.{Accepted}
use Rattle.program.specs.Program.{Program}
use Rattle.reader.specs.Read.{Reading, refused, taken, read_program}
use Rattle.reader.proofs.WellFormed.{well_formed}
use Rattle.machine.specs.History.{Made}
use Rattle.flow.specs.Verdict.{Verdict, accepted, violated, verdict}
use Rattle.flow.specs.Calls.{call_list}
use Rattle.flow.specs.Covered.{Covered}
use Rattle.flow.proofs.Theorem.{covered}
use Rattle.slots.specs.Layout.{claim_in}
use Rattle.claim.specs.ReadClaim.{Reading as ClaimReading, refused as claim_refused, taken as claim_taken, read_claim}
use Rattle.calls.specs.Bytes.{calls_in}
use Rattle.calls.proofs.Bytes.{calls_back}
use Rattle.checker.specs.Check.{Checking, turned_down, short, broken, kept, decided, with_claim, with_program, checking}
use Rattle.checker.specs.Check.{answer_for, memory_after}
use Rattle.checker.specs.Coverage.{Coverage}

-- both texts are read, the verdict is accepted, and these are its calls
pub record Kept (program claim : List ℕ) (calls : List Made) : Type 0 where
  pub p : Program
  pub program_read : read_program program ≡ taken p
  pub masks : List ℕ
  pub claim_read : read_claim p claim ≡ claim_taken masks
  pub accepting : verdict p (claim_in masks) ≡ accepted
  pub listed : call_list p (claim_in masks) ≡ calls

module _ (program claim : List ℕ) (size : ℕ) (calls : List Made) where
  module _ (p : Program) (read : read_program program ≡ taken p) where
    module _ (masks : List ℕ) (claimed : read_claim p claim ≡ claim_taken masks) where
      by_verdict : (v : Verdict) → verdict p (claim_in masks) ≡ v → decided p (claim_in masks) v ≡ kept calls → Kept program claim calls
      by_verdict accepted a e =
          record { p = p; program_read = read; masks = masks; claim_read = claimed; accepting = a; listed = cc }
      by_verdict (violated n m pc) a e = never (cc)

      by_room : (b : Bool) → pick b short (decided p (claim_in masks) (verdict p (claim_in masks))) ≡ kept calls → Kept program claim calls
      by_room true e = never (cc)
      by_room false e = by_verdict (verdict p (claim_in masks)) refl e

    by_claim : (x : ClaimReading) → read_claim p claim ≡ x → with_claim p size x ≡ kept calls → Kept program claim calls
    by_claim (claim_refused number line) r e = never (cc)
    by_claim (claim_taken masks) r e = by_room masks r (ltb size 24576) e

  by_program : (x : Reading) → read_program program ≡ x → with_program claim size x ≡ kept calls → Kept program claim calls
  by_program (refused number line) r e = never (cc)
  by_program (taken p) r e = by_claim p r (read_claim p claim) refl e

  pub kept_texts : checking program claim size ≡ kept calls → Kept program claim calls
  unfolding checking
  kept_texts = by_program (read_program program) refl

  pub kept_covered : checking program claim size ≡ kept calls → Coverage program claim calls
  kept_covered e =
      let h = kept_texts e in
      let formed = well_formed program h.p h.program_read in
      record {
        p = h.p;
        program_read = h.program_read;
        masks = h.masks;
        claim_read = h.claim_read;
        covered = λ n.
            subst (λ (l : List Made). Covered h.p (claim_in h.masks) l n) h.listed
            (covered h.p (claim_in h.masks) formed h.accepting n);
      }

-- an answer of acceptance, and lent memory after it
module _ (program claim before after : List ℕ) (r : Answer) (k : ℕ) (accepting : r ≡ Accepted k) where
  by_answer : (x : Checking) → checking program claim (length before) ≡ x → r ≡ answer_for x → after ≡ memory_after x before
      → Coverage program claim (calls_in k after)
  by_answer (turned_down number line) e a m = never (cc)
  by_answer short e a m = never (cc)
  by_answer (broken rule method address) e a m = never (cc)
  by_answer (kept calls) e a m =
      let count : length calls ≡ k = cc in
      let held : calls_in k after ≡ calls = rw (m, sym count) (calls_back calls (drop (3 * length calls) before)) in
      rw held (kept_covered program claim (length before) calls e)

  pub accepted_covered : r ≡ answer_for (checking program claim (length before))
      → after ≡ memory_after (checking program claim (length before)) before
      → Coverage program claim (calls_in k after)
  accepted_covered = by_answer (checking program claim (length before)) refl
