-- What `check` and its inner functions answer, from what the readers and the rules did. Assumes nothing.
use Rattle.std.specs.Prelude.{⊤, None, Some, Result, Ok, Err}
use mathlib.Core.Path.{◌≡◌, refl, ap, ◌∙◌}
use mathlib.Core.List.{List, [], ◌∷◌}
use Prim.Native.Nat.{ℕ, ◌≤◌, ◌<◌}
use native.Mathlib.Omega.{arith}
use lib.ListN.{length}
use borrow.Author.Tests.{lt-ltb, le-ltb}
use Rattle.verdict.specs.declared.Verdict.{Verdict}
use Rattle.verdict.specs.declared.Verdict.TheVariants.{Accepted, Violated, Refused, Short}
use Rattle.program.specs.Program.{Program}
use Rattle.program.specs.Tables.{Limited, tables_of, program_in}
use Rattle.program.proofs.Tables.{program_of_tables}
use Rattle.reader.specs.declared.Refusal.{Refusal}
use Rattle.reader.specs.Read.{read_program, reading_number, reading_values, tables_after, refusal_number, refusal_line}
use Rattle.reader.proofs.Answers.{refused_is, found_program}
use Rattle.reader.proofs.WellFormed.{well_formed}
use Rattle.flow.specs.Claim.{Claim}
use Rattle.flow.specs.Verdict.{verdict}
use Rattle.flow.specs.Calls.{call_list}
use Rattle.claim.specs.declared.Refusal.{Refusal as ClaimRefusal}
use Rattle.claim.specs.ReadClaim.{Reading as ClaimReading, read_claim, reading_number as claim_number, reading_values as claim_values, number_of as answer_number, values_of as answer_values, line_of as answer_line}
use Rattle.claim.proofs.Answers.{refused_is as claim-refused-is}
use Rattle.rules.specs.declared.Broken.{Broken}
use Rattle.rules.specs.Broken.{broken_of}
use Rattle.rules.proofs.Numbers.{is_accepted, is_violated}
use Rattle.calls.specs.Bytes.{put_calls}
use Rattle.calls.proofs.Bytes.{put_front, call_list_short}
use Rattle.checker.specs.Check.{Checking, turned_down, judged, with_claim, checking, answer_for, memory_after}

-- ---- a claim that stands in words
module _ (p : Program) (c : Claim) (before : List ℕ) where
  abbrev pub Judged : Verdict → List ℕ → Type 0
  Judged r after = (r ≡ answer_for (judged p c (length before))) × (after ≡ memory_after (judged p c (length before)) before)

  pub short_judged : length before < 24576 → Judged Short before
  short_judged few = rw (lt-ltb (length before) 24576 few) (refl, refl)

  module _ (many : 24576 ≤ length before) where
    pub broken_judged : (b : Broken) → Some b ≡ broken_of (verdict p c) → Judged (Violated b.rule b.method b.address) before
    broken_judged b v = rw (le-ltb (length before) 24576 many, is_violated (verdict p c) b v) (refl, refl)

    pub kept_judged : None ≡ broken_of (verdict p c) → Limited p → (count : ℕ) (after : List ℕ) → count ≡ length (call_list p c)
        → after ≡ put_calls (call_list p c) 0 before → Judged (Accepted count) after
    kept_judged v limited count after n w =
        let front = put_front (call_list p c) before (omega (arith, call_list_short p c limited)) in
        rw (le-ltb (length before) 24576 many, is_accepted (verdict p c) v) (ap (λ (x : ℕ). Accepted x) n, w ∙ front)

-- ---- a claim's text: where the reader of claims refuses it, so does the checker, however much memory is lent
pub turned_down_lem : (p : Program) (before : List ℕ) (a : Result ⊤ ClaimRefusal) (x : ClaimReading) → answer_number a ≡ claim_number x
    → answer_values a ≡ claim_values x → (answer_number a ≡ 0 → ⊥)
    → with_claim p (length before) x ≡ turned_down (answer_number a) (answer_line a)
turned_down_lem p before (Ok u) x e v d = absurd (d refl)
turned_down_lem p before (Err r) x e v d = rw (claim-refused-is x r e v) refl

-- ---- a program's text
module _ (program claim before : List ℕ) where
  abbrev whole : Checking
  whole = checking program claim (length before)

  abbrev pub Checked : Verdict → List ℕ → Type 0
  Checked r after = (r ≡ answer_for whole) × (after ≡ memory_after whole before)

  pub refused_checked : (r : Refusal) → refusal_number r ≡ reading_number (read_program program)
      → refusal_line r ∷ [] ≡ reading_values (read_program program) → Checked (Refused (refusal_number r) (refusal_line r)) before
  unfolding checking
  refused_checked r e v = rw (refused_is (read_program program) r e v) (refl, refl)

  pub claimed_checked : [] ≡ reading_values (read_program program) → (tables t₀ : List ℕ) → tables ≡ tables_after (read_program program) t₀
      → (r : Verdict) (after : List ℕ)
      → (r ≡ answer_for (with_claim (program_in tables) (length before) (read_claim (program_in tables) claim)))
      × (after ≡ memory_after (with_claim (program_in tables) (length before) (read_claim (program_in tables) claim)) before)
      → Checked r after
  unfolding checking
  claimed_checked v tables t₀ w r after j =
      found_program (read_program program) v
      (λ p q.
      let held : tables ≡ tables_of p = w ∙ rw q in
      let same : program_in tables ≡ p = rw held (program_of_tables p (well_formed program p q).limited) in
      rw q (rw same at j.0, rw same at j.1))
