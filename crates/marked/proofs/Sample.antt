-- What `check` promises (src/lib.rt) says at document 01's sample, in any lent memory that is large enough: the bytes 00 00 01 at its
-- front, and demand 3 for every n. Assumes nothing.
use mathlib.Core.Path.{◌≡◌, refl, ap, ◌∙◌}
use mathlib.Core.List.{List, [], ◌∷◌}
use Prim.Native.Nat.{ℕ, ◌≤◌}
use lib.ListN.{length, drop}
use borrow.Author.Tests.{le-ltb}
use Rattle.instruction.specs.Word.{instruction_of, fields_of}
use Rattle.mask.specs.Mask.{has, subset, has_number}
use Rattle.search.specs.Search.{below_in, has_field}
use Rattle.reader.specs.Sample.{bytes_of, sample}
use Rattle.reader.proofs.Examples.{sample_program}
use Rattle.flow.specs.Verdict.{accepted, verdict}
use Rattle.flow.specs.Calls.{call_list}
use Rattle.flow.proofs.Samples.{made}
use Rattle.slots.specs.Layout.{row_of, place_of, claim_in, no_masks}
use Rattle.claim.specs.Sample.{sample_claim}
use Rattle.claim.proofs.SampleClaim.{sample_words, sample_taken}
use Rattle.verdict.specs.declared.Verdict.{Verdict as Answer}
use Rattle.verdict.specs.declared.Verdict.TheVariants.{Accepted}
use Rattle.calls.specs.Bytes.{calls_in}
use Rattle.checker.specs.Check.{Checking, kept, checking, answer_for, memory_after}
use Rattle.checker.specs.Coverage.{Coverage, Promised}
use Rattle.checker.proofs.Sample.{with_claim_lem}

-- the masks are accepted, with one call
sample_accepted : verdict sample_program (claim_in sample_words) ≡ accepted
unfolding verdict has subset has_number instruction_of fields_of below_in has_field claim_in place_of row_of no_masks
sample_accepted = refl

sample_calls : call_list sample_program (claim_in sample_words) ≡ made 0 0 1 ∷ []
unfolding call_list has instruction_of fields_of claim_in place_of row_of no_masks
sample_calls = refl

sample_kept : (size : ℕ) → 24576 ≤ size → checking (bytes_of sample) (bytes_of sample_claim) size ≡ kept (made 0 0 1 ∷ [])
sample_kept size l =
    with_claim_lem (bytes_of sample_claim) size ∙ rw (sample_taken, le-ltb size 24576 l, sample_accepted, sample_calls)

module _ (before after : List ℕ) (r : Answer) (enough : 24576 ≤ length before) (p : Promised (bytes_of sample) (bytes_of sample_claim) before after r) where
  pub sample_answer : r ≡ Accepted 1
  sample_answer = p.verdict_clause ∙ ap answer_for (sample_kept (length before) enough)

  -- the bytes at exit, "and nothing past it"
  pub sample_memory : after ≡ 0 ∷ 0 ∷ 1 ∷ drop 3 before
  sample_memory = p.memory_clause ∙ ap (λ (x : Checking). memory_after x before) (sample_kept (length before) enough)

  -- demand 3 for every n, with the list read from memory
  pub sample_covered : Coverage (bytes_of sample) (bytes_of sample_claim) (calls_in 1 after)
  sample_covered = p.coverage_clause 1 sample_answer
