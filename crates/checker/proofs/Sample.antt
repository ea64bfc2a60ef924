-- What the clauses of `check` say at document 01's sample with too little memory, and with a claim text for each refusal 9 to 13. Its
-- verdicts stand in crates/marked. Assumes nothing.
use mathlib.Core.Path.{◌≡◌, refl, ap, ◌∙◌}
use mathlib.Core.List.{List, []}
use Prim.Native.Nat.{ℕ, ◌<◌}
use Prim.Native.String.{◌++◌}
use lib.ListN.{length}
use borrow.Author.Tests.{lt-ltb}
use Rattle.text.specs.Hex.{lines_of, whole, all_digits, digit_of, number_from}
use Rattle.mask.specs.Mask.{has, subset}
use Rattle.reader.specs.Sample.{bytes_of, sample}
use Rattle.reader.proofs.Examples.{sample_program, sample_reads}
use Rattle.claim.specs.Allowed.{full_claim}
use Rattle.claim.specs.Frames.{part_due, frames_due}
use Rattle.claim.specs.ReadClaim.{refused, digits_from, known, is_due, masks_from, take_frame, ended, read_claim}
use Rattle.claim.specs.Sample.{zeros, sample_claim}
use Rattle.claim.proofs.SampleClaim.{sample_taken}
use Rattle.verdict.specs.declared.Verdict.{Verdict as Answer}
use Rattle.verdict.specs.declared.Verdict.TheVariants.{Refused, Short}
use Rattle.checker.specs.Check.{Checking, turned_down, short, with_claim, checking, answer_for, memory_after}
use Rattle.checker.specs.Coverage.{Promised}

-- what comes of a claim for the sample's program
pub with_claim_lem : (claim : List ℕ) (size : ℕ)
    → checking (bytes_of sample) claim size ≡ with_claim sample_program size (read_claim sample_program claim)
unfolding checking
with_claim_lem claim size = rw sample_reads

-- too little memory
pub sample_short : (before after : List ℕ) (r : Answer) → length before < 24576 → Promised (bytes_of sample) (bytes_of sample_claim) before after r
    → (r ≡ Short) × (after ≡ before)
sample_short before after r few p =
    let e : checking (bytes_of sample) (bytes_of sample_claim) (length before) ≡ short =
    with_claim_lem (bytes_of sample_claim) (length before) ∙ rw (sample_taken, lt-ltb (length before) 24576 few) in
    (p.verdict_clause ∙ ap answer_for e, p.memory_clause ∙ ap (λ (x : Checking). memory_after x before) e)

-- ---- a claim's refusals, whatever memory is lent
refuses : (claim : List ℕ) (n l : ℕ) → read_claim sample_program claim ≡ refused n l → (before after : List ℕ) (r : Answer)
    → Promised (bytes_of sample) claim before after r → (r ≡ Refused n l) × (after ≡ before)
refuses claim n l e before after r p =
    let x : checking (bytes_of sample) claim (length before) ≡ turned_down n l = with_claim_lem claim (length before) ∙ rw e in
    (p.verdict_clause ∙ ap answer_for x, p.memory_clause ∙ ap (λ (y : Checking). memory_after y before) x)

-- 9: any text of more than 262,144 bytes
pub too_long : (claim : List ℕ) → 262144 < length claim → (before after : List ℕ) (r : Answer)
    → Promised (bytes_of sample) claim before after r → (r ≡ Refused 9 0) × (after ≡ before)
unfolding read_claim
too_long claim l = refuses claim 9 0 (rw (lt-ltb 262144 (length claim) l))

-- 10 at line 2: an odd digit count
pub bad_line : (before after : List ℕ) (r : Answer)
    → Promised (bytes_of sample) (bytes_of ("110000" ++ zeros ++ zeros ++ "\n110\n")) before after r → (r ≡ Refused 10 2) × (after ≡ before)
unfolding read_claim frames_due part_due take_frame known is_due digits_from masks_from ended lines_of whole all_digits digit_of number_from
    subset has full_claim
bad_line = refuses (bytes_of ("110000" ++ zeros ++ zeros ++ "\n110\n")) 10 2 refl

-- 11: a program's frame
pub unknown_kind : (before after : List ℕ) (r : Answer) → Promised (bytes_of sample) (bytes_of "01ff\n") before after r
    → (r ≡ Refused 11 1) × (after ≡ before)
unfolding read_claim frames_due part_due take_frame known is_due digits_from masks_from ended lines_of whole all_digits digit_of number_from
    subset has full_claim
unknown_kind = refuses (bytes_of "01ff\n") 11 1 refl

-- 12: an empty claim
pub not_due : (before after : List ℕ) (r : Answer) → Promised (bytes_of sample) [] before after r → (r ≡ Refused 12 1) × (after ≡ before)
unfolding read_claim frames_due part_due take_frame known is_due digits_from masks_from ended lines_of whole all_digits digit_of number_from
    subset has full_claim
not_due = refuses [] 12 1 refl

-- 13: bit 61
pub bad_bit : (before after : List ℕ) (r : Answer)
    → Promised (bytes_of sample) (bytes_of ("110000" ++ zeros ++ "2000000000000000\n")) before after r → (r ≡ Refused 13 1) × (after ≡ before)
unfolding read_claim frames_due part_due take_frame known is_due digits_from masks_from ended lines_of whole all_digits digit_of number_from
    subset has full_claim
bad_bit = refuses (bytes_of ("110000" ++ zeros ++ "2000000000000000\n")) 13 1 refl
