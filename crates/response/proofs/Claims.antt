-- What is printed and told of a claim, from what the checker and the report did. Assumes nothing.
use mathlib.Core.Path.{◌≡◌, refl, sym, ◌∙◌}
use mathlib.Core.List.{List, [], ◌++◌}
use Prim.Native.Nat.{ℕ, ◌*◌, ◌≤◌, ◌<◌, min}
use native.Mathlib.Omega.{arith}
use lib.Dec.{leb}
use lib.ListN.{length, take, drop}
use borrow.Author.Tests.{lt-ltb, le-leb, lt-leb}
use Rattle.text.proofs.Cases.{by_test}
use Rattle.page.specs.Page.{Put, filled, filled_count}
use Rattle.program.specs.Program.{Program}
use Rattle.reader.specs.Read.{Reading, refused, taken, read_program}
use Rattle.claim.specs.ReadClaim.{refused as claim_refused, read_claim}
use Rattle.verdict.specs.declared.Verdict.{Verdict}
use Rattle.checker.specs.Check.{Checking, turned_down, short, broken, kept, with_program, checking, answer_for, memory_after}
use Rattle.checker.specs.Coverage.{Coverage}
use Rattle.report.specs.Printed.{accepted_word, printed}
use Rattle.report.proofs.Longest.{longest}
use Rattle.page.proofs.Puts.{whole}
use Rattle.words.specs.Told.{told}
use Rattle.words.proofs.Short.{told_short}
use Rattle.response.specs.Claimed.{calls_said, longer, said_of, checking_of, said, claim_told}
use Rattle.response.proofs.Calls.{lines_of, Few, few_calls}
use Rattle.response.proofs.Covered.{printed_covered}

-- ---- the verdict
-- an answer, and lent memory after it
abbrev pub Judged : Checking → Verdict → List ℕ → List ℕ → Type 0
Judged x v before after = (v ≡ answer_for x) × (after ≡ memory_after x before)

long_read : (p : Program) (claim : List ℕ) → 262144 < length claim → read_claim p claim ≡ claim_refused 9 0
unfolding read_claim
long_read p claim h = rw (lt-ltb 262144 (length claim) h)

with_long : (claim : List ℕ) (size : ℕ) → 262144 < length claim → (r : Reading) → with_program claim size r ≡ longer r
with_long claim size h (refused number line) = refl
with_long claim size h (taken p) = rw (long_read p claim h)

-- a claim that the checker finds too long
pub judged_longer : (panel claim before after : List ℕ) (size : ℕ) (v : Verdict) → 262144 < length claim
    → Judged (checking panel claim size) v before after
    → Judged (longer (read_program panel)) v before after
unfolding checking
judged_longer panel claim before after size v h j = rw (with_long claim size h (read_program panel)) at j

-- the two cases of a file's length
pub judged_short : (panel claim before after : List ℕ) (v : Verdict) → length claim ≤ 65536 → 24576 ≡ length before
    → Judged (checking panel claim (length before)) v before after
    → Judged (checking_of panel claim) v before after
unfolding checking_of
judged_short panel claim before after v h size j = rw (le-leb (length claim) 65536 h) (rw (sym size) at j)

pub judged_long : (panel claim before after : List ℕ) (v : Verdict) → 65536 < length claim
    → Judged (longer (read_program panel)) v before after
    → Judged (checking_of panel claim) v before after
unfolding checking_of
judged_long panel claim before after v h j = rw (lt-leb (length claim) 65536 h) j

-- ---- what is printed of it
min_few : (k : ℕ) → k ≤ 8192 → min k 8192 ≡ k
min_few k h = omega arith

printed_is : (x : Checking) (before : List ℕ) → Few x → printed (answer_for x) (memory_after x before) ≡ said_of x
printed_is (turned_down number line) before few = refl
printed_is short before few = refl
printed_is (broken rule method address) before few = refl
printed_is (kept calls) before few =
    rw (min_few (length calls) few, lines_of calls (drop (3 * length calls) before))

few_longer : (r : Reading) → Few (longer r)
few_longer (refused number line) = tt
few_longer (taken p) = tt

few_of : (panel claim : List ℕ) → Few (checking_of panel claim)
unfolding checking_of
few_of panel claim =
    by_test (leb (length claim) 65536) (λ t. rw t (few_calls panel claim 24576)) (λ t. rw t (few_longer (read_program panel)))

said_is : (panel claim lent memory : List ℕ) (v : Verdict) → Judged (checking_of panel claim) v lent memory → printed v memory ≡ said panel claim
unfolding said
said_is panel claim lent memory v j = rw (j.0, j.1) (printed_is (checking_of panel claim) lent (few_of panel claim))

pub said_longest : (panel claim : List ℕ) → length (said panel claim) ≤ 73737
unfolding said
said_longest panel claim =
    rw (sym (printed_is (checking_of panel claim) [] (few_of panel claim))) (longest (answer_for (checking_of panel claim)) (memory_after (checking_of panel claim) []))

-- ---- the response
-- so many bytes are printed, whole where there is room for the longest, and so many told; where the bytes printed begin with
-- `accepted`, the calls that their lines say cover the run
abbrev pub Claimed : List ℕ → List ℕ → List ℕ → List ℕ → List ℕ → List ℕ → List ℕ → ℕ → ℕ → Type 0
Claimed panel claim table before after line wrote n k =
    (n ≡ filled_count (said panel claim) before) × ((after ≡ filled (said panel claim) before)
    × ((73737 ≤ length before → n ≡ length (said panel claim))
    × (Put line 0 (claim_told table panel claim) wrote k × ((200 ≤ length line → k ≡ length (claim_told table panel claim))
    × ((lines : List ℕ) → take n after ≡ accepted_word ++ lines → Coverage panel claim (calls_said lines))))))

pub claimed : (panel claim table before after line wrote lent memory : List ℕ) (v : Verdict) (n k : ℕ)
    → Judged (checking_of panel claim) v lent memory
    → (n ≡ filled_count (printed v memory) before) × (after ≡ filled (printed v memory) before)
    → Put line 0 (told table v) wrote k
    → Claimed panel claim table before after line wrote n k
unfolding claim_told
claimed panel claim table before after line wrote lent memory v n k j printed-there told-there =
    let is = said_is panel claim lent memory v j in
    let count : n ≡ filled_count (said panel claim) before = rw is at printed-there.0 in
    let bytes : after ≡ filled (said panel claim) before = rw is at printed-there.1 in
    let told-so : Put line 0 (told table (answer_for (checking_of panel claim))) wrote k = rw j.0 at told-there in (
      count,
      (
        bytes,
        (
          λ h. count ∙ rw (le-leb (length (said panel claim)) (length before) (omega (arith, said_longest panel claim, h))),
          (
            told-so,
            (
              λ h. (whole told-so (omega (arith, told_short table (answer_for (checking_of panel claim)), h))).0,
              λ lines s. printed_covered panel claim lines before after n count bytes s,
            ),
          ),
        ),
      ),
    )
