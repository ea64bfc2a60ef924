-- What is printed and told of a panel whose claim is written, from what the claim writer and the report did. Assumes nothing.
use mathlib.Core.Path.{◌≡◌, refl, sym, ◌∙◌}
use mathlib.Core.List.{List, []}
use Prim.Native.Nat.{ℕ, ◌≤◌}
use native.Mathlib.Omega.{arith}
use lib.Dec.{ltb}
use lib.ListN.{length, take}
use borrow.Author.Tests.{ltb-true, ltb-false, le-leb}
use Rattle.text.proofs.Cases.{by_test, never}
use Rattle.page.specs.Page.{Put, filled, filled_count}
use Rattle.page.proofs.Puts.{put_none, whole}
use Rattle.program.specs.Program.{Program}
use Rattle.reader.specs.Read.{Reading, refused, taken, read_program}
use Rattle.reader.proofs.WellFormed.{well_formed}
use Rattle.slots.specs.Layout.{claim_in}
use Rattle.fixpoint.specs.LeastOf.{least_words}
use Rattle.wording.proofs.Sizes.{text_most}
use Rattle.verdict.specs.declared.Verdict.{Verdict}
use Rattle.verdict.specs.declared.Verdict.TheVariants.{Refused as RefusedVerdict, Short as ShortVerdict}
use Rattle.output.specs.declared.Output.TheVariants.{Written, Refused, Short}
use Rattle.output.specs.Written.{Writing, turned_down, short, written, fitting, answer_for, memory_after}
use Rattle.writer.specs.Claimed.{least_text, with_program, writing, LeastFor}
use Rattle.report.specs.Printed.{printed}
use Rattle.words.specs.Told.{told}
use Rattle.words.proofs.Short.{told_short}
use Rattle.response.specs.Written.{written_of, claim_said, written_told, panel_told}

-- ---- what fits
-- a text that is written fits, and has at most 165,936 bytes; so have refusals
fitting_fits : (size : ℕ) (t text : List ℕ) → fitting size t ≡ written text → length text ≤ size
fitting_fits size t text e =
    by_test (ltb size (length t))
    (λ b. let none : short ≡ written text = rw b at e in never (cc))
    (λ b.
    let same : written t ≡ written text = rw b at e in
    let is : t ≡ text = cc in
    rw (sym is) (ltb-false size (length t) b))

text_fits : (size : ℕ) (r : Reading) (text : List ℕ) → with_program size r ≡ written text → length text ≤ size
text_fits size (refused number line) text e = never (cc)
text_fits size (taken p) text e = fitting_fits size (least_text p) text e

fitting_few : (size : ℕ) (t : List ℕ) → length t ≤ 165936 → length (written_of (fitting size t)) ≤ 165936
fitting_few size t h = by_test (ltb size (length t)) (λ b. rw b (omega arith)) (λ b. rw b h)

said_few : (panel : List ℕ) (size : ℕ) (r : Reading) → read_program panel ≡ r → length (written_of (with_program size r)) ≤ 165936
said_few panel size (refused number line) e = omega arith
said_few panel size (taken p) e =
    fitting_few size (least_text p) (text_most p (well_formed panel p e) (claim_in (least_words p)))

told_few : (table : List ℕ) (x : Writing) → length (written_told table x) ≤ 200
told_few table (turned_down number line) = told_short table (RefusedVerdict number line)
told_few table short = told_short table ShortVerdict
told_few table (written text) = omega arith

-- a panel that is a program is not refused where the longest text fits
not_refused : (panel : List ℕ) (size : ℕ) (p : Program) → read_program panel ≡ taken p → 165936 ≤ size
    → writing panel size ≡ written (least_text p)
unfolding writing
not_refused panel size p e h =
    let few = text_most p (well_formed panel p e) (claim_in (least_words p)) in
    by_test (ltb size (length (least_text p)))
    (λ b. absurd (omega (arith, few, h, ltb-true size (length (least_text p)) b)))
    (λ b. rw (e, b))

-- ---- the response
-- so many bytes are printed, whole where there is room for the longest text, and so many told; of a program the text of the least claim is
-- printed
module _ (panel table before line : List ℕ) where
  abbrev pub Responded : List ℕ → List ℕ → ℕ → ℕ → Type 0
  Responded after wrote n k =
      (n ≡ filled_count (claim_said panel (length before)) before) × ((after ≡ filled (claim_said panel (length before)) before)
      × ((165936 ≤ length before → n ≡ length (claim_said panel (length before)))
      × (Put line 0 (panel_told table panel (length before)) wrote k
      × ((200 ≤ length line → k ≡ length (panel_told table panel (length before)))
      × ((p : Program) → read_program panel ≡ taken p → 165936 ≤ length before → LeastFor panel (take n after))))))

  responded : (x : Writing) → writing panel (length before) ≡ x → (after wrote : List ℕ) (n k : ℕ)
      → n ≡ filled_count (written_of x) before → after ≡ filled (written_of x) before → Put line 0 (written_told table x) wrote k
      → ((p : Program) → read_program panel ≡ taken p → 165936 ≤ length before → LeastFor panel (take n after))
      → Responded after wrote n k
  unfolding writing claim_said panel_told
  responded x e after wrote n k count bytes put least =
      let few : length (written_of x) ≤ 165936 = rw (sym e) (said_few panel (length before) (read_program panel) refl) in
      rw e (
        count,
        (
          bytes,
          (
            λ h. count ∙ rw (le-leb (length (written_of x)) (length before) (omega (arith, few, h))),
            (put, (λ h. (whole put (omega (arith, told_few table x, h))).0, least)),
          ),
        ),
      )

  -- a text is written
  fits_here : (text : List ℕ) → writing panel (length before) ≡ written text → length text ≤ length before
  unfolding writing
  fits_here text e = text_fits (length before) (read_program panel) text e

  by_text : (x : Writing) → writing panel (length before) ≡ x → (n : ℕ) (after : List ℕ) → Written n ≡ answer_for x
      → after ≡ memory_after x before → LeastFor panel (take n after) → Responded after line n 0
  by_text (turned_down number at) e n after a m l = never (cc)
  by_text short e n after a m l = never (cc)
  by_text (written text) e n after a m l =
      let fits = fits_here text e in
      let same : n ≡ length text = cc in
      responded (written text) e after line n 0
      (rw (le-leb (length text) (length before) fits) same)
      (rw (le-leb (length text) (length before) fits) m)
      (put_none line 0)
      (λ p q h. l)

  pub text_responded : (n : ℕ) (after : List ℕ) → Written n ≡ answer_for (writing panel (length before))
      → after ≡ memory_after (writing panel (length before)) before → LeastFor panel (take n after) → Responded after line n 0
  text_responded n after = by_text (writing panel (length before)) refl n after

  -- the panel is refused, or memory is short: what a report says of a verdict, in the buffer as it was
  abbrev pub Reported : Verdict → List ℕ → List ℕ → List ℕ → ℕ → ℕ → Type 0
  Reported v middle after wrote n k =
      (n ≡ filled_count (printed v []) middle) × ((after ≡ filled (printed v []) middle) × Put line 0 (told table v) wrote k)

  not_written : (x : Writing) → writing panel (length before) ≡ x → ((text : List ℕ) → x ≡ written text → ⊥)
      → (after : List ℕ) (n : ℕ) (p : Program) → read_program panel ≡ taken p → 165936 ≤ length before → LeastFor panel (take n after)
  not_written x e other after n p q h = absurd (other (least_text p) (sym e ∙ not_refused panel (length before) p q h))

  by_refusal : (x : Writing) → writing panel (length before) ≡ x → (number at : ℕ) → Refused number at ≡ answer_for x → (middle : List ℕ)
      → middle ≡ memory_after x before → (after wrote : List ℕ) (n k : ℕ) → Reported (RefusedVerdict number at) middle after wrote n k
      → Responded after wrote n k
  by_refusal (turned_down number at) e i j a middle m after wrote n k r =
      let number_is : i ≡ number = cc in
      let line-is : j ≡ at = cc in
      let said : Reported (RefusedVerdict number at) before after wrote n k = rw (number_is, line-is, m) at r in
      responded (turned_down number at) e after wrote n k said.0 said.1.0 said.1.1
      (not_written (turned_down number at) e (λ text t. never (cc)) after n)
  by_refusal short e i j a middle m after wrote n k r = never (cc)
  by_refusal (written text) e i j a middle m after wrote n k r = never (cc)

  pub refusal_responded : (number at : ℕ) (middle : List ℕ) → Refused number at ≡ answer_for (writing panel (length before))
      → middle ≡ memory_after (writing panel (length before)) before → (after wrote : List ℕ) (n k : ℕ)
      → Reported (RefusedVerdict number at) middle after wrote n k → Responded after wrote n k
  refusal_responded number at middle a m after wrote n k r =
      by_refusal (writing panel (length before)) refl number at a middle m after wrote n k r

  by_short : (x : Writing) → writing panel (length before) ≡ x → Short ≡ answer_for x → (middle : List ℕ)
      → middle ≡ memory_after x before → (after wrote : List ℕ) (n k : ℕ) → Reported ShortVerdict middle after wrote n k
      → Responded after wrote n k
  by_short (turned_down number at) e a middle m after wrote n k r = never (cc)
  by_short short e a middle m after wrote n k r =
      let said : Reported ShortVerdict before after wrote n k = rw m at r in
      responded short e after wrote n k said.0 said.1.0 said.1.1 (not_written short e (λ text t. never (cc)) after n)
  by_short (written text) e a middle m after wrote n k r = never (cc)

  pub short_responded : (middle : List ℕ) → Short ≡ answer_for (writing panel (length before))
      → middle ≡ memory_after (writing panel (length before)) before → (after wrote : List ℕ) (n k : ℕ)
      → Reported ShortVerdict middle after wrote n k → Responded after wrote n k
  short_responded middle a m after wrote n k r = by_short (writing panel (length before)) refl a middle m after wrote n k r
