-- From the walk by line to what `take`, `read` and `fill` answer and leave in the words. Assumes nothing.
use mathlib.Core.Path.{◌≡◌, refl, sym, ap, subst, ◌∙◌}
use mathlib.Core.List.{List, [], ◌∷◌}
use Prim.Native.Nat.{ℕ, ◌≤◌, ◌<◌}
use native.Mathlib.Omega.{arith}
use lib.Dec.{eqb}
use lib.ListN.{length, drop}
use borrow.Author.Tests.{lt-ltb, le-ltb, eq-eqb, ne_eqb, eqb-true, eqb-false}
use Rattle.text.specs.Hex.{Line, lines_of, whole}
use Rattle.text.proofs.Cases.{by_test, never}
use Rattle.program.specs.Program.{Program}
use Rattle.slots.specs.Layout.{no_masks}
use mathlib.Core.Bool.{true}
use Rattle.std.specs.Prelude.{Result, Ok, Err, ⊤, is_err}
use Rattle.claim.specs.declared.Refusal.{Refusal}
use Rattle.claim.specs.declared.Refusal.TheVariants.{TooLong}
use Rattle.claim.specs.declared.Status.{Status}
use Rattle.claim.specs.Frames.{frames_due}
use Rattle.claim.specs.ReadClaim.{Reading, refused, taken, known, stopped, reached, take_frames, ended, read_claim}
use Rattle.claim.specs.ReadClaim.{reading_number, reading_values, masks_after, refusal_number, refusal_line, number_of, values_of}
use Rattle.claim.specs.Inside.{progress_of, last_number, refusal_of}
use Rattle.claim.proofs.Numbers.{Stopping, frames_stopping, Numbered}

-- each number has its refusal
refusal_of_lem : (number line : ℕ) → 10 ≤ number → number ≤ 13
    → (refusal_number (refusal_of number line) ≡ number) × (refusal_line (refusal_of number line) ≡ line)
refusal_of_lem number line low high =
    by_test (eqb number 10)
    (λ a. rw a (sym (eqb-true number 10 a), refl))
    (λ a.
    by_test (eqb number 11)
    (λ b. rw (a, b) (sym (eqb-true number 11 b), refl))
    (λ b.
    by_test (eqb number 12)
    (λ c. rw (a, b, c) (sym (eqb-true number 12 c), refl))
    (λ c. rw (a, b, c) (omega (arith, eqb-false number 10 a, eqb-false number 11 b, eqb-false number 12 c), refl))))

-- ---- after the frames due
last_is : (ls : List Line) (n : ℕ) (ws : List ℕ) → (last_number ls ≡ 0 → ⊥)
    → (ended (reached ls n ws) ≡ refused (last_number ls) n) × (10 ≤ last_number ls) × (last_number ls ≤ 13)
unfolding ended
last_is [] n ws h = absurd (h refl)
last_is (l ∷ ls) n ws h =
    by_test (whole l)
    (λ a.
    by_test (known l)
    (λ b. rw (a, b) (refl, omega arith, omega arith))
    (λ b. rw (a, b) (refl, omega arith, omega arith)))
    (λ a. rw a (refl, omega arith, omega arith))

last_none : (ls : List Line) (n : ℕ) (ws : List ℕ) → last_number ls ≡ 0 → ended (reached ls n ws) ≡ taken ws
unfolding ended
last_none [] n ws h = refl
last_none (l ∷ ls) n ws h =
    by_test (whole l)
    (λ a. by_test (known l) (λ b. absurd (omega (arith, rw (a, b) at h))) (λ b. absurd (omega (arith, rw (a, b) at h))))
    (λ a. absurd (omega (arith, rw a at h)))

-- ---- what the promise of `take` says, of a program, a text, the words after it, and the answer
abbrev pub Told : Program → List ℕ → List ℕ → Result ⊤ Refusal → Type 0
Told p text after a =
    ((number_of a ≡ reading_number (read_claim p text)) × (values_of a ≡ reading_values (read_claim p text)))
    × ((ms : List ℕ) → read_claim p text ≡ taken ms → after ≡ ms)

module _ (p : Program) (text after : List ℕ) where
  told_refused : (number line : ℕ) (r : Refusal) → read_claim p text ≡ refused number line → 10 ≤ number → number ≤ 13
      → r ≡ refusal_of number line → Told p text after (Err r)
  told_refused number line r e low high f =
      let k = refusal_of_lem number line low high in
      (rw (e, f) (k.0, ap (λ (n : ℕ). n ∷ []) k.1), λ ms g. never (cc))

  pub told_long : 262144 < length text → Told p text after (Err TooLong)
  unfolding read_claim
  told_long h = rw (lt-ltb 262144 (length text) h) ((refl, refl), λ ms g. never (cc))

  module _ (short : length text ≤ 262144) (c : Status) (none : List ℕ) (empty : none ≡ no_masks)
      (w : progress_of text c after ≡ take_frames p (frames_due p) (reached (lines_of text) 1 none)) where
    read_is : read_claim p text ≡ ended (progress_of text c after)
    unfolding read_claim
    read_is = rw (le-ltb 262144 (length text) short, w, empty)

    pub told_stopped : (r : Refusal) → (c.number ≡ 0 → ⊥) → r ≡ refusal_of c.number c.place.line → Told p text after (Err r)
    unfolding ended
    told_stopped a h f =
        let s : progress_of text c after ≡ stopped c.number c.place.line = rw (ne_eqb c.number 0 h) in
        let k : Stopping (stopped c.number c.place.line) =
        subst Stopping (sym w ∙ s) (frames_stopping p (frames_due p) (reached (lines_of text) 1 none) tt) in
        told_refused c.number c.place.line a (read_is ∙ ap ended s) k.0 k.1 f

    module _ (z : c.number ≡ 0) (more : ℕ) (e : more ≡ last_number (lines_of (drop c.place.at text))) where
      reached_is : progress_of text c after ≡ reached (lines_of (drop c.place.at text)) c.place.line after
      reached_is = rw (eq-eqb c.number 0 z)

      pub told_more : (r : Refusal) → (more ≡ 0 → ⊥) → r ≡ refusal_of more c.place.line → Told p text after (Err r)
      told_more a h f =
          let k = last_is (lines_of (drop c.place.at text)) c.place.line after (λ y. h (e ∙ y)) in
          let number = last_number (lines_of (drop c.place.at text)) in
          told_refused number c.place.line a (read_is ∙ ap ended reached_is ∙ k.0) k.1 k.2
          (rw e at f)

      pub told_read : more ≡ 0 → Told p text after (Ok tt)
      told_read y =
          let r : read_claim p text ≡ taken after =
          read_is ∙ ap ended reached_is ∙ last_none (lines_of (drop c.place.at text)) c.place.line after (sym e ∙ y) in
          (rw r (refl, refl), λ ms g. cc)

-- ---- from the answer's number: the words of a claim that is read, and those of one that is refused
abbrev pub Masks : Reading → List ℕ → Type 0
Masks x after = (ms : List ℕ) → x ≡ taken ms → after ≡ ms

pub masks_read : (x : Reading) → Numbered x → (after before : List ℕ) → Masks x after → reading_number x ≡ 0 → after ≡ masks_after x before
masks_read (refused number line) h after before m z = absurd (omega (arith, h.0, z))
masks_read (taken ms) h after before m z = m ms refl

pub masks_refused : (x : Reading) (before : List ℕ) → (reading_number x ≡ 0 → ⊥) → before ≡ masks_after x before
masks_refused (refused number line) before d = refl
masks_refused (taken ms) before d = absurd (d refl)

-- a refused text leaves the words untouched
pub untouched : (x : Reading) (before : List ℕ) (r : Result ⊤ Refusal) → values_of r ≡ reading_values x → is_err r ≡ true → before ≡ masks_after x before
untouched (refused number line) before r v y = refl
untouched (taken ms) before (Ok done) v y = absurd (cc)
untouched (taken ms) before (Err refusal) v y = absurd (cc)
