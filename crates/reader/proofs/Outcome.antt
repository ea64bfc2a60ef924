-- From the two walks to what `take`, `read` and `fill` answer and leave in the tables. Assumes nothing.
use mathlib.Core.Path.{◌≡◌, refl, sym, ap, ◌∙◌}
use mathlib.Core.List.{List, [], ◌∷◌}
use mathlib.Core.Logic.{⊎_elim}
use Prim.Native.Nat.{ℕ, zero, suc, ◌≤◌, ◌<◌}
use native.Mathlib.Omega.{arith}
use lib.ListN.{length}
use borrow.Author.Tests.{lt-ltb, le-ltb, eq-eqb, ne_eqb}
use Rattle.text.proofs.Cases.{never}
use Rattle.program.specs.Program.{Program}
use Rattle.program.specs.Tables.{Limited, tables_of, program_in}
use Rattle.program.proofs.Tables.{program_of_tables}
use Rattle.marks.specs.declared.Stop.{Stop}
use Rattle.marks.specs.Marks.{marks, first_mark}
use Rattle.marks.proofs.Clear.{mark_numbers}
use Rattle.std.specs.Prelude.{Result, Ok, Err, ⊤}
use Rattle.reader.specs.declared.Refusal.{Refusal}
use Rattle.reader.specs.declared.Refusal.TheVariants.{TooLong}
use Rattle.reader.specs.Read.{Reading, refused, taken, judged, valued, read_program, reading_number, reading_values, tables_after, refusal_number, refusal_line, number_of, values_of}
use Rattle.reader.specs.Inside.{Walked, refusal_of}
use Rattle.reader.proofs.Numbers.{Numbered}
use Rattle.reader.proofs.Turn.{whole_reading}

-- what a text that is read leaves in the tables, and what the promise of `take` says, of a text, the tables after it, and the answer
abbrev pub Tables : Reading → List ℕ → Type 0
Tables x after = (p : Program) → x ≡ taken p → after ≡ tables_of p

abbrev pub Told : List ℕ → List ℕ → Result ⊤ Refusal → Type 0
Told text after a =
    ((number_of a ≡ reading_number (read_program text)) × (values_of a ≡ reading_values (read_program text))) × Tables (read_program text) after

-- each number has its refusal
refusal_of_lem : (number line : ℕ) → 2 ≤ number → number ≤ 6
    → (refusal_number (refusal_of number line) ≡ number) × (refusal_line (refusal_of number line) ≡ line)
refusal_of_lem zero line low high = absurd (omega arith)
refusal_of_lem (suc zero) line low high = absurd (omega arith)
refusal_of_lem (suc (suc zero)) line low high = (refl, refl)
refusal_of_lem (suc (suc (suc zero))) line low high = (refl, refl)
refusal_of_lem (suc (suc (suc (suc zero)))) line low high = (refl, refl)
refusal_of_lem (suc (suc (suc (suc (suc zero))))) line low high = (refl, refl)
refusal_of_lem (suc (suc (suc (suc (suc (suc zero)))))) line low high = (refl, refl)
refusal_of_lem (suc (suc (suc (suc (suc (suc (suc n))))))) line low high = absurd (omega arith)

told_refused : (text after : List ℕ) (number line : ℕ) (r : Refusal) → read_program text ≡ refused number line
    → 2 ≤ number → number ≤ 6 → r ≡ refusal_of number line → Told text after (Err r)
told_refused text after number line r e low high f =
    let k = refusal_of_lem number line low high in
    (rw (e, f) (k.0, ap (λ (n : ℕ). n ∷ []) k.1), λ p g. never (cc))

pub told_long : (text after : List ℕ) → 65536 < length text → Told text after (Err TooLong)
unfolding read_program
told_long text after h = rw (lt-ltb 65536 (length text) h) ((refl, refl), λ p g. never (cc))

-- a walk that stopped at a refusal
walk_refused : (r : Reading) (s : Stop) (ws : List ℕ) → Walked r s ws → (s.number ≡ 0 → ⊥)
    → (r ≡ refused s.number s.line) × (2 ≤ s.number) × (s.number ≤ 4)
walk_refused (refused number line) s ws w h = (rw (w.0, w.1), omega (arith, w), omega (arith, w))
walk_refused (taken p) s ws w h = absurd (h w.0)

-- a walk that went through
walk_taken : (r : Reading) (s : Stop) (ws : List ℕ) → Walked r s ws → s.number ≡ 0
    → (p : Program) × (r ≡ taken p) × (ws ≡ tables_of p) × Limited p
walk_taken (refused number line) s ws w z = absurd (omega (arith, w))
walk_taken (taken p) s ws w z = (p, refl, w.1, w.2)

-- the first marked line of what stands in the tables of a program
mark_is : (p : Program) (ws : List ℕ) (v : Stop) → ws ≡ tables_of p → Limited p → v ≡ first_mark (marks (program_in ws)) 1
    → v ≡ first_mark (marks p) 1
mark_is p ws v g l f =
    f
    ∙ ap (λ (us : List ℕ). first_mark (marks (program_in us)) 1) g
    ∙ ap (λ (q : Program). first_mark (marks q) 1) (program_of_tables p l)

-- its number, where there is one
mark_range : (p : Program) → ((first_mark (marks p) 1).number ≡ 0 → ⊥)
    → (5 ≤ (first_mark (marks p) 1).number) × ((first_mark (marks p) 1).number ≤ 6)
mark_range p h = ⊎_elim (λ z. absurd (h z)) (λ r. r) (mark_numbers p)

module _ (text : List ℕ) (short : length text ≤ 65536) where
  read_is : read_program text ≡ valued (whole_reading text)
  unfolding read_program
  read_is = rw (le-ltb 65536 (length text) short)

  pub told_order : (s : Stop) (ws : List ℕ) (r : Refusal) → Walked (whole_reading text) s ws → (s.number ≡ 0 → ⊥)
      → r ≡ refusal_of s.number s.line → Told text ws (Err r)
  unfolding valued
  told_order s ws a w h f =
      let r = walk_refused (whole_reading text) s ws w h in
      told_refused text ws s.number s.line a (read_is ∙ ap valued r.0) r.1 (omega (arith, r.2)) f

  -- a walk that went through, and the first marked line after it
  module _ (s : Stop) (ws : List ℕ) (w : Walked (whole_reading text) s ws) (z : s.number ≡ 0) (v : Stop)
      (f : v ≡ first_mark (marks (program_in ws)) 1) where
    read_as : (p : Program) × (read_program text ≡ judged p v) × (ws ≡ tables_of p) × (v ≡ first_mark (marks p) 1)
    unfolding valued
    read_as =
        let (p, e, g, l) = walk_taken (whole_reading text) s ws w z in
        let m = mark_is p ws v g l f in
        (p, read_is ∙ ap valued e ∙ ap (judged p) (sym m), g, m)

    pub told_values : (r : Refusal) → (v.number ≡ 0 → ⊥) → r ≡ refusal_of v.number v.line → Told text ws (Err r)
    unfolding judged
    told_values a h g =
        let (p, r, _, m) = read_as in
        let k = mark_range p (λ y. h (rw m y)) in
        told_refused text ws v.number v.line a (r ∙ rw (ne_eqb v.number 0 h)) (rw m (omega (arith, k.0)))
        (rw m k.1)
        g

    pub told_read : v.number ≡ 0 → Told text ws (Ok tt)
    unfolding judged
    told_read y =
        let (p, r, g, _) = read_as in
        let e : read_program text ≡ taken p = r ∙ rw (eq-eqb v.number 0 y) in
        (rw e (refl, refl), λ q h. let same : p ≡ q = cc in g ∙ ap tables_of same)

-- ---- from the answer's number: the tables of a text that is read, and those of one that is refused
pub tables_read : (x : Reading) → Numbered x → (after before : List ℕ) → Tables x after → reading_number x ≡ 0 → after ≡ tables_after x before
tables_read (refused number line) h after before m z = absurd (omega (arith, h.0, z))
tables_read (taken p) h after before m z = m p refl

pub tables_refused : (x : Reading) (before : List ℕ) → (reading_number x ≡ 0 → ⊥) → before ≡ tables_after x before
tables_refused (refused number line) before d = refl
tables_refused (taken p) before d = absurd (d refl)
