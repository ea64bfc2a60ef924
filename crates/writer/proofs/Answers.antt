-- What is answered and left in memory where the program is refused, memory is short, or the text fits. Assumes nothing.
use mathlib.Core.Path.{◌≡◌, refl, sym, ap, ◌∙◌}
use mathlib.Core.List.{List, [], ◌∷◌, ◌++◌}
use Prim.Native.Nat.{ℕ, ◌≤◌, ◌<◌}
use lib.ListN.{length, drop}
use borrow.Author.Tests.{lt-ltb, le-ltb}
use Rattle.program.specs.Program.{Program}
use Rattle.program.specs.Tables.{tables_of, program_in}
use Rattle.program.proofs.Tables.{program_of_tables}
use Rattle.reader.specs.declared.Refusal.{Refusal}
use Rattle.reader.specs.Formed.{Formed}
use Rattle.reader.specs.Read.{Reading, refused, taken, read_program, reading_number, reading_values, tables_after}
use Rattle.reader.specs.Read.{refusal_number, refusal_line}
use Rattle.reader.proofs.Answers.{refused_is, found_program}
use Rattle.reader.proofs.WellFormed.{well_formed}
use Rattle.output.specs.declared.Output.{Output}
use Rattle.output.specs.declared.Output.TheVariants.{Refused, Short, Written}
use Rattle.output.specs.Written.{turned_down, answer_for, memory_after}
use Rattle.writer.specs.Claimed.{least_text, with_program, writing}

module _ (p : Program) (before : List ℕ) where
  abbrev pub Done : Output → List ℕ → Type 0
  Done r after =
      (r ≡ answer_for (with_program (length before) (taken p))) × (after ≡ memory_after (with_program (length before) (taken p)) before)

  pub short_done : length before < length (least_text p) → Done Short before
  short_done few = rw (lt-ltb (length before) (length (least_text p)) few) (refl, refl)

  pub written_done : length (least_text p) ≤ length before → (n : ℕ) → n ≡ length (least_text p) → (after : List ℕ)
      → after ≡ least_text p ++ drop (length (least_text p)) before → Done (Written n) after
  written_done many n e after q = rw (le-ltb (length before) (length (least_text p)) many) (ap Written e, q)

module _ (program before : List ℕ) where
  abbrev pub Answered : Output → List ℕ → Type 0
  Answered r after = (r ≡ answer_for (writing program (length before))) × (after ≡ memory_after (writing program (length before)) before)

  pub refused_answered : (r : Refusal) → refusal_number r ≡ reading_number (read_program program)
      → refusal_line r ∷ [] ≡ reading_values (read_program program) → Answered (Refused (refusal_number r) (refusal_line r)) before
  unfolding writing
  refused_answered r e v = rw (refused_is (read_program program) r e v) (refl, refl)

  module _ (v : [] ≡ reading_values (read_program program)) (tables t₀ : List ℕ) (w : tables ≡ tables_after (read_program program) t₀) where
    same_program : (p : Program) → read_program program ≡ taken p → program_in tables ≡ p
    same_program p q =
        let held : tables ≡ tables_of p = w ∙ rw q in
        rw held (program_of_tables p (well_formed program p q).limited)

    pub tables_formed : Formed (program_in tables)
    tables_formed = found_program (read_program program) v (λ p q. rw (same_program p q) (well_formed program p q))

    pub taken_answered : (r : Output) (after : List ℕ) → Done (program_in tables) before r after → Answered r after
    unfolding writing
    taken_answered r after j =
        found_program (read_program program) v
        (λ p q.
        let same = same_program p q in
        rw q (rw same at j.0, rw same at j.1))
