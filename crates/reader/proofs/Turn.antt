-- The invariant of the walk by line, and what each turn makes of it. Assumes nothing.
use mathlib.Core.Path.{◌≡◌, refl, sym, ap, ◌∙◌}
use mathlib.Core.Bool.{true, false}
use mathlib.Core.List.{List, [], ◌∷◌}
use Prim.Native.Nat.{ℕ, ◌+◌, ◌-◌, ◌≤◌, ◌<◌, ◌^◌}
use native.Mathlib.Omega.{arith}
use lib.ListN.{length, drop}
use Rattle.text.specs.declared.LineRead.TheVariants.{Whole, Broken, End}
use Rattle.text.specs.Hex.{Line, lines_of}
use Rattle.lines.specs.declared.Cursor.{Cursor}
use Rattle.lines.specs.declared.Found.{Found}
use Rattle.lines.specs.Cursors.{cursor, found_at}
use Rattle.lines.proofs.Cursors.{Standing, found_none, found_broken, found_whole, found_next}
use Rattle.instruction.specs.Test.{passes}
use Rattle.program.specs.Program.{Program, no_program}
use Rattle.program.specs.Tables.{Limited, tables_of}
use Rattle.marks.specs.Marks.{stop}
use Rattle.frame.specs.declared.Counts.{Counts}
use Rattle.frame.specs.declared.Step.{Step}
use Rattle.frame.specs.Frame.{counts_of, may_end}
use Rattle.reader.specs.Read.{Reading, refused, read_lines}
use Rattle.frame.specs.Places.{counts}
use Rattle.reader.specs.Inside.{line_at, framed, framed_tables, Walked}
use Rattle.reader.proofs.Lines.{Going, going, falling, broken, ended, missing}

-- what the text reads to, by line
abbrev pub whole_reading : List ℕ → Reading
whole_reading text = read_lines (lines_of text) no_program 1

-- before the line at a cursor: the program so far, its counts and its tables, and that reading goes on from here
pub record Before (text t : List ℕ) (c : Cursor) (n : Counts) : Type 0 where
  pub program : Program
  pub within : c.at ≤ length text
  pub few : c.line ≤ c.at + 1
  pub limited : Limited program
  pub counted : n ≡ counts_of program
  pub tables : t ≡ tables_of program
  pub reads : whole_reading text ≡ read_lines (lines_of (drop c.at text)) program c.line

pub nothing_limited : Limited no_program
nothing_limited =
    record {
      classes = omega arith;
      fields = omega arith;
      statics = omega arith;
      methods = omega arith;
      code = λ m. omega arith;
      handlers = λ m. omega arith;
    }

pub start : (text t : List ℕ) → t ≡ tables_of no_program → Before text t (cursor 0 1) (counts 0 0 0 0 0 0)
start text t e =
    record {
      program = no_program;
      within = omega arith;
      few = omega arith;
      limited = nothing_limited;
      counted = refl;
      tables = e;
      reads = refl;
    }

walked_refused : (r : Reading) (number line : ℕ) (ws : List ℕ) → r ≡ refused number line → 2 ≤ number → number ≤ 4
    → Walked r (stop number line) ws
walked_refused r number line ws e low high = rw e (refl, refl, low, high)

module _ (text t : List ℕ) (c : Cursor) (n : Counts) (b : Before text t c n) (f : Found) (found : f ≡ found_at text c) where
  -- the next line is the first of these
  rest : (ls : List Line) → lines_of (drop c.at text) ≡ ls → whole_reading text ≡ read_lines ls b.program c.line
  rest ls e = b.reads ∙ ap (λ (l : List Line). read_lines l b.program c.line) e

  pub at_end : f.read ≡ End → passes (may_end n) ≡ true → Walked (whole_reading text) (stop 0 c.line) t
  at_end e h =
      let m : passes (may_end (counts_of b.program)) ≡ true = rw b.counted at h in
      rw (rest [] (found_none text c f found e) ∙ ended b.program c.line m)
      (refl, b.tables, b.limited)

  pub at_missing : f.read ≡ End → passes (may_end n) ≡ false → Walked (whole_reading text) (stop 4 c.line) t
  at_missing e h =
      let m : passes (may_end (counts_of b.program)) ≡ false = rw b.counted at h in
      walked_refused (whole_reading text) 4 c.line t
      (rest [] (found_none text c f found e) ∙ missing b.program c.line m)
      (omega arith)
      (omega arith)

  pub at_broken : f.read ≡ Broken → Walked (whole_reading text) (stop 2 c.line) t
  at_broken e =
      let (l, ls, g, w) = found_broken text c f found e in
      walked_refused (whole_reading text) 2 c.line t
      (rest (l ∷ ls) g ∙ broken b.program l ls c.line w)
      (omega arith)
      (omega arith)

  module _ (d : ℕ) (e : f.read ≡ Whole d) where
    -- the line, and the lines after it
    abbrev first : Line
    first = line_at text c.at d

    abbrev others : List Line
    others = lines_of (drop (c.at + d + 1) text)

    stands : Standing text c.at d
    stands = found_whole text c f found d e

    pub room : (2 ≤ d) × (c.at + d < length text)
    room = (omega (arith, stands.1, stands.2), stands.0)

    module _ (short : length text < 2 ^ 64) where
      next_is : f.next ≡ cursor (c.at + d + 1) (c.line + 1)
      next_is = found_next text c f found d e short b.few

      -- the cursor moves on
      pub onward : length text - f.next.at < length text - c.at
      onward = rw next_is (omega (arith, stands.0))

    module _ (s : Step) (g : s ≡ framed first n) where
      -- the step, from the program's own counts
      step_is : s ≡ framed first (counts_of b.program)
      step_is = rw b.counted at g

      pub at_fault : (ws : List ℕ) → (s.number ≡ 0 → ⊥) → Walked (whole_reading text) (stop s.number c.line) ws
      at_fault ws h =
          let k : (framed first (counts_of b.program)).number ≡ 0 → ⊥ =
          λ z. h (ap (λ (x : Step). x.number) step_is ∙ z) in
          let r = falling b.program first others c.line stands.4 k in
          rw step_is
          (walked_refused (whole_reading text) (framed first (counts_of b.program)).number c.line ws
          (rest (first ∷ others) stands.3 ∙ r.0)
          r.1
          r.2)

      pub after : length text < 2 ^ 64 → (t' : List ℕ) → s.number ≡ 0 → t' ≡ framed_tables first n t
          → Before text t' f.next s.counts
      after short t' z h =
          let z' : (framed first (counts_of b.program)).number ≡ 0 = rw step_is at z in
          let o : Going b.program first others c.line =
          going b.program first others c.line stands.4 b.limited z' in
          rw (next_is short)
          record {
            program = o.next;
            within = omega (arith, stands.0);
            few = omega (arith, b.few);
            limited = o.limited;
            counted = ap (λ (x : Step). x.counts) step_is ∙ sym o.counts;
            tables = (rw (b.counted, b.tables) at h) ∙ sym o.tables;
            reads = rest (first ∷ others) stands.3 ∙ o.reads;
          }
