-- One frame taken where a walk stands: each way that it ends. Assumes nothing.
use mathlib.Core.Path.{◌≡◌, sym, ◌∙◌}
use mathlib.Core.Bool.{true}
use mathlib.Core.List.{List, [], ◌∷◌}
use Prim.Native.Nat.{ℕ, ◌+◌, ◌≤◌, ◌<◌, ◌^◌}
use native.Mathlib.Omega.{arith}
use lib.ListN.{length, drop}
use borrow.Author.Tests.{eq-eqb, ne_eqb}
use Rattle.text.specs.declared.LineRead.TheVariants.{Whole, Broken, End}
use Rattle.text.specs.Hex.{Line, all_digits, lines_of}
use Rattle.text.proofs.Lines.{whole_digits}
use Rattle.lines.specs.declared.Found.{Found}
use Rattle.lines.specs.Cursors.{cursor, found_at}
use Rattle.lines.proofs.Cursors.{Standing, found_none, found_broken, found_whole, found_next}
use Rattle.program.specs.Program.{Program}
use Rattle.reader.specs.Inside.{line_at}
use Rattle.claim.specs.declared.Status.{Status}
use Rattle.claim.specs.Frames.{Due}
use Rattle.claim.specs.ReadClaim.{reached, take_frame}
use Rattle.claim.specs.Inside.{take_whole, after_line, status, Placed, progress_of}

module _ (p : Program) (d : Due) (text : List ℕ) (c : Status) (ws : List ℕ) where
  -- a walk that has stopped stays so
  pub frame_stopped : (c.number ≡ 0 → ⊥) → progress_of text c ws ≡ take_frame p d (progress_of text c ws)
  unfolding take_frame
  frame_stopped h = rw (ne_eqb c.number 0 h)

  module _ (z : c.number ≡ 0) (f : Found) (found : f ≡ found_at text c.place) where
    progress_is : (ls : List Line) → lines_of (drop c.place.at text) ≡ ls
        → progress_of text c ws ≡ reached ls c.place.line ws
    progress_is ls e = rw (eq-eqb c.number 0 z, e)

    pub frame_missing : f.read ≡ End → progress_of text (status 12 c.place) ws ≡ take_frame p d (progress_of text c ws)
    unfolding take_frame
    frame_missing e = rw (progress_is [] (found_none text c.place f found e))

    pub frame_broken : f.read ≡ Broken → progress_of text (status 10 c.place) ws ≡ take_frame p d (progress_of text c ws)
    unfolding take_frame
    frame_broken e =
        let (l, ls, h, w) = found_broken text c.place f found e in
        rw (progress_is (l ∷ ls) h, w)

    module _ (n : ℕ) (e : f.read ≡ Whole n) where
      -- the line, and the lines after it
      abbrev first : Line
      first = line_at text c.place.at n

      abbrev others : List Line
      others = lines_of (drop (c.place.at + n + 1) text)

      stands : Standing text c.place.at n
      stands = found_whole text c.place f found n e

      pub frame_room : (2 ≤ n) × (c.place.at + n < length text) × (all_digits first.bytes ≡ true)
      frame_room = (omega (arith, stands.1, stands.2), stands.0, whole_digits first.bytes stands.4)

      frame_whole : take_frame p d (progress_of text c ws) ≡ take_whole p d first others c.place.line ws
      unfolding take_frame
      frame_whole = rw (progress_is (first ∷ others) stands.3, stands.4)

      module _ (placed : Placed c text) (short : length text < 2 ^ 64) where
        next_is : f.next ≡ cursor (c.place.at + n + 1) (c.place.line + 1)
        next_is = found_next text c.place f found n e short placed.1

        pub frame_placed : Placed (status 0 f.next) text
        frame_placed = rw next_is (omega (arith, stands.0), omega (arith, placed.1))

      module _ (number : ℕ) (us : List ℕ)
          (h : (ls : List Line) → (m : ℕ) → after_line number ls m us ≡ take_whole p d first ls m ws) where
        told : after_line number others c.place.line us ≡ take_frame p d (progress_of text c ws)
        told = h others c.place.line ∙ sym frame_whole

        pub frame_refused : (number ≡ 0 → ⊥)
            → progress_of text (status number c.place) us ≡ take_frame p d (progress_of text c ws)
        frame_refused g = rw (ne_eqb number 0 g) (rw (ne_eqb number 0 g) at told)

        pub frame_taken : Placed c text → length text < 2 ^ 64 → number ≡ 0
            → progress_of text (status 0 f.next) us ≡ take_frame p d (progress_of text c ws)
        frame_taken placed short g = rw (next_is placed short) (rw (eq-eqb number 0 g) at told)
