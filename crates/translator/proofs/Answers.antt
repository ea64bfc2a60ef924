-- What is answered and left in memory where the text is refused, memory is short, or the frames fit. Assumes nothing.
use mathlib.Core.Path.{◌≡◌, refl, sym, ap, ◌∙◌}
use mathlib.Core.Bool.{true, false}
use mathlib.Core.List.{List}
use Prim.Native.Nat.{ℕ, ◌≤◌}
use lib.Dec.{ltb}
use lib.ListN.{length, take}
use Rattle.text.specs.Hex.{lines_of}
use Rattle.text.proofs.Cases.{never}
use Rattle.units.specs.Units.{one_line, units_of}
use Rattle.units.specs.Translate.{Translation, refused, translated, units_translation, translation, frame_lines, frames_text}
use Rattle.output.specs.declared.Output.{Output}
use Rattle.output.specs.declared.Output.TheVariants.{Refused, Written}
use Rattle.output.specs.Written.{fitting, answer_for, memory_after}
use Rattle.output.proofs.Laws.{written_front, fitted_written}
use Rattle.unit_machine.specs.Alike.{RunsAlike}
use Rattle.unit_machine.proofs.Alike.{runs_alike}
use Rattle.std.specs.Prelude.{Ok, Err}
use Rattle.translator.specs.declared.Refusal.{Refusal}
use Rattle.translator.specs.Translating.{with_translation, translating}
use Rattle.translator.specs.Inside.{Walked}

module _ (text before : List ℕ) where
  abbrev pub Done : Output → List ℕ → Type 0
  Done r after =
      (r ≡ answer_for (translating text (length before))) × (after ≡ memory_after (translating text (length before)) before)

  pub bad_text : one_line (lines_of text) ≡ false → Done (Refused 2 1) before
  unfolding translating translation
  bad_text e = rw e (refl, refl)

  module _ (one : one_line (lines_of text) ≡ true) (words : List ℕ) where
    by_units : translating text (length before) ≡ with_translation (length before) (units_translation (units_of text))
    unfolding translating translation
    by_units = rw one

    stopped : (t : Translation) (r : Refusal) → Walked t (Err r) words
        → (Refused r.number r.address ≡ answer_for (with_translation (length before) t)) ×
        (before ≡ memory_after (with_translation (length before) t) before)
    stopped (refused n l) r w = rw (w.0, w.1) (refl, refl)
    stopped (translated is) r w = absurd w

    pub refused_done : (r : Refusal) → Walked (units_translation (units_of text)) (Err r) words → Done (Refused r.number r.address) before
    refused_done r w = rw by_units (stopped (units_translation (units_of text)) r w)

    pub few : (count : ℕ) (t : Translation) → Walked t (Ok count) words → count ≤ 32
    few count (refused n l) w = absurd w
    few count (translated is) w = w.0

    ended : (count : ℕ) (t : Translation) → Walked t (Ok count) words
        → with_translation (length before) t ≡ fitting (length before) (frame_lines (take count words))
    ended count (refused n l) w = absurd w
    ended count (translated is) w = ap (λ (ws : List ℕ). fitting (length before) (frame_lines ws)) (sym w.2)

    pub written_done : (count : ℕ) → Walked (units_translation (units_of text)) (Ok count) words → (r : Output) (after : List ℕ)
        → (r ≡ answer_for (fitting (length before) (frame_lines (take count words))))
        × (after ≡ memory_after (fitting (length before) (frame_lines (take count words))) before)
        → Done r after
    written_done count w r after h = rw (by_units, ended count (units_translation (units_of text)) w) h

  -- what is written, put as a method's frames into a program that the reader takes, runs as the units do
  pub done_alike : (r : Output) (after : List ℕ) → Done r after → (n : ℕ) → r ≡ Written n → RunsAlike text (take n after)
  unfolding translating
  done_alike r after h n e = by_translation (translation text) refl (sym e ∙ h.0) h.1
    where
      by_translation : (t : Translation) → translation text ≡ t → Written n ≡ answer_for (with_translation (length before) t)
          → after ≡ memory_after (with_translation (length before) t) before → RunsAlike text (take n after)
      by_translation (refused number line) q e g = never (cc)
      by_translation (translated is) q e g =
          let (s, x, front) = written_front (fitting (length before) (frames_text is)) before after n e g in
          rw (front, fitted_written (ltb (length before) (length (frames_text is))) (frames_text is) s x) (runs_alike text is q)
