-- The text of any least claim is the one defined, and it is read back as the least claim. Assumes nothing.
use mathlib.Core.Path.{◌≡◌, refl, sym, ◌∙◌}
use mathlib.Core.List.{List}
use Prim.Native.Nat.{ℕ}
use lib.Dec.{ltb}
use lib.ListN.{length, take, replicate}
use Rattle.text.proofs.Cases.{never}
use Rattle.program.specs.Program.{Program}
use Rattle.reader.specs.Formed.{Formed}
use Rattle.reader.specs.Read.{Reading, refused, taken, read_program}
use Rattle.reader.proofs.WellFormed.{well_formed}
use Rattle.slots.specs.Layout.{claim_in, no_masks}
use Rattle.order.specs.Order.{Least}
use Rattle.fixpoint.specs.LeastOf.{least_words}
use Rattle.fixpoint.proofs.Definition.{least_words_lem}
use Rattle.fixpoint.proofs.WordsFit.{Fits, words_fit, claim_fits}
use Rattle.wording.specs.ClaimText.{claim_text, words_of}
use Rattle.wording.proofs.LeastText.{read_back, read_least, least_text_lem}
use Rattle.output.specs.declared.Output.{Output}
use Rattle.output.specs.declared.Output.TheVariants.{Written}
use Rattle.output.specs.Written.{fitting, answer_for, memory_after}
use Rattle.output.proofs.Laws.{written_front, fitted_written}
use Rattle.writer.specs.Claimed.{least_text, with_program, writing, LeastFor}

pub text_is : (p : Program) → Formed p → (ws : List ℕ) → Fits ws → Least p (claim_in ws) → claim_text p (claim_in ws) ≡ least_text p
text_is p formed ws h l =
    least_text_lem p (claim_in ws) (claim_in (least_words p)) (claim_fits ws h) (claim_fits (least_words p) (words_fit p)) l (least_words_lem p formed)

-- ---- words that hold zeros hold no mask
pub none_are : (ws : List ℕ) → ws ≡ replicate 9712 0 → ws ≡ no_masks
unfolding no_masks
none_are ws e = e

module _ (program before : List ℕ) (n : ℕ) where
  by_reading : (x : Reading) → read_program program ≡ x → (after : List ℕ) → Written n ≡ answer_for (with_program (length before) x)
      → after ≡ memory_after (with_program (length before) x) before → LeastFor program (take n after)
  by_reading (refused number line) q after e g = never (cc)
  by_reading (taken p) q after e g =
      let formed = well_formed program p q in
      let fits = claim_fits (least_words p) (words_fit p) in
      let least = least_words_lem p formed in
      let (text, is, front) = written_front (fitting (length before) (least_text p)) before after n e g in
      let same : text ≡ least_text p = fitted_written (ltb (length before) (length (least_text p))) (least_text p) text is in
      record {
        p = p;
        program_read = q;
        masks = words_of p (claim_in (least_words p));
        claim_read = rw (front, same) (read_back p formed (claim_in (least_words p)) fits least);
        least = read_least p formed (claim_in (least_words p)) fits least;
      }

  pub least_for : (r : Output) (after : List ℕ) → r ≡ answer_for (writing program (length before))
      → after ≡ memory_after (writing program (length before)) before → r ≡ Written n → LeastFor program (take n after)
  unfolding writing
  least_for r after e g h = by_reading (read_program program) refl after (sym h ∙ e) g
