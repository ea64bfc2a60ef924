-- The claim reader reads a claim of allowed bits back from its text: the frames due have numbers that go into a byte, and their text is
-- short enough. Assumes nothing.
use mathlib.Core.Path.{◌≡◌, refl}
use mathlib.Core.Bool.{true}
use mathlib.Core.List.{List, [], ◌∷◌}
use Prim.Native.Nat.{ℕ, ◌<◌, ◌≤◌, ◌^◌}
use native.Mathlib.Omega.{arith}
use Rattle.instruction.proofs.Flags.{pick_cases}
use Rattle.mask.specs.Mask.{subset}
use Rattle.program.specs.Lists.{Every}
use Rattle.program.specs.Program.{Program}
use Rattle.program.proofs.Every.{every_append, every_joined}
use Rattle.reader.specs.Formed.{Formed}
use Rattle.search.specs.Search.{has_field}
use Rattle.flow.specs.Claim.{Slot, field_of, Claim}
use Rattle.claim.specs.declared.Part.{Part}
use Rattle.claim.specs.declared.Part.TheVariants.{Address, Field, Static, Returned, Leaving}
use Rattle.claim.specs.Allowed.{full_claim}
use Rattle.claim.specs.Frames.{due, outer, inner, frame_at, part_due, frames_due}
use Rattle.claim.specs.ReadClaim.{taken, read_claim}
use Rattle.wording.specs.ClaimText.{claim_text, words_of}
use Rattle.wording.proofs.Back.{Fine, text_read_by}
use Rattle.wording.proofs.Sizes.{text_most}

-- ---- one frame
fine : (k : ℕ) (ns : List ℕ) (ss : List Slot) → 17 ≤ k → k ≤ 21 → Every (λ n. n < 256) (k ∷ ns) → Fine (due (k ∷ ns) ss)
fine k ns ss low high bytes = record { kind = k; rest = ns; numbers_are = refl; low = low; high = high; bytes = bytes }

module _ (p : Program) (formed : Formed p) where
  fine_frame : (k : Part) (a b : ℕ) → a < outer p k → b < inner p k a → Every Fine (frame_at p k a b)
  fine_frame Address m pc la lb =
      let bytes : Every (λ n. n < 256) (17 ∷ m ∷ pc ∷ []) =
      (omega arith, (omega (arith, formed.limited.methods), (omega (arith, formed.limited.code m), tt))) in
      (fine 17 (m ∷ pc ∷ []) _ (omega arith) (omega arith) bytes, tt)
  fine_frame Field c x la lb =
      let bytes : Every (λ n. n < 256) (18 ∷ c ∷ x ∷ []) =
      (omega arith, (omega (arith, formed.limited.classes), (omega (arith, formed.limited.fields), tt))) in
      pick_cases (Every Fine) (has_field p c x) (due (18 ∷ c ∷ x ∷ []) (field_of c x ∷ []) ∷ []) []
      (λ _. (fine 18 (c ∷ x ∷ []) _ (omega arith) (omega arith) bytes, tt))
      (λ _. tt)
  fine_frame Static x i la lb =
      (fine 19 (x ∷ []) _ (omega arith) (omega arith) (omega arith, (omega (arith, formed.limited.statics), tt)), tt)
  fine_frame Returned m i la lb =
      (fine 20 (m ∷ []) _ (omega arith) (omega arith) (omega arith, (omega (arith, formed.limited.methods), tt)), tt)
  fine_frame Leaving m i la lb =
      (fine 21 (m ∷ []) _ (omega arith) (omega arith) (omega arith, (omega (arith, formed.limited.methods), tt)), tt)

  -- ---- all frames
  fine_part : (k : Part) → Every Fine (part_due p k)
  unfolding part_due
  fine_part k =
      every_joined Fine (outer p k) _
      (λ a la. every_joined Fine (inner p k a) (frame_at p k a) (λ b lb. fine_frame k a b la lb))

  fine_frames : Every Fine (frames_due p)
  unfolding frames_due
  fine_frames =
      every_append Fine (part_due p Address) _ (fine_part Address)
      (every_append Fine (part_due p Field) _ (fine_part Field)
      (every_append Fine (part_due p Static) _ (fine_part Static)
      (every_append Fine (part_due p Returned) _ (fine_part Returned) (fine_part Leaving))))

-- ---- the round trip: a claim of allowed bits is read back from its text
pub text_read : (p : Program) → Formed p → (c : Claim) → ((s : Slot) → (c s).bits < 2 ^ 64)
    → ((s : Slot) → subset (c s) (full_claim p s) ≡ true)
    → read_claim p (claim_text p c) ≡ taken (words_of p c)
text_read p formed c fits fine = text_read_by p c fits fine (fine_frames p formed) (omega (arith, text_most p formed c))
