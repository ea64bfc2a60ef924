-- The claim reader reads a claim's text back. Assumes nothing.
use mathlib.Core.Path.{◌≡◌, refl, sym, ap, ◌∙◌}
use mathlib.Core.Bool.{true}
use mathlib.Core.List.{List, [], ◌∷◌, ◌++◌, append_assoc, append-nil}
use Prim.Native.Nat.{ℕ, ◌+◌, ◌*◌, ◌%◌, ◌<◌, ◌≤◌, ◌^◌}
use native.Mathlib.Omega.{arith}
use lib.ListN.{length, length-append}
use borrow.Author.Tests.{eq-eqb, lt-ltb, le-ltb, le-leb}
use Rattle.text.specs.Hex.{lines_of, whole, all_digits}
use Rattle.page.specs.Digits.{two}
use Rattle.mask.specs.Mask.{subset}
use Rattle.program.specs.Lists.{Every}
use Rattle.program.specs.Program.{Program}
use Rattle.flow.specs.Claim.{Slot, Claim}
use Rattle.slots.specs.Layout.{no_masks}
use Rattle.claim.specs.Allowed.{full_claim}
use Rattle.claim.specs.Frames.{Due, due, frames_due}
use Rattle.claim.specs.ReadClaim.{taken, digits_from, known, head, is_due, reached, take_frame, take_frames, ended, read_claim}
use Rattle.wording.specs.ClaimText.{numbers_text, masks_text, frame_text, frames_text, claim_text, put_masks, put_frames, words_of}
use Rattle.wording.proofs.Lines.{line, first_line_lem, part_at, two_number, numbers_length, numbers_digits, starts}
use Rattle.wording.proofs.Lines.{masks_length, masks_digits, masks_back}

-- the first number of a line
first_number : (k : ℕ) (ns after : List ℕ) → k < 256 → digits_from (line (numbers_text (k ∷ ns) ++ after)) 0 2 ≡ k
first_number k ns after l = part_at [] (two k) (numbers_text ns ++ after) 0 2 refl refl ∙ two_number k l

-- ---- frames that are due: a kind of a claim, and numbers that go into a byte
pub record Fine (d : Due) : Type 0 where
  pub kind : ℕ
  pub rest : List ℕ
  pub numbers_are : d.numbers ≡ kind ∷ rest
  pub low : 17 ≤ kind
  pub high : kind ≤ 21
  pub bytes : Every (λ n. n < 256) (kind ∷ rest)

module _ (p : Program) (c : Claim) (fits : (s : Slot) → (c s).bits < 2 ^ 64) (fine : (s : Slot) → subset (c s) (full_claim p s) ≡ true) where
  -- ---- one frame
  module _ (k : ℕ) (ns : List ℕ) (ss : List Slot) (low : 17 ≤ k) (high : k ≤ 21) (small : Every (λ n. n < 256) (k ∷ ns)) where
    bytes : List ℕ
    bytes = numbers_text (k ∷ ns) ++ masks_text c ss

    size : length bytes ≡ 2 * length (k ∷ ns) + 16 * length ss
    unfolding bytes
    size = length-append (numbers_text (k ∷ ns)) (masks_text c ss) ∙ omega (arith, numbers_length (k ∷ ns), masks_length c ss)

    digits : all_digits bytes ≡ true
    unfolding bytes
    digits = numbers_digits (k ∷ ns) (masks_text c ss) (masks_digits c ss)

    is_whole : whole (line bytes) ≡ true
    unfolding whole
    is_whole =
        let n = 2 * length (k ∷ ns) + 16 * length ss in
        let even : n % 2 ≡ 0 = omega arith in
        rw (digits, size, lt-ltb 0 n (omega arith)) (eq-eqb (n % 2) 0 even)

    kind_said : digits_from (line bytes) 0 2 ≡ k
    unfolding bytes
    kind_said = first_number k ns (masks_text c ss) small.0

    is_known : known (line bytes) ≡ true
    unfolding known
    is_known = rw (kind_said, le-leb 17 k low, le-leb k 21 high)

    is_due_lem : is_due (due (k ∷ ns) ss) (line bytes) ≡ true
    unfolding is_due bytes
    is_due_lem = rw (starts [] (k ∷ ns) (masks_text c ss) 0 small refl) (eq-eqb _ _ size)

    pub frame_back : (n : ℕ) (rest ws : List ℕ)
        → take_frame p (due (k ∷ ns) ss) (reached (lines_of (frame_text c (due (k ∷ ns) ss) ++ rest)) n ws)
        ≡ reached (lines_of rest) (n + 1) (put_masks c ss ws)
    unfolding take_frame bytes
    frame_back n rest ws =
        let lines : lines_of ((bytes ++ (10 ∷ [])) ++ rest) ≡ line bytes ∷ lines_of rest =
        ap lines_of (append_assoc bytes (10 ∷ []) rest) ∙ first_line_lem bytes rest digits in
        let front = numbers_text (k ∷ ns) in
        let masks = masks_back p c fits fine front ss (head (due (k ∷ ns) ss)) ws (sym (numbers_length (k ∷ ns))) in
        rw (lines, is_whole, is_known, is_due_lem, masks)

  -- ---- frames, one after another
  one_back : (d : Due) → Fine d → (n : ℕ) (rest ws : List ℕ)
      → take_frame p d (reached (lines_of (frame_text c d ++ rest)) n ws) ≡ reached (lines_of rest) (n + 1) (put_masks c d.slots ws)
  one_back d f n rest ws =
      let same : d ≡ due (f.kind ∷ f.rest) d.slots = ap (λ (ns : List ℕ). due ns d.slots) f.numbers_are in
      rw same (frame_back f.kind f.rest d.slots f.low f.high f.bytes n rest ws)

  frames_back : (ds : List Due) → Every Fine ds → (n : ℕ) (rest ws : List ℕ)
      → take_frames p ds (reached (lines_of (frames_text c ds ++ rest)) n ws) ≡ reached (lines_of rest) (n + length ds) (put_frames c ds ws)
  frames_back [] h n rest ws = ap (λ (i : ℕ). reached (lines_of rest) i ws) (omega arith)
  frames_back (d ∷ ds) h n rest ws =
      ap (λ (t : List ℕ). take_frames p ds (take_frame p d (reached (lines_of t) n ws))) (append_assoc (frame_text c d) (frames_text c ds) rest)
      ∙ ap (take_frames p ds) (one_back d h.0 n (frames_text c ds ++ rest) ws)
      ∙ frames_back ds h.1 (n + 1) rest (put_masks c d.slots ws)
      ∙ ap (λ (i : ℕ). reached (lines_of rest) i (put_frames c ds (put_masks c d.slots ws))) (omega arith)

  -- ---- what the claim reader reads
  pub text_read_by : Every Fine (frames_due p) → length (claim_text p c) ≤ 262144 → read_claim p (claim_text p c) ≡ taken (words_of p c)
  unfolding read_claim claim_text words_of lines_of ended
  text_read_by h l =
      let back = frames_back (frames_due p) h 1 [] no_masks in
      rw (le-ltb 262144 (length (frames_text c (frames_due p))) l, rw (append-nil (frames_text c (frames_due p))) at back)
