-- What a translation says of each of its instructions: it is entire, its opcode is taken, 27 lets it pass, and its frame is the one of
-- its units. Assumes nothing.
use mathlib.Core.Path.{◌≡◌, refl, sym, ap}
use mathlib.Core.Bool.{Bool, true, false}
use mathlib.Core.List.{List, [], ◌∷◌}
use Prim.Native.Nat.{ℕ, zero, suc, ◌+◌, ◌≤◌, ◌<◌}
use native.Mathlib.Nat.{not-suc-le-zero, le_of_suc-le-suc, add-zero, zero-add}
use native.Mathlib.Omega.{arith}
use lib.Dec.{leb}
use lib.ListN.{length, get_or}
use borrow.Author.Tests.{leb-true}
use Rattle.text.specs.Hex.{lines_of}
use Rattle.text.proofs.Cases.{never}
use Rattle.instruction.specs.declared.Instruction.{Instruction}
use Rattle.instruction.specs.declared.Instruction.TheVariants.{Nop}
use Rattle.instruction.specs.Test.{Holds, passes, under, ◌&◌}
use Rattle.instruction.specs.Word.{pick}
use Rattle.instruction.proofs.Laws.{holds}
use Rattle.units.specs.Units.{one_line, units_of, length_at, starts_of, place_in}
use Rattle.units.specs.Formats.{opcode_at}
use Rattle.units.specs.Frames.{frame_at, fine_at}
use Rattle.units.specs.Translate.{is_taken, Translation, refused, translated, before}
use Rattle.units.specs.Translate.{translation_from, units_translation, translation}

-- the three tests pass, and what follows is translated
abbrev Passed : (c t g : Bool) → Instruction → Translation → List Instruction → Type 0
Passed c t g i r is =
    (c ≡ true) × (t ≡ true) × (g ≡ true) × (js : List Instruction) × (r ≡ translated js) × (is ≡ i ∷ js)

passed : (c t g : Bool) (i : Instruction) (r : Translation) (k : ℕ) (is : List Instruction)
    → pick c (pick t (pick g (before i r) (refused 27 k)) (refused 26 k)) (refused 25 k) ≡ translated is → Passed c t g i r is
passed true true true i (refused n l) k is e = never (cc)
passed true true true i (translated js) k is e = (refl, refl, refl, js, refl, cc)
passed true true false i r k is e = never (cc)
passed true false g i r k is e = never (cc)
passed false t g i r k is e = never (cc)

-- instruction i at address a, which starts at place x
pub record Taken (us : List ℕ) (x a : ℕ) (i : Instruction) : Type 0 where
  pub entire : x + length_at us x ≤ length us
  pub taken : is_taken (opcode_at us x) ≡ true
  pub fine : Holds (fine_at us x)
  pub small : a < 32
  pub same : i ≡ frame_at us x

module _ (us : List ℕ) where
  -- the instructions at starts xs, the first of which has address k
  abbrev Each : List ℕ → ℕ → List Instruction → Type 0
  Each xs k is = (a d : ℕ) → a < length xs → Taken us (get_or xs a d) (k + a) (get_or is a Nop)

  -- the first and the others
  each : (x : ℕ) (xs : List ℕ) (k : ℕ) (is js : List Instruction) → is ≡ frame_at us x ∷ js → Taken us x k (frame_at us x)
      → Each xs (suc k) js → Each (x ∷ xs) k is
  each x xs k is js q here more zero d l = rw (q, add-zero k) here
  each x xs k is js q here more (suc a) d l =
      let moved : k + suc a ≡ suc k + a = omega arith in
      rw (q, moved) (more a d (le_of_suc-le-suc l))

  taken_from : (xs : List ℕ) (k : ℕ) (is : List Instruction) → translation_from us xs k ≡ translated is
      → (length is ≡ length xs) × Each xs k is
  unfolding translation_from
  taken_from [] k is e = let none : [] ≡ is = cc in (ap length (sym none), λ a d l. absurd (not-suc-le-zero l))
  taken_from (x ∷ xs) k is e =
      let (c, t, g, js, r, q) =
      passed (leb (x + length_at us x) (length us)) (is_taken (opcode_at us x)) (passes (fine_at us x & under k 32)) (frame_at us x)
      (translation_from us xs (suc k)) k is e in
      let h : Holds (fine_at us x & under k 32) = holds (fine_at us x & under k 32) g in
      let here : Taken us x k (frame_at us x) =
      record { entire = leb-true (x + length_at us x) (length us) c; taken = t; fine = h.0; small = h.1; same = refl } in
      let (n, more) = taken_from xs (suc k) js r in
      (rw q (ap suc n), each x xs k is js q here more)

  -- an instruction for each start, and no other
  pub units_taken : (is : List Instruction) → units_translation us ≡ translated is
      → (length is ≡ length (starts_of us)) × ((a : ℕ) → a < length (starts_of us) → Taken us (place_in us a) a (get_or is a Nop))
  unfolding units_translation place_in
  units_taken is e =
      let (n, all) = taken_from (starts_of us) 0 is e in
      (n, λ a l. rw (zero-add a) at (all a (length us) l))

-- a text that is translated is one line, and its units are
from_units : (t : Bool) (r : Translation) (is : List Instruction) → pick t r (refused 2 1) ≡ translated is → r ≡ translated is
from_units true r is e = e
from_units false r is e = never (cc)

pub text_translated : (text : List ℕ) (is : List Instruction) → translation text ≡ translated is
    → units_translation (units_of text) ≡ translated is
unfolding translation
text_translated text is e = from_units (one_line (lines_of text)) (units_translation (units_of text)) is e
