-- A method that is translated from units: its instructions, its places and its addresses. Assumes nothing.
use mathlib.Core.Path.{◌≡◌, refl, sym, ap, ◌∙◌}
use mathlib.Core.List.{List, [], ◌∷◌, map}
use Prim.Native.Nat.{ℕ, zero, suc, ◌+◌, ◌<◌, ◌≤◌}
use native.Mathlib.Nat.{not-suc-le-zero, le_of_suc-le-suc}
use native.Mathlib.Omega.{arith}
use lib.Dec.{ltb}
use lib.ListN.{length, get_or}
use borrow.Author.Tests.{ltb-true, ltb-false, lt-ltb, le-ltb}
use Rattle.std.specs.Prelude.{Option, Some, None}
use Rattle.text.proofs.Cases.{by_test}
use Rattle.instruction.specs.declared.Instruction.{Instruction}
use Rattle.instruction.specs.declared.Instruction.TheVariants.{Nop}
use Rattle.instruction.specs.Word.{instruction_of, word_of}
use Rattle.program.specs.Program.{Program, code_length, word_at, instruction_at}
use Rattle.units.specs.Units.{unit_at, length_at, starts_of, place_in}
use Rattle.units.specs.Frames.{frame_at}
use Rattle.units.proofs.Texts.{unit_below}
use Rattle.units.proofs.Starts.{place_start, place_inside, place_outside, place_next, address_back}
use Rattle.units.proofs.Lengths.{taken_at}
use Rattle.units.proofs.Taken.{Taken, units_taken, text_translated}
use Rattle.units.proofs.ReadBack.{read_back}
use Rattle.units.proofs.Small.{frame_small}
use Rattle.unit_machine.specs.UnitRun.{Listing, onward, end_of, to_address, to_place}
use Rattle.unit_machine.specs.Alike.{Told, Translated}

-- the words of instructions
length_words : (is : List Instruction) → length (map word_of is) ≡ length is
length_words [] = refl
length_words (i ∷ is) = ap suc (length_words is)

get_d_words : (is : List Instruction) (a : ℕ) → a < length is → get_or (map word_of is) a 0 ≡ word_of (get_or is a Nop)
get_d_words [] a l = absurd (not-suc-le-zero l)
get_d_words (i ∷ is) zero l = refl
get_d_words (i ∷ is) (suc a) l = get_d_words is a (le_of_suc-le-suc l)

-- ---- a method with units
module _ (p : Program) (m : ℕ) (us : List ℕ) (told : Told p m us) where
  -- a unit has four digits
  below : (k : ℕ) → unit_at us k < 65536
  below k = rw told.units (unit_below told.text k)

  known : (length told.frames ≡ length (starts_of us))
      × ((a : ℕ) → a < length (starts_of us) → Taken us (place_in us a) a (get_or told.frames a Nop))
  known = units_taken us told.frames (rw told.units (text_translated told.text told.frames told.given))

  -- an address for each start
  pub count : code_length p m ≡ length (starts_of us)
  count = ap length told.code ∙ length_words told.frames ∙ known.0

  -- the instruction at an address is the one of the units at its place
  pub taken : (a : ℕ) → a < code_length p m → Taken us (place_in us a) a (instruction_at p m a)
  taken a l =
      let i : a < length (starts_of us) = rw count at l in
      let t = known.1 a i in
      let k : a < length told.frames = rw known.0 i in
      let word : word_at p m a ≡ word_of (frame_at us (place_in us a)) =
      ap (λ (c : List ℕ). get_or c a 0) told.code ∙ get_d_words told.frames a k ∙ ap word_of t.same in
      record {
        entire = t.entire;
        taken = t.taken;
        fine = t.fine;
        small = t.small;
        same = ap instruction_of word ∙ read_back (frame_at us (place_in us a)) (frame_small us below (place_in us a) t.fine);
      }

  next : (a : ℕ) → a < code_length p m → place_in us a + length_at us (place_in us a) ≡ place_in us (suc a)
  next a l =
      let t = taken a l in
      sym (place_next us a (rw count at l) (taken_at us (place_in us a) t.taken) t.entire)

  inside : (a : ℕ) → ltb (place_in us a) (length us) ≡ ltb a (code_length p m)
  inside a =
      by_test (ltb a (code_length p m))
      (λ t. rw t (lt-ltb (place_in us a) (length us) (place_inside us a (rw count at (ltb-true a (code_length p m) t)))))
      (λ t.
      rw (t, place_outside us a (rw count at (ltb-false a (code_length p m) t)))
      (le-ltb (length us) (length us) (omega arith)))

-- ---- a method of a listing, with units or without
-- address 0 is at place 0
pub begin : (u : Listing) (m : ℕ) → to_place (u m) 0 ≡ 0
begin u m = go (u m)
  where
    go : (o : Option (List ℕ)) → to_place o 0 ≡ 0
    go None = refl
    go (Some us) = place_start us

module _ (p : Program) (u : Listing) (told : Translated p u) (m a : ℕ) where
  -- the place after the instruction is that of the next address
  pub onward_next : a < code_length p m → onward (u m) (to_place (u m) a) ≡ to_place (u m) (suc a)
  onward_next l = go (u m) refl
    where
      go : (o : Option (List ℕ)) → u m ≡ o → onward o (to_place o a) ≡ to_place o (suc a)
      go None e = refl
      go (Some us) e = next p m us (told m us e) a l

  -- a place is inside the method where its address is
  pub inside_alike : ltb (to_place (u m) a) (end_of p m (u m)) ≡ ltb a (code_length p m)
  inside_alike = go (u m) refl
    where
      go : (o : Option (List ℕ)) → u m ≡ o → ltb (to_place o a) (end_of p m o) ≡ ltb a (code_length p m)
      go None e = refl
      go (Some us) e = inside p m us (told m us e) a

  -- an address of the method, or its end, is read from its place
  pub read_from : a ≤ code_length p m → to_address (u m) (to_place (u m) a) ≡ a
  read_from l = go (u m) refl
    where
      go : (o : Option (List ℕ)) → u m ≡ o → to_address o (to_place o a) ≡ a
      go None e = refl
      go (Some us) e = address_back us a (rw (count p m us (told m us e)) at l)
