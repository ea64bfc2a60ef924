-- The walk of a text's instructions: what is translated so far, and the rest. Assumes nothing.
use mathlib.Core.Path.{◌≡◌, refl, sym, ap, ◌∙◌}
use mathlib.Core.Bool.{Bool, true, false}
use mathlib.Core.List.{List, [], ◌∷◌, ◌++◌, map}
use Prim.Native.Nat.{ℕ, suc, ◌+◌, ◌≤◌, ◌<◌}
use native.Mathlib.Numerals.{add-one}
use native.Mathlib.Omega.{arith}
use lib.Dec.{leb}
use lib.ListN.{length, take, set, length-append, length-set}
use lib.Seq.{take-suc-set}
use borrow.Author.Tests.{leb-true}
use Rattle.text.proofs.Cases.{never}
use Rattle.instruction.specs.declared.Instruction.{Instruction}
use Rattle.instruction.specs.Test.{passes, under, ◌&◌, Holds}
use Rattle.instruction.specs.Word.{pick, word_of}
use Rattle.instruction.proofs.Laws.{holds}
use Rattle.std.specs.Prelude.{Result, Ok, Err}
use Rattle.translator.specs.declared.check.Fault.{Fault}
use Rattle.translator.specs.declared.check.Fault.TheVariants.{CutShort, Unknown, Broken}
use Rattle.units.specs.Units.{length_at, starts_of}
use Rattle.units.specs.Formats.{opcode_at}
use Rattle.units.specs.Frames.{frame_at, fine_at}
use Rattle.units.specs.Translate.{is_taken, Translation, refused, translated, before, translation_from, units_translation}
use Rattle.translator.specs.Inside.{from, checked_at, refusal_of, Walked}
use Rattle.translator.proofs.Walking.{here, goes_on_lem, ended}
use Rattle.units.proofs.Lengths.{taken_at}

-- instructions before a translation
abbrev joined : List Instruction → Translation → Translation
joined [] t = t
joined (i ∷ is) t = before i (joined is t)

joined_more : (is : List Instruction) (i : Instruction) (t : Translation) → joined is (before i t) ≡ joined (is ++ i ∷ []) t
joined_more [] i t = refl
joined_more (j ∷ is) i t = ap (before j) (joined_more is i t)

joined_refused : (is : List Instruction) (n l : ℕ) → joined is (refused n l) ≡ refused n l
joined_refused [] n l = refl
joined_refused (i ∷ is) n l = rw (joined_refused is n l)

joined_translated : (is : List Instruction) → joined is (translated []) ≡ translated is
joined_translated [] = refl
joined_translated (i ∷ is) = rw (joined_translated is)

map_more : (is : List Instruction) (i : Instruction) → map word_of (is ++ i ∷ []) ≡ map word_of is ++ word_of i ∷ []
map_more [] i = refl
map_more (j ∷ is) i = ap (λ (ws : List ℕ). word_of j ∷ ws) (map_more is i)

-- which of the tests failed
abbrev told : (c t g : Bool) → ℕ → Result ℕ Fault
told c t g w = pick c (pick t (pick g (Ok w) (Err Broken)) (Err Unknown)) (Err CutShort)

cut : (c t g : Bool) (w : ℕ) → told c t g w ≡ Err CutShort → c ≡ false
cut true true true w e = never (cc)
cut true true false w e = never (cc)
cut true false g w e = never (cc)
cut false t g w e = refl

unknown : (c t g : Bool) (w : ℕ) → told c t g w ≡ Err Unknown → (c ≡ true) × (t ≡ false)
unknown true true true w e = never (cc)
unknown true true false w e = never (cc)
unknown true false g w e = (refl, refl)
unknown false t g w e = never (cc)

broken : (c t g : Bool) (w : ℕ) → told c t g w ≡ Err Broken → (c ≡ true) × (t ≡ true) × (g ≡ false)
broken true true true w e = never (cc)
broken true true false w e = (refl, refl, refl)
broken true false g w e = never (cc)
broken false t g w e = never (cc)

good : (c t g : Bool) (w x : ℕ) → told c t g w ≡ Ok x → (c ≡ true) × (t ≡ true) × (g ≡ true) × (w ≡ x)
good true true true w x e = (refl, refl, refl, cc)
good true true false w x e = never (cc)
good true false g w x e = never (cc)
good false t g w x e = never (cc)

pub record Progress (us : List ℕ) (at k : ℕ) (words : List ℕ) : Type 0 where
  pub place : at ≤ length us
  pub few : k ≤ at
  pub most : k ≤ 32
  pub room : 32 ≤ length words
  pub done : List Instruction
  pub count : length done ≡ k
  pub kept : take k words ≡ map word_of done
  pub rest : units_translation us ≡ joined done (translation_from us (from us at) k)

pub begun : (us words : List ℕ) → 32 ≤ length words → Progress us 0 0 words
unfolding units_translation starts_of
begun us words e =
    record { place = omega arith; few = omega arith; most = omega arith; room = e; done = []; count = refl; kept = refl; rest = refl }

module _ (us : List ℕ) (at k : ℕ) (words : List ℕ) (p : Progress us at k words) where
  pub all_done : length us ≤ at → Walked (units_translation us) (Ok k) words
  unfolding translation_from
  all_done l =
      let e : units_translation us ≡ translated p.done = p.rest ∙ rw (ended us at l) (joined_translated p.done) in
      rw e (p.most, sym p.count, p.kept)

  module _ (l : at < length us) where
    abbrev c : Bool
    c = leb (at + length_at us at) (length us)

    abbrev t : Bool
    t = is_taken (opcode_at us at)

    abbrev g : Bool
    g = passes (fine_at us at & under k 32)

    stopped : (n : ℕ) → translation_from us (from us at) k ≡ refused n k → Walked (units_translation us) (Err (record { number = n; address = k })) words
    stopped n e = rw (p.rest ∙ ap (joined p.done) e ∙ joined_refused p.done n k) (refl, refl)

    pub was_cut : checked_at us at k ≡ Err CutShort → Walked (units_translation us) (Err (record { number = 25; address = k })) words
    unfolding translation_from
    was_cut e = stopped 25 (rw (here us at l, cut c t g (word_of (frame_at us at)) e))

    pub was_unknown : checked_at us at k ≡ Err Unknown → Walked (units_translation us) (Err (record { number = 26; address = k })) words
    unfolding translation_from
    was_unknown e =
        let h = unknown c t g (word_of (frame_at us at)) e in
        stopped 26 (rw (here us at l, h.0, h.1))

    pub was_broken : checked_at us at k ≡ Err Broken → Walked (units_translation us) (Err (record { number = 27; address = k })) words
    unfolding translation_from
    was_broken e =
        let h = broken c t g (word_of (frame_at us at)) e in
        stopped 27 (rw (here us at l, h.0, h.1, h.2))

    -- the same of any of the three
    pub was_refused : (f : Fault) → checked_at us at k ≡ Err f
        → Walked (units_translation us) (Err (record { number = refusal_of f; address = k })) words
    was_refused CutShort e = was_cut e
    was_refused Unknown e = was_unknown e
    was_refused Broken e = was_broken e

    module _ (w : ℕ) (e : checked_at us at k ≡ Ok w) where
      facts : (c ≡ true) × (t ≡ true) × (g ≡ true) × (word_of (frame_at us at) ≡ w)
      facts = good c t g (word_of (frame_at us at)) w e

      pub in_room : k < 32
      in_room = let h : Holds (fine_at us at & under k 32) = holds (fine_at us at & under k 32) facts.2 in h.1

      pub moves : 0 < length_at us at
      moves = taken_at us at facts.1

      pub inside : at + length_at us at ≤ length us
      inside = leb-true (at + length_at us at) (length us) facts.0

      next : translation_from us (from us at) k ≡ before (frame_at us at) (translation_from us (from us (at + length_at us at)) (suc k))
      unfolding translation_from
      next = rw (goes_on_lem us at l moves (let h = inside in omega arith), facts.0, facts.1, facts.2)

      pub goes : Progress us (at + length_at us at) (k + 1) (set words k w)
      goes =
          let m = moves in
          record {
            place = inside;
            few = omega (arith, p.few);
            most = (let r = in_room in omega arith);
            room = rw (length-set words k w) p.room;
            done = p.done ++ frame_at us at ∷ [];
            count = simp length-append (omega (arith, p.count));
            kept = rw (add-one k)
                (take-suc-set words k w (let r = in_room in omega (arith, p.room)) ∙ rw
                (map_more p.done (frame_at us at), p.kept, facts.3));
            rest = p.rest ∙ ap (joined p.done) next ∙ joined_more p.done (frame_at us at)
                (translation_from us (from us (at + length_at us at)) (suc k)) ∙ rw (add-one k);
          }
