-- The sentence of document 02's Note 4 on runs: the places of a run read as addresses, and any methods may be units. Assumes nothing.
use mathlib.Core.Path.{◌≡◌, refl, sym, ap, ◌∙◌}
use mathlib.Core.Bool.{Bool, true, false}
use mathlib.Core.List.{List, [], ◌∷◌, map}
use Prim.Native.Nat.{ℕ}
use native.Mathlib.Omega.{arith}
use lib.Dec.{eqb}
use borrow.Author.Tests.{eqb-true}
use Rattle.std.specs.Prelude.{Some}
use Rattle.text.proofs.Cases.{never}
use Rattle.instruction.specs.declared.Instruction.{Instruction}
use Rattle.instruction.specs.Word.{pick, word_of}
use Rattle.program.specs.Lists.{Every}
use Rattle.program.specs.Program.{Program, method_at}
use Rattle.reader.specs.Formed.{Formed}
use Rattle.reader.proofs.WellFormed.{well_formed}
use Rattle.machine.specs.State.{Frame}
use Rattle.machine.specs.Run.{run}
use Rattle.units.specs.Units.{units_of}
use Rattle.units.specs.Translate.{translated, translation, frames_text}
use Rattle.unit_machine.specs.UnitRun.{Listing, unit_run}
use Rattle.unit_machine.specs.Alike.{Told, Translated, read_frames, read_state, placed_frames, Alike, no_units, also, RunsAlike}
use Rattle.unit_machine.proofs.Methods.{read_from}
use Rattle.unit_machine.proofs.Standing.{Inside, Standing, run_stands}
use Rattle.unit_machine.proofs.Run.{run_placed}
use Rattle.unit_machine.proofs.Lines.{same_words_lem, program_words, translated_words}

-- ---- places read as addresses
module _ (p : Program) (formed : Formed p) (u : Listing) (told : Translated p u) where
  callers_back : (fs : List Frame) → Every (Inside p) fs → read_frames u (placed_frames u fs) ≡ fs
  callers_back [] w = refl
  callers_back (f ∷ fs) w =
      let l = w.0 in
      rw (read_from p u told f.method f.address (omega arith), callers_back fs w.1)

  frames_back : (fs : List Frame) → Standing p fs → read_frames u (placed_frames u fs) ≡ fs
  frames_back [] w = refl
  frames_back (f ∷ fs) w = rw (read_from p u told f.method f.address w.0, callers_back fs w.1)

  run_read : (n : ℕ) → read_state u (unit_run p u n) ≡ run p n
  run_read n =
      ap (read_state u) (run_placed p formed u told n) ∙ rw (frames_back (run p n).frames (run_stands p formed n))

-- of a program that is well formed, whichever of its methods are units
pub alike : (p : Program) → Formed p → (u : Listing) → Translated p u → (n : ℕ) → Alike p u n
alike p formed u told n = record { places = run_placed p formed u told n; addresses = run_read p formed u told n }

-- ---- listings
-- no method is to be translated
pub none_translated : (p : Program) → Translated p no_units
none_translated p m us e = never (cc)

-- method m besides
module _ (p : Program) (m : ℕ) (text : List ℕ) (is : List Instruction) (given : translation text ≡ translated is)
    (code : (method_at p m).code ≡ map word_of is) (u : Listing) (told : Translated p u) where
  this : (k : ℕ) (us : List ℕ) → k ≡ m → units_of text ≡ us → Told p k us
  this k us here same = record { text = text; units = sym same; frames = is; given = given; code = rw here code }

  pub also_translated : Translated p (also m (units_of text) u)
  also_translated k us e = go (eqb k m) refl e
    where
      go : (t : Bool) → eqb k m ≡ t → pick t (Some (units_of text)) (u k) ≡ Some us → Told p k us
      go true q e = this k us (eqb-true k m q) (cc)
      go false q e = told k us e

-- "In a program the reader takes, a translated method, run by a machine over units, is after every number of steps in the state its
-- frames are in, unit places read as addresses."
pub runs_alike : (text : List ℕ) (is : List Instruction) → translation text ≡ translated is → RunsAlike text (frames_text is)
runs_alike text is given source p read m lines u told n =
    let formed = well_formed source p read in
    let code : (method_at p m).code ≡ map word_of is =
    same_words_lem (method_at p m).code (map word_of is) (program_words p formed m) (translated_words text is given) lines in
    alike p formed (also m (units_of text) u) (also_translated p m text is given code u told) n
