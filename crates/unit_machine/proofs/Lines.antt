-- Two lists of words whose lines of frames are the same are the same, if the words are below 2 to the 64th; and the words of a program
-- that is well formed are. Assumes nothing.
use mathlib.Core.Path.{◌≡◌, refl, sym, ap, ◌∙◌}
use mathlib.Core.List.{List, [], ◌∷◌, map}
use Prim.Native.Nat.{ℕ, suc, ◌<◌, ◌^◌}
use native.Mathlib.Omega.{arith}
use lib.ListN.{length, get_or, take, drop}
use Rattle.text.specs.Hex.{number_of}
use Rattle.text.proofs.Cases.{never}
use Rattle.instruction.specs.declared.Instruction.{Instruction}
use Rattle.instruction.specs.declared.Instruction.TheVariants.{Nop}
use Rattle.instruction.specs.Word.{word_of}
use Rattle.page.specs.Digits.{sixteen}
use Rattle.program.specs.Lists.{Every}
use Rattle.program.specs.Program.{Program, word_at, instruction_at, method_at}
use Rattle.reader.specs.Formed.{Formed}
use Rattle.machine.proofs.Fitting.{method_exists}
use Rattle.page.proofs.Said.{sixteen_said}
use Rattle.units.specs.Units.{units_of, place_in}
use Rattle.units.specs.Translate.{translated, translation, frame_lines}
use Rattle.units.proofs.Texts.{unit_below}
use Rattle.units.proofs.Taken.{units_taken, text_translated}
use Rattle.units.proofs.ReadBack.{Small, word_below}
use Rattle.units.proofs.Small.{instruction_small, frame_small}

-- ---- lines of frames
abbrev Words : List ℕ → Type 0
Words ws = Every (λ (w : ℕ). w < 2 ^ 64) ws

same_word : (v w : ℕ) → v < 2 ^ 64 → w < 2 ^ 64 → sixteen v ≡ sixteen w → v ≡ w
same_word v w l h e = sym (sixteen_said v l) ∙ ap number_of e ∙ sixteen_said w h

-- the sixteen digits of a line's word, and the lines after it
digits_of_lem : (v w : ℕ) (vs ws : List ℕ) → frame_lines (v ∷ vs) ≡ frame_lines (w ∷ ws) → sixteen v ≡ sixteen w
digits_of_lem v w vs ws e = ap (λ (t : List ℕ). take 16 (drop 2 t)) e

lines_after : (v w : ℕ) (vs ws : List ℕ) → frame_lines (v ∷ vs) ≡ frame_lines (w ∷ ws) → frame_lines vs ≡ frame_lines ws
lines_after v w vs ws e = ap (drop 19) e

pub same_words_lem : (vs ws : List ℕ) → Words vs → Words ws → frame_lines vs ≡ frame_lines ws → vs ≡ ws
same_words_lem [] [] l h e = refl
same_words_lem [] (w ∷ ws) l h e = never (cc)
same_words_lem (v ∷ vs) [] l h e = never (cc)
same_words_lem (v ∷ vs) (w ∷ ws) l h e =
    let first : v ≡ w = same_word v w l.0 h.0 (digits_of_lem v w vs ws e) in
    let rest : vs ≡ ws = same_words_lem vs ws l.1 h.1 (lines_after v w vs ws e) in
    cc

-- ---- words
-- from each word at its place
each_word : (ws : List ℕ) → ((a : ℕ) → a < length ws → get_or ws a 0 < 2 ^ 64) → Words ws
each_word [] h = tt
each_word (w ∷ ws) h = (h 0 (omega arith), each_word ws (λ a l. h (suc a) (omega arith)))

-- those of a program: an instruction has its own word
pub program_words : (p : Program) → Formed p → (m : ℕ) → Words (method_at p m).code
program_words p formed m =
    each_word (method_at p m).code
    (λ a l.
    rw (← ((formed.methods m (method_exists p m a l)).words a l))
    (word_below (instruction_at p m a) (instruction_small (word_at p m a))))

-- those of a translation
small_words : (is : List Instruction) → ((a : ℕ) → a < length is → Small (get_or is a Nop)) → Words (map word_of is)
small_words [] h = tt
small_words (i ∷ is) h = (word_below i (h 0 (omega arith)), small_words is (λ a l. h (suc a) (omega arith)))

pub translated_words : (text : List ℕ) (is : List Instruction) → translation text ≡ translated is → Words (map word_of is)
translated_words text is e =
    let us = units_of text in
    let (count, each) = units_taken us is (text_translated text is e) in
    small_words is
    (λ a l.
    let t = each a (rw count at l) in
    rw t.same (frame_small us (unit_below text) (place_in us a) t.fine))
