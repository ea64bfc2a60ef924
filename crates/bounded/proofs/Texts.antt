-- What texts and lent memory give, by computation: the sample, a word too few of each, a refused text. Assumes nothing.
use mathlib.Core.Path.{◌≡◌, refl, ap, ◌∙◌}
use mathlib.Core.List.{List, [], ◌∷◌, ◌++◌}
use Prim.Native.Nat.{ℕ}
use lib.ListN.{replicate, length-replicate}
use native.Mathlib.Omega.{arith}
use Prim.Native.String.{String}
use Rattle.text.specs.Hex.{lines_of, whole, all_digits, digit_of, number_from}
use Rattle.instruction.specs.Word.{instruction_of, fields_of}
use Rattle.frame.specs.Frame.{kind_of}
use Rattle.program.specs.Tables.{tables_of}
use Rattle.reader.specs.Read.{Reading, refused, line_kind, read_lines, valued, read_program, tables_after}
use Rattle.reader.specs.Sample.{bytes_of, sample}
use Rattle.reader.proofs.Examples.{sample_program, sample_reads}
use Rattle.machine.specs.Run.{step}
use Rattle.memory.specs.Memory.{frames_of, statics_of, frame_word}
use Rattle.turn.specs.Stop.{stop_of}
use Rattle.bounded.specs.Bounded.{steps, bounded}
use Rattle.bounded.specs.Step.{Stepping, turned_down, short, ran, stepping, stepping_number, stepping_values, frames_after, statics_after, tables_left}
use Rattle.bounded.proofs.Laws.{Untouched, text_refused, refused_untouched, memory_short, program_ran}

-- ---- the sample in one step, in memory of sevens, two words more than asked of each
abbrev sevens : ℕ → List ℕ
sevens n = replicate n 7

abbrev one : Stepping
one = stepping (bytes_of sample) 1 (sevens 610) (sevens 4354) (sevens 18)

ran_one : one ≡ ran (bounded sample_program 1)
ran_one =
    program_ran (bytes_of sample) 1 (sevens 610) (sevens 4354) (sevens 18) sample_program sample_reads
    (omega (arith, length-replicate {A = ℕ} 610 7))
    (omega (arith, length-replicate {A = ℕ} 4354 7))
    (omega (arith, length-replicate {A = ℕ} 18 7))

one_number : stepping_number one ≡ 22
unfolding bounded steps stop_of step instruction_of fields_of
one_number = ap stepping_number ran_one

one_values : stepping_values one ≡ 1 ∷ 2 ∷ 0 ∷ []
unfolding bounded steps stop_of step instruction_of fields_of
one_values = ap stepping_values ran_one

-- frame 0 is of method 0 and frame 1 of method 1, both at address 0
one_frames : frames_after one (sevens 610) ≡ replicate 19 0 ++ 1 ∷ replicate 588 0 ++ 7 ∷ 7 ∷ []
unfolding bounded steps stop_of step instruction_of fields_of frames_of frame_word
one_frames = ap (λ x. frames_after x (sevens 610)) ran_one

one_statics : statics_after one (sevens 18) ≡ replicate 16 0 ++ 7 ∷ 7 ∷ []
unfolding bounded steps stop_of step instruction_of fields_of statics_of
one_statics = ap (λ x. statics_after x (sevens 18)) ran_one

-- tables that are lent beside it hold the program
one_tables : tables_left one (read_program (bytes_of sample)) (sevens 768) ≡ tables_of sample_program
one_tables =
    ap (λ (x : Stepping). tables_left x (read_program (bytes_of sample)) (sevens 768)) ran_one
    ∙ ap (λ (r : Reading). tables_after r (sevens 768)) sample_reads

-- ---- "23: fewer than 32 frames, 256 objects of 16 cells or 16 statics": a word too few of each
abbrev lending : ℕ → ℕ → ℕ → Stepping
lending frames objects statics = stepping (bytes_of sample) 2 (sevens frames) (sevens objects) (sevens statics)

short_frames : lending 607 4352 16 ≡ short
short_frames = memory_short (bytes_of sample) 2 (sevens 607) (sevens 4352) (sevens 16) sample_program sample_reads refl

short_objects : lending 608 4351 16 ≡ short
short_objects = memory_short (bytes_of sample) 2 (sevens 608) (sevens 4351) (sevens 16) sample_program sample_reads refl

short_statics : lending 608 4352 15 ≡ short
short_statics = memory_short (bytes_of sample) 2 (sevens 608) (sevens 4352) (sevens 15) sample_program sample_reads refl

-- "untouched": tables too
short_tables : tables_left (lending 607 4352 16) (read_program (bytes_of sample)) (sevens 768) ≡ sevens 768
short_tables = ap (λ (x : Stepping). tables_left x (read_program (bytes_of sample)) (sevens 768)) short_frames

-- ---- a class is missing: 4 at line 2, whatever is lent, and it is untouched
abbrev one_class : String
one_class = "01ff\n"

one_class_lem : read_program (bytes_of one_class) ≡ refused 4 2
unfolding read_program valued read_lines line_kind kind_of lines_of whole all_digits digit_of number_from
one_class_lem = refl

module _ (n : ℕ) (frames objects statics : List ℕ) where
  given_refused : stepping (bytes_of one_class) n frames objects statics ≡ turned_down 4 2
  given_refused = text_refused (bytes_of one_class) n frames objects statics 4 2 one_class_lem

  given_untouched : Untouched (stepping (bytes_of one_class) n frames objects statics) frames objects statics
  given_untouched = refused_untouched (bytes_of one_class) n frames objects statics 4 2 one_class_lem

-- 4 comes before 23
none_lent : stepping (bytes_of one_class) 0 [] [] [] ≡ turned_down 4 2
none_lent = given_refused 0 [] [] []
