-- What texts read to, by computation: the sample, each refusal with its number and line, the first bad line against the lowest
-- number, the limits. Assumes nothing.
use mathlib.Core.Path.{◌≡◌, refl}
use mathlib.Core.Bool.{Bool, true, ◌&&◌}
use mathlib.Core.List.{List, [], ◌∷◌}
use Prim.Native.Nat.{ℕ, zero, suc, ◌<◌}
use native.Mathlib.Omega.{arith}
use Prim.Native.String.{String, ◌++◌}
use lib.Dec.{eqb}
use lib.ListN.{length, replicate, length-replicate}
use borrow.Author.Tests.{lt-ltb}
use Rattle.text.specs.Hex.{lines_of, whole, all_digits, digit_of, number_from}
use Rattle.instruction.specs.Word.{instruction_of, fields_of, condition_of, operation_of, unary_of, signed_of}
use Rattle.program.specs.Program.{Program, class_count}
use Rattle.frame.specs.Frame.{kind_of}
use Rattle.values.specs.Values.{alike, repeated, value_mark, instruction_mark}
use Rattle.marks.specs.Marks.{marks_in, method_marks, marks, first_mark}
use Rattle.reader.specs.Read.{Reading, refused, taken, line_kind, line_fields, read_lines, judged, valued, read_program}
use Rattle.reader.specs.Sample.{bytes_of, sample}

-- document 01's sample
abbrev pub sample_program : Program
sample_program =
    record {
      supers = 255 ∷ 0 ∷ 1 ∷ 1 ∷ 1 ∷ [];
      fields = [];
      statics = 0;
      methods =
          record { header = 0x0000010100; code = 0x0d01000000000000 ∷ 0x1100000000000000 ∷ []; handlers = [] }
          ∷ record { header = 0x0001010100; code = 0x1100000000000000 ∷ []; handlers = [] }
          ∷ [];
    }

pub sample_reads : read_program (bytes_of sample) ≡ taken sample_program
unfolding read_program valued judged read_lines line_kind line_fields kind_of lines_of whole all_digits digit_of number_from
    marks marks_in method_marks first_mark value_mark instruction_mark repeated alike instruction_of fields_of
sample_reads = refl

-- a text and what it should give: a refusal, or number 0 and how many classes
record Row : Type 0 where
  text : String
  number : ℕ
  line : ℕ

abbrev row : String → ℕ → ℕ → Row
row text number line = record { text = text; number = number; line = line }

abbrev right : ℕ → ℕ → Reading → Bool
right number line (refused n l) = eqb n number && eqb l line
right number line (taken p) = eqb 0 number && eqb (class_count p) line

abbrev all_right : List Row → Bool
all_right [] = true
all_right (r ∷ rs) = right r.number r.line (read_program (bytes_of r.text)) && all_right rs

abbrev times : ℕ → String → String
times zero s = ""
times (suc n) s = s ++ times n s

-- the five classes that every program has; a static method 0 without arguments that returns
abbrev classes : String
classes = "01ff\n0100\n0101\n0101\n0101\n"

abbrev main : String
main = "040000010100\n061100000000000000\n"

abbrev rows : List Row
rows =
    row sample 0 5
    -- an empty text has no line: a class is missing at line 1
    ∷ row "" 4 1
    -- 2: another byte (a capital), odd digit count, empty line, missing line end
    ∷ row (classes ++ "040000010100\n06110000000000000G\n") 2 7
    ∷ row "01FF\n0100\n" 2 1
    ∷ row (classes ++ "04000001010\n") 2 6
    ∷ row (classes ++ "\n") 2 6
    ∷ row (classes ++ "040000010100\n061100000000000000") 2 7
    -- 3: unknown kind, wrong length
    ∷ row "01ff\n0700\n" 3 2
    ∷ row "01ff\n010000\n" 3 2
    -- 4: out of order, one class only, a method without instruction, nothing after the classes
    ∷ row (classes ++ "03\n0200\n" ++ main) 4 7
    ∷ row ("01ff\n" ++ main) 4 2
    ∷ row (classes ++ "040000010100\n040000010100\n") 4 7
    ∷ row classes 4 6
    ∷ row (classes ++ "040000010100\n") 4 7
    -- 60 classes pass, 61 are 4
    ∷ row (classes ++ times 55 "0100\n" ++ main) 0 60
    ∷ row (classes ++ times 56 "0100\n" ++ main) 4 61
    -- 5: a superclass number equal to its own, an unused field, a register, class and name repeated
    ∷ row ("01ff\n0101\n0101\n0101\n0101\n" ++ main) 5 2
    ∷ row (classes ++ "040000010100\n061100000000000001\n") 5 7
    ∷ row (classes ++ "040000010100\n061001000000000000\n") 5 7
    ∷ row (classes ++ main ++ main) 5 8
    -- of three handlers the last two, f not below t and g past the end: the upper line, which has the higher number
    ∷ row (classes ++ main ++ "0500010000\n0501010000\n0500010100\n") 5 9
    -- "under five classes is 4": two and four, where a method or a field stands, or one past the end
    ∷ row ("01ff\n0100\n" ++ main) 4 3
    ∷ row ("01ff\n0100\n0101\n0101\n" ++ main) 4 5
    ∷ row ("01ff\n0100\n0101\n0101\n0200\n" ++ main) 4 5
    ∷ row "01ff\n0100\n0101\n0101\n" 4 5
    -- "another superclass for 2 to 4 is 5", a lower one too
    ∷ row ("01ff\n0100\n0100\n0101\n0101\n" ++ main) 5 3
    ∷ row ("01ff\n0100\n0101\n0102\n0101\n" ++ main) 5 4
    ∷ row ("01ff\n0100\n0101\n0101\n0100\n" ++ main) 5 5
    -- 6: the last instruction falls through
    ∷ row (classes ++ "040000010100\n060000000000000000\n") 6 7
    -- the first bad line wins: 3 at line 2 before 2 at line 3; 4 at line 4 before 5 at line 2; 6 at line 4 before 5 at line 5
    ∷ row "01ff\n0700\n\n" 3 2
    ∷ row "01ff\n0105\n0101\n0101\n0101\n040000010100\n03\n" 4 7
    ∷ row (classes ++ "040000010100\n060000000000000000\n040900010100\n061100000000000000\n") 6 7
    -- the lowest number on a line: 2 before 3; 3 before 4; 5 before 6
    ∷ row "01ff\n07000\n" 2 2
    ∷ row "01ff\n0200ff\n" 3 2
    ∷ row (classes ++ "040000010100\n060000000000000001\n") 5 7
    ∷ []

pub rows_right : all_right rows ≡ true
unfolding read_program valued judged read_lines line_kind line_fields kind_of lines_of whole all_digits digit_of number_from
    marks marks_in method_marks first_mark value_mark instruction_mark repeated alike instruction_of fields_of condition_of
    operation_of unary_of signed_of
rows_right = refl

-- 1: every text over 65,536 bytes, at line 0; so 65,537 digits
pub too_long : (text : List ℕ) → 65536 < length text → read_program text ≡ refused 1 0
unfolding read_program
too_long text h = rw (lt-ltb 65536 (length text) h)

pub long_refused : read_program (replicate 65537 48) ≡ refused 1 0
long_refused = too_long (replicate 65537 48) (omega (arith, length-replicate {A = ℕ} 65537 48))
