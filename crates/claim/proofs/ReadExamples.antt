-- What claim texts read to, by computation: each refusal with its number and line, the first bad line against the lowest number,
-- allowed bits, frames of fields and statics. Assumes nothing.
use mathlib.Core.Path.{◌≡◌, refl}
use mathlib.Core.Bool.{Bool, true, ◌&&◌}
use mathlib.Core.List.{List, [], ◌∷◌}
use Prim.Native.Nat.{ℕ, ◌<◌}
use native.Mathlib.Omega.{arith}
use Prim.Native.String.{String, ◌++◌}
use lib.Dec.{eqb}
use lib.ListN.{length, replicate, length-replicate}
use borrow.Author.Tests.{lt-ltb}
use Rattle.text.specs.Hex.{lines_of, whole, all_digits, digit_of, number_from}
use Rattle.mask.specs.Mask.{has, subset}
use Rattle.program.specs.Program.{Program}
use Rattle.search.specs.Search.{below_in, has_field}
use Rattle.reader.specs.Sample.{bytes_of}
use Rattle.reader.proofs.Examples.{sample_program}
use Rattle.claim.specs.Allowed.{full_claim}
use Rattle.claim.specs.Frames.{part_due, frames_due}
use Rattle.claim.specs.ReadClaim.{Reading, refused, taken, digits_from, known, is_due, masks_from, take_frame, ended, read_claim}
use Rattle.claim.specs.Sample.{zeros, none, addresses, results, exceptions, sample_claim}

-- ---- masks as they stand in a text: all bits of a program of two classes, its class bits
abbrev all : String
all = "c000000000000003"

abbrev both : String
both = "0000000000000003"

-- ---- rows: a text for a program, and the number and line that it gives, 0 and 0 where it is taken
record Row : Type 0 where
  program : Program
  text : String
  number : ℕ
  line : ℕ

abbrev row : Program → String → ℕ → ℕ → Row
row program text number line = record { program = program; text = text; number = number; line = line }

abbrev right : ℕ → ℕ → Reading → Bool
right number line (refused n l) = eqb n number && eqb l line
right number line (taken ws) = eqb 0 number && eqb 0 line

abbrev all_right : List Row → Bool
all_right [] = true
all_right (r ∷ rs) = right r.number r.line (read_claim r.program (bytes_of r.text)) && all_right rs

abbrev sample : String → ℕ → ℕ → Row
sample = row sample_program

abbrev refusals : List Row
refusals =
    -- 10: another byte (a capital), odd digit count, empty line, missing line end
    sample ("11000A" ++ zeros ++ zeros ++ "\n") 10 1
    ∷ sample (addresses ++ "1400" ++ zeros ++ "0\n") 10 4
    ∷ sample (addresses ++ "\n" ++ results ++ exceptions) 10 4
    ∷ sample (addresses ++ results ++ "1500" ++ none ++ "\n1501" ++ none) 10 7
    -- 11: kinds below and above those of a claim, and those of a program
    ∷ sample ("100000" ++ zeros ++ zeros ++ "\n") 11 1
    ∷ sample (addresses ++ "1600" ++ zeros ++ "\n") 11 4
    ∷ sample "01ff\n" 11 1
    ∷ sample (addresses ++ "061100000000000000\n") 11 4
    -- 12: another method, another address, a mask too few, a mask too many, another kind
    ∷ sample ("110100" ++ zeros ++ zeros ++ "\n") 12 1
    ∷ sample ("110001" ++ zeros ++ zeros ++ "\n") 12 1
    ∷ sample ("110000" ++ zeros ++ "\n") 12 1
    ∷ sample ("110000" ++ zeros ++ zeros ++ zeros ++ "\n") 12 1
    ∷ sample (addresses ++ "1300" ++ zeros ++ "\n") 12 4
    ∷ sample (addresses ++ exceptions ++ results) 12 4
    -- 12: missing at the end, nothing at all, a frame too many
    ∷ sample (addresses ++ results ++ "1500" ++ none ++ "\n") 12 7
    ∷ sample "" 12 1
    ∷ sample (sample_claim ++ "1502" ++ none ++ "\n") 12 8
    ∷ sample (sample_claim ++ sample_claim) 12 8
    -- a frame too many that is no line, or of unknown kind
    ∷ sample (sample_claim ++ "\n") 10 8
    ∷ sample (sample_claim ++ "1600" ++ none ++ "\n") 11 8
    -- 13: bit 61, a class bit past the last class, in a register's mask and in the last; a number's bit in a mask of exceptions
    ∷ sample ("110000" ++ "2000000000000000" ++ zeros ++ "\n") 13 1
    ∷ sample ("110000" ++ zeros ++ "2000000000000000" ++ "\n") 13 1
    ∷ sample (addresses ++ "1400" ++ "0000000000000020" ++ "\n") 13 4
    ∷ sample (addresses ++ results ++ "1500" ++ zeros ++ "\n") 13 6
    ∷ sample (addresses ++ results ++ "1500" ++ none ++ "\n1501" ++ "0000000000000020" ++ "\n") 13 7
    ∷ []

abbrev orders : List Row
orders =
    -- the first bad line: 13 at line 1 before 10 at line 2; 12 at line 1 before 11 at line 2
    sample ("110000" ++ "2000000000000000" ++ zeros ++ "\n\n") 13 1
    ∷ sample ("110001" ++ zeros ++ zeros ++ "\n1600\n") 12 1
    -- the lowest number on a line: 10 before 11, 11 before 12, 12 before 13
    ∷ sample "160\n" 10 1
    ∷ sample "16\n" 11 1
    ∷ sample ("110001" ++ "2000000000000000" ++ zeros ++ "\n") 12 1
    ∷ []

-- two classes, of which the second has a field; a static; a method of two registers
abbrev pub small : Program
small =
    record {
      supers = 255 ∷ 0 ∷ [];
      fields = 1 ∷ [];
      statics = 1;
      methods = record { header = 0x0000010200; code = 0x1100000000000000 ∷ []; handlers = [] } ∷ [];
    }

-- its claim with all allowed bits
abbrev pub small_full : String
small_full = "110000" ++ all ++ all ++ all ++ "\n120100" ++ all ++ "\n1300" ++ all ++ "\n1400" ++ all ++ "\n1500" ++ both ++ "\n"

abbrev masks : List Row
masks =
    row small small_full 0 0
    -- class 0 does not have the field; it is due before the static
    ∷ row small ("110000" ++ all ++ all ++ all ++ "\n120000" ++ all ++ "\n") 12 2
    ∷ row small ("110000" ++ all ++ all ++ all ++ "\n1300" ++ all ++ "\n120100" ++ all ++ "\n") 12 2
    -- bits of a register's, the result's, the field's and the static's mask
    ∷ row small ("110000" ++ all ++ "e000000000000003" ++ all ++ "\n") 13 1
    ∷ row small ("110000" ++ all ++ all ++ "c000000000000007" ++ "\n") 13 1
    ∷ row small ("110000" ++ all ++ all ++ all ++ "\n120100" ++ "c000000000000007" ++ "\n") 13 2
    ∷ row small ("110000" ++ all ++ all ++ all ++ "\n120100" ++ all ++ "\n1300" ++ "e000000000000000" ++ "\n") 13 3
    ∷ []

pub refusals_right : all_right refusals ≡ true
unfolding read_claim frames_due part_due take_frame known is_due digits_from masks_from ended lines_of whole all_digits digit_of number_from
    subset has full_claim
refusals_right = refl

pub orders_right : all_right orders ≡ true
unfolding read_claim frames_due part_due take_frame known is_due digits_from masks_from ended lines_of whole all_digits digit_of number_from
    subset has full_claim
orders_right = refl

pub masks_right : all_right masks ≡ true
unfolding read_claim frames_due part_due take_frame known is_due digits_from masks_from ended lines_of whole all_digits digit_of number_from
    subset has full_claim has_field below_in
masks_right = refl

-- 9: every text over 262,144 bytes, at line 0; so 262,145 digits
pub too_long : (p : Program) (text : List ℕ) → 262144 < length text → read_claim p text ≡ refused 9 0
unfolding read_claim
too_long p text h = rw (lt-ltb 262144 (length text) h)

pub long_refused : (p : Program) → read_claim p (replicate 262145 48) ≡ refused 9 0
long_refused p = too_long p (replicate 262145 48) (omega (arith, length-replicate {A = ℕ} 262145 48))
