-- Every row of document 01's marked cases holds: one test that is computed over the whole table, and the law that turns it into each
-- row. Assumes nothing.
use Rattle.std.specs.Prelude.{Option, Some, None}
use mathlib.Core.Path.{◌≡◌, refl, ap, subst⁻¹}
use mathlib.Core.Bool.{Bool, true, false, ◌&&◌}
use mathlib.Core.List.{List, [], ◌∷◌, Memᴰ}
use Prim.Native.Nat.{ℕ}
use lib.Dec.{eqb}
use lib.IntN.{ℤ, pos, negsuc}
use borrow.Author.Tests.{eqb-true}
use Rattle.text.specs.Hex.{lines_of, whole, all_digits, digit_of, number_from}
use Rattle.page.specs.Digits.{digit_of as printed_digit}
use Rattle.text.proofs.Cases.{never, both_true}
use Rattle.instruction.specs.Word.{instruction_of, fields_of}
use Rattle.mask.specs.Mask.{has, subset, has_number}
use Rattle.arithmetic.specs.Arithmetic.{wrapped, computed, unary_value, same_number}
use Rattle.search.specs.Search.{below_in, has_field}
use Rattle.frame.specs.Frame.{kind_of}
use Rattle.values.specs.Values.{alike, repeated, value_mark, instruction_mark}
use Rattle.marks.specs.Marks.{marks_in, method_marks, marks, first_mark}
use Rattle.reader.specs.Read.{line_kind, line_fields, read_lines, judged, valued, read_program}
use Rattle.reader.specs.Sample.{bytes_of}
use Rattle.machine.specs.Run.{step}
use Rattle.turn.specs.Stop.{stop_of}
use Rattle.bounded.specs.Bounded.{steps, bounded}
use Rattle.bounded.specs.Step.{stepping_number}
use Rattle.bounded.specs.Lent.{lending}
use Rattle.cells.specs.Cells.{frames_of}
use Rattle.flow.specs.Verdict.{verdict}
use Rattle.flow.specs.Calls.{call_list}
use Rattle.slots.specs.Layout.{row_of, place_of, claim_in, no_masks}
use Rattle.claim.specs.Allowed.{full_claim}
use Rattle.claim.specs.Frames.{part_due, frames_due}
use Rattle.claim.specs.ReadClaim.{digits_from, known, is_due, masks_from, take_frame, ended, read_claim}
use Rattle.checker.specs.Check.{checking}
use Rattle.response.specs.Claimed.{checking_of, said}
use Rattle.marked.specs.Marked.{Row, binary, unary, prints, stops, stepped, open_frames, bottom_address, Holds, marked}

-- ---- the test of a row, and of a table
abbrev is_number : Option ℤ → ℤ → Bool
is_number (Some x) z = same_number x z
is_number None z = false

abbrev same_bytes : List ℕ → List ℕ → Bool
same_bytes [] [] = true
same_bytes [] (y ∷ ys) = false
same_bytes (x ∷ xs) [] = false
same_bytes (x ∷ xs) (y ∷ ys) = eqb x y && same_bytes xs ys

abbrev passes : Row → Bool
passes (binary operation left right due) = is_number (computed operation left right) due
passes (unary operation operand due) = same_number (unary_value operation operand) due
passes (prints panel claim due) = same_bytes (said (bytes_of panel) (bytes_of claim)) (bytes_of due)
passes (stops panel n number frames address) =
    eqb (stepping_number (stepped panel n)) number
    && (eqb (open_frames (stepped panel n)) frames && eqb (bottom_address (stepped panel n)) address)

abbrev all_pass : List Row → Bool
all_pass [] = true
all_pass (r ∷ rs) = passes r && all_pass rs

-- ---- a test that is passed says that the row holds

same_number_lem : (x y : ℤ) → same_number x y ≡ true → x ≡ y
same_number_lem (pos a) (pos b) e = ap pos (eqb-true a b e)
same_number_lem (pos a) (negsuc b) e = never (cc)
same_number_lem (negsuc a) (pos b) e = never (cc)
same_number_lem (negsuc a) (negsuc b) e = ap negsuc (eqb-true a b e)

is_number_lem : (x : Option ℤ) (z : ℤ) → is_number x z ≡ true → x ≡ Some z
is_number_lem (Some x) z e = ap Some (same_number_lem x z e)
is_number_lem None z e = never (cc)

same_bytes_lem : (xs ys : List ℕ) → same_bytes xs ys ≡ true → xs ≡ ys
same_bytes_lem [] [] e = refl
same_bytes_lem [] (y ∷ ys) e = never (cc)
same_bytes_lem (x ∷ xs) [] e = never (cc)
same_bytes_lem (x ∷ xs) (y ∷ ys) e =
    let h = both_true (eqb x y) (same_bytes xs ys) e in
    rw (eqb-true x y h.0, same_bytes_lem xs ys h.1)

passed_holds : (r : Row) → passes r ≡ true → Holds r
passed_holds (binary operation left right due) e = is_number_lem (computed operation left right) due e
passed_holds (unary operation operand due) e = same_number_lem (unary_value operation operand) due e
passed_holds (prints panel claim due) e = same_bytes_lem (said (bytes_of panel) (bytes_of claim)) (bytes_of due) e
passed_holds (stops panel n number frames address) e =
    let x = stepped panel n in
    let h = both_true (eqb (stepping_number x) number) (eqb (open_frames x) frames && eqb (bottom_address x) address) e in
    let k = both_true (eqb (open_frames x) frames) (eqb (bottom_address x) address) h.1 in
    (eqb-true (stepping_number x) number h.0, eqb-true (open_frames x) frames k.0, eqb-true (bottom_address x) address k.1)

each_holds : (rs : List Row) → all_pass rs ≡ true → (r : Row) → Memᴰ r rs → Holds r
each_holds [] e r m = elim m [ ]
each_holds (x ∷ xs) e r (Memᴰ.head p) = subst⁻¹ Holds p (passed_holds x (both_true (passes x) (all_pass xs) e).0)
each_holds (x ∷ xs) e r (Memᴰ.tail m) = each_holds xs (both_true (passes x) (all_pass xs) e).1 r m

-- ---- the table
all_pass_lem : all_pass marked ≡ true
unfolding marked wrapped computed unary_value said checking_of checking read_program valued judged read_lines line_kind line_fields kind_of
    lines_of whole all_digits digit_of printed_digit number_from marks marks_in method_marks first_mark value_mark instruction_mark repeated alike instruction_of
    fields_of read_claim frames_due part_due take_frame known is_due digits_from masks_from ended subset has full_claim verdict call_list has_number
    below_in has_field claim_in place_of row_of no_masks lending bounded steps stop_of step frames_of
all_pass_lem = refl

pub marked_hold : (r : Row) → Memᴰ r marked → Holds r
marked_hold = each_holds marked all_pass_lem
