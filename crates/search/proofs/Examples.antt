-- The searches in a small program, by computation: three classes in a chain, and three methods of one name. Assumes nothing.
use mathlib.Core.Path.{◌≡◌, refl}
use mathlib.Core.Bool.{true, false}
use mathlib.Core.List.{List, [], ◌∷◌}
use Prim.Native.Nat.{ℕ, suc, ◌+◌, ◌*◌}
use lib.Dec.{eqb-zero-suc}
use Rattle.std.specs.Prelude.{Some, None}
use Rattle.program.specs.Program.{Method, Program, handler_at, handler_from, handler_class}
use Rattle.search.specs.Search.{below_in, below, has_field, answers, method_in, callee_in, virtual_callee, catches, handler_for}

-- a method of class c, name 7, with the kind k, one register and a arguments
method : ℕ → ℕ → ℕ → List ℕ → Method
method c k a handlers = record { header = (((c * 256 + 7) * 256 + k) * 256 + 1) * 256 + a; code = 0 ∷ []; handlers = handlers }

handler : ℕ → ℕ → ℕ → ℕ → ℕ
handler from to target class = ((from * 256 + to) * 256 + target) * 256 + class

-- class 1 redefines the method of class 0 with another argument count, and has a static one with the same. Method 0 has three
-- handlers, in the order of the text numbers 2, 1 and 0: at 2 to 5 for class 2, at 0 to 9 for class 1, at 0 to 9 for class 0
example : Program
example =
    record {
      supers = 255 ∷ 0 ∷ 1 ∷ [];
      fields = 1 ∷ [];
      statics = 0;
      methods =
          method 0 0 1 (handler 2 5 0 2 ∷ handler 0 9 0 1 ∷ handler 0 9 0 0 ∷ [])
          ∷ method 1 0 2 []
          ∷ method 1 1 1 []
          ∷ [];
    }

-- ---- classes
itself : below example 2 2 ≡ true
unfolding example below_in
itself = refl

two_above : below example 2 0 ≡ true
unfolding example below_in
two_above = refl

not_downward : below example 1 2 ≡ false
unfolding example below_in
not_downward = refl

-- class 0 is below no other, whatever the program
top : (p : Program) (c : ℕ) → below p 0 (suc c) ≡ false
unfolding below_in
top p c = eqb-zero-suc c

-- ---- fields: had by their class and below, not above
field_below : has_field example 2 0 ≡ true
unfolding example has_field below_in
field_below = refl

field_above : has_field example 0 0 ≡ false
unfolding example has_field below_in
field_above = refl

no_field : has_field example 2 1 ≡ false
unfolding example has_field below_in
no_field = refl

-- ---- virtual search: methods 1 and 2 of class 1 are passed by, one for its count and one for its kind
passed_by : virtual_callee example 2 7 1 ≡ Some 0
unfolding example method callee_in method_in answers
passed_by = refl

other_count : virtual_callee example 2 7 2 ≡ Some 1
unfolding example method callee_in method_in answers
other_count = refl

never_downward : virtual_callee example 0 7 2 ≡ None
unfolding example method callee_in method_in answers
never_downward = refl

-- ---- handlers by number: 0 is the last line, and the last number the first; there is no number 3
last_line : handler_class example 0 0 ≡ 0
unfolding example method handler
last_line = refl

first_line_lem : handler_from example 0 2 ≡ 2
unfolding example method handler
first_line_lem = refl

no_line : handler_at example 0 3 ≡ 0
unfolding example method handler
no_line = refl

-- ---- handler search: the highest number of those that fit, which is the first line
first_of_three : handler_for example 0 3 2 ≡ Some 2
unfolding example method handler handler_for catches below_in
first_of_three = refl

-- address 5 is the end of the first line, which it does not cover
past_its_end : handler_for example 0 5 2 ≡ Some 1
unfolding example method handler handler_for catches below_in
past_its_end = refl

-- address 1 is before its start
before_its_start : handler_for example 0 1 2 ≡ Some 1
unfolding example method handler handler_for catches below_in
before_its_start = refl

-- class 0 is below no class but itself
class_above : handler_for example 0 3 0 ≡ Some 0
unfolding example method handler handler_for catches below_in
class_above = refl

uncovered : handler_for example 0 9 2 ≡ None
unfolding example method handler handler_for catches below_in
uncovered = refl
