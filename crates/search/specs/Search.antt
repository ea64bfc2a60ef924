-- The searches that checker and stepper share: superclass test, fields of a class, virtual search, handler search. Definitions
-- only.
use Rattle.std.specs.Prelude.{Bool, ◌&&◌, ◌||◌, ℕ, zero, suc, eqb, ltb, leb, Option, None}
use Rattle.std.specs.Option.{option_or}
use Rattle.instruction.specs.Word.{pick}
use Rattle.program.specs.Lists.{first, last}
use Rattle.program.specs.Program.{Program, superclass, field_count, field_class, method_count, method_class, method_name, method_kind, arguments, handler_count, handler_from, handler_to, handler_class}

-- class c is class top or below it, where n steps upward are enough. A superclass number that does not fall ends the way:
-- class 0 has ff
unfoldable pub below_in : ℕ → Program → ℕ → ℕ → Bool
below_in zero p c top = eqb c top
below_in (suc n) p c top = eqb c top || (ltb (superclass p c) c && below_in n p (superclass p c) top)

-- "c and below": the number falls at each step, so that c steps are enough
abbrev pub below : Program → ℕ → ℕ → Bool
below p c top = below_in c p c top

-- "instance field of class c, had by c and all below it"
unfoldable pub has_field : Program → ℕ → ℕ → Bool
has_field p c f = ltb f (field_count p) && below p c (field_class p f)

-- method m is virtual, of class c, with this name and argument count
unfoldable pub answers : Program → ℕ → ℕ → ℕ → ℕ → Bool
answers p c name count m =
    eqb (method_class p m) c
    && (eqb (method_name p m) name && (eqb (method_kind p m) 0 && eqb (arguments p m) count))

-- the method of class c itself that a virtual call leads to
unfoldable pub method_in : Program → ℕ → ℕ → ℕ → Option ℕ
method_in p c name count = first (method_count p) (answers p c name count)

-- the same in class c, then upward, where n steps are enough
unfoldable pub callee_in : ℕ → Program → ℕ → ℕ → ℕ → Option ℕ
callee_in zero p c name count = method_in p c name count
callee_in (suc n) p c name count =
    option_or (method_in p c name count)
    (pick (ltb (superclass p c) c) (callee_in n p (superclass p c) name count) None)

-- "Virtual calls look for name, argument count and kind 0 in the receiver's class, then upward"
abbrev pub virtual_callee : Program → ℕ → ℕ → ℕ → Option ℕ
virtual_callee p c name count = callee_in c p c name count

-- "covers f ≤ address < t .. catches c and below"
unfoldable pub catches : Program → ℕ → ℕ → ℕ → ℕ → Bool
catches p m pc c h =
    leb (handler_from p m h) pc && (ltb pc (handler_to p m h) && below p c (handler_class p m h))

-- document 02, note 3: "the search to go by rising number. It answers the highest number that fits .. and none just when none
-- fits": the handler of method m at address pc for an exception of class c
unfoldable pub handler_for : Program → ℕ → ℕ → ℕ → Option ℕ
handler_for p m pc c = last (handler_count p m) (catches p m pc c)
