-- What a virtual call and a throw decide: a call, an object that is pending, a new one that is raised, or a fault. Assumes nothing.
use Rattle.std.specs.Prelude.{Option, Some, None}
use mathlib.Core.Path.{◌≡◌}
use mathlib.Core.Bool.{Bool, true, false}
use mathlib.Core.List.{List, [], ◌∷◌}
use Prim.Native.Nat.{ℕ, zero, suc}
use lib.IntN.{ℤ, pos, negsuc}
use denote.Enum.Declared.{tag_of}
use types.Run.{OneOf, miss}
use Rattle.instruction.specs.Word.{pick}
use Rattle.program.specs.Program.{Program}
use Rattle.search.specs.Search.{below, virtual_callee}
use Rattle.machine.specs.declared.Value.{Value}
use Rattle.machine.specs.declared.Value.TheVariants.{Number, Reference}
use Rattle.machine.specs.declared.Fault.{Fault}
use Rattle.machine.specs.declared.Effect.{Effect}
use Rattle.machine.specs.declared.Effect.TheVariants.{Raise, Fail}
use Rattle.machine.specs.Decide.{not_object, call_of, virtual_call, throw}
use Rattle.machine.specs.contracts.Effect.{the_type}

-- the effects that a virtual call does not decide, and those that a throw does not
abbrev uncalled : List ℕ
uncalled = 0 ∷ 1 ∷ 2 ∷ 3 ∷ 4 ∷ 5 ∷ 6 ∷ 7 ∷ 9 ∷ 10 ∷ []

abbrev unthrown : List ℕ
unthrown = 0 ∷ 1 ∷ 2 ∷ 3 ∷ 4 ∷ 5 ∷ 6 ∷ 7 ∷ 8 ∷ 9 ∷ []

faulted : {A : Type 0} (z : ℤ) → OneOf uncalled (tag_of the_type (not_object z)) → A
faulted (pos zero) k = absurd (miss uncalled _ tt k)
faulted (pos (suc n)) k = absurd (miss uncalled _ tt k)
faulted (negsuc n) k = absurd (miss uncalled _ tt k)

called : {A : Type 0} (r : Option ℕ) (c : ℕ) → OneOf uncalled (tag_of the_type (call_of r c)) → A
called (Some m) c k = absurd (miss uncalled _ tt k)
called None c k = absurd (miss uncalled _ tt k)

virtual : {A : Type 0} (p : Program) (k n b c : ℕ) (v : Value)
    → OneOf uncalled (tag_of the_type (virtual_call p k n b c v)) → A
virtual p k n b c (Number z) j = faulted z j
virtual p k n b c (Reference o) j = called (virtual_callee p k n b) c j

pub virtual_else : {A : Type 0} (p : Program) (k n b c : ℕ) (v : Value) (e : Effect) → e ≡ virtual_call p k n b c v
    → OneOf uncalled (tag_of the_type e) → A
virtual_else p k n b c v e q j = virtual p k n b c v (rw (← q) j)

unraised : {A : Type 0} (z : ℤ) → OneOf unthrown (tag_of the_type (not_object z)) → A
unraised (pos zero) k = absurd (miss unthrown _ tt k)
unraised (pos (suc n)) k = absurd (miss unthrown _ tt k)
unraised (negsuc n) k = absurd (miss unthrown _ tt k)

thrown : {A : Type 0} (x : Bool) (o : ℕ) (e : Fault) → OneOf unthrown (tag_of the_type (pick x (Raise o) (Fail e))) → A
thrown true o e k = absurd (miss unthrown _ tt k)
thrown false o e k = absurd (miss unthrown _ tt k)

throws : {A : Type 0} (p : Program) (k : ℕ) (v : Value) → OneOf unthrown (tag_of the_type (throw p k v)) → A
throws p k (Number z) j = unraised z j
throws p k (Reference o) j = thrown (below p k 1) o _ j

pub throw_else : {A : Type 0} (p : Program) (k : ℕ) (v : Value) (e : Effect) → e ≡ throw p k v
    → OneOf unthrown (tag_of the_type e) → A
throw_else p k v e q j = throws p k v (rw (← q) j)
