-- The effect of each instruction that does not stay in its frame, of what is read for it. Assumes nothing.
use mathlib.Core.Path.{◌≡◌}
use mathlib.Core.Bool.{Bool}
use Prim.Native.Nat.{ℕ}
use lib.IntN.{ℤ}
use borrow.Author.Tests.{ne_eqb}
use Rattle.std.specs.Prelude.{Option, Some, None}
use Rattle.instruction.specs.declared.Instruction.TheVariants.{NewInstance, InvokeVirtual, InvokeStatic, Return, ReturnVoid, Throw}
use Rattle.instruction.specs.Word.{pick, fields_of, instruction_of}
use Rattle.arithmetic.specs.Arithmetic.{is_zero}
use Rattle.program.specs.Program.{Program}
use Rattle.search.specs.Search.{below, virtual_callee}
use Rattle.machine.specs.declared.Effect.{Effect}
use Rattle.machine.specs.declared.Value.{Value}
use Rattle.machine.specs.declared.Value.TheVariants.{Number, Reference}
use Rattle.machine.specs.Decide.{not_object, call_of, virtual_call, throw}
use Rattle.instruction.proofs.Flags.{pick_cases}
use Rattle.site.specs.Site.{opcode_of, a_of, b_of, c_of}
use Rattle.shift.specs.declared.At.{At}
use Rattle.shift.specs.Places.{look_of}
use Rattle.shifting.specs.Shifting.{Leaving}

-- ---- the instruction of a word

pub make_chosen : (w : ℕ) → opcode_of w ≡ 7 → instruction_of w ≡ NewInstance (a_of w) (b_of w)
unfolding opcode_of a_of b_of instruction_of fields_of
make_chosen w e = rw e

pub virtual_chosen : (w : ℕ) → opcode_of w ≡ 12 → instruction_of w ≡ InvokeVirtual (a_of w) (b_of w) (c_of w)
unfolding opcode_of a_of b_of c_of instruction_of fields_of
virtual_chosen w e = rw e

pub static_chosen : (w : ℕ) → opcode_of w ≡ 13 → instruction_of w ≡ InvokeStatic (a_of w) (b_of w) (c_of w)
unfolding opcode_of a_of b_of c_of instruction_of fields_of
static_chosen w e = rw e

pub return_chosen : (w : ℕ) → opcode_of w ≡ 16 → instruction_of w ≡ Return (a_of w)
unfolding opcode_of a_of instruction_of fields_of
return_chosen w e = rw e

pub void_chosen : (w : ℕ) → opcode_of w ≡ 17 → instruction_of w ≡ ReturnVoid
unfolding opcode_of instruction_of fields_of
void_chosen w e = rw e

pub throw_chosen : (w : ℕ) → opcode_of w ≡ 18 → instruction_of w ≡ Throw (a_of w)
unfolding opcode_of a_of instruction_of fields_of
throw_chosen w e = rw e

-- ---- the register that is read

pub first_virtual : (h : At) → h.opcode ≡ 12 → (look_of h).first ≡ c_of h.word
unfolding look_of
first_virtual h e = rw e

pub first_other : (h : At) → (h.opcode ≡ 12 → ⊥) → (look_of h).first ≡ a_of h.word
unfolding look_of
first_other h o = rw (ne_eqb h.opcode 12 o)

-- ---- a virtual call, a throw and a new object do not stay

either : (t : Bool) (d e : Effect) → Leaving d → Leaving e → Leaving (pick t d e)
either t d e h k = pick_cases Leaving t d e (λ _. h) (λ _. k)

not_object_lem : (z : ℤ) → Leaving (not_object z)
not_object_lem z = either (is_zero z) _ _ tt tt

call_leaves : (r : Option ℕ) (c : ℕ) → Leaving (call_of r c)
call_leaves (Some m) c = tt
call_leaves None c = tt

pub virtual_leaves : (p : Program) (k n b c : ℕ) (v : Value) → Leaving (virtual_call p k n b c v)
virtual_leaves p k n b c (Number z) = not_object_lem z
virtual_leaves p k n b c (Reference o) = call_leaves (virtual_callee p k n b) c

pub throw_leaves : (p : Program) (k : ℕ) (v : Value) → Leaving (throw p k v)
throw_leaves p k (Number z) = not_object_lem z
throw_leaves p k (Reference o) = either (below p k 1) _ _ tt tt
