-- What an instruction of a well-formed program decides, at the top frame of a shaped state, names only what exists. Assumes
-- nothing.
use Rattle.std.specs.Prelude.{Option, Some, None}
use mathlib.Core.Path.{◌≡◌, refl}
use mathlib.Core.Bool.{Bool, false}
use mathlib.Core.List.{List, ◌∷◌}
use Prim.Native.Nat.{ℕ, ◌+◌, ◌≤◌, ◌<◌}
use native.Mathlib.Omega.{arith}
use lib.Dec.{eqb, ltb}
use lib.IntN.{ℤ, pos}
use lib.ListN.{length, get_or-eq_default}
use borrow.Author.Tests.{ltb-true, ltb-false}
use Rattle.text.proofs.Cases.{by_test}
use Rattle.instruction.specs.declared.Condition.{Condition}
use Rattle.instruction.specs.declared.Condition.TheVariants.{Eq, Ne, Lt, Ge, Gt, Le}
use Rattle.instruction.specs.declared.Operation.{Operation}
use Rattle.instruction.specs.declared.Unary.{Unary}
use Rattle.instruction.specs.declared.Instruction.{Instruction}
use Rattle.instruction.specs.declared.Instruction.TheVariants.{Nop, Move, Const, Goto, If, IfZero, Binop, Unop, NewInstance, Iget, Iput, Sget, Sput, InvokeVirtual, InvokeStatic, MoveResult, MoveException, Return, ReturnVoid, Throw, InstanceOf, CheckCast}
use Rattle.instruction.specs.Test.{Holds}
use Rattle.instruction.specs.Word.{pick}
use Rattle.operands.specs.Names.{named}
use Rattle.arithmetic.specs.Arithmetic.{is_zero, computed, in_order}
use Rattle.program.specs.Program.{Program, class_count, field_count, method_count, registers, arguments, code_length, instruction_at}
use Rattle.values.specs.Values.{limits_of, call_test}
use Rattle.search.specs.Search.{below, has_field, virtual_callee}
use Rattle.reader.specs.Formed.{Formed}
use Rattle.machine.specs.declared.Value.{Value}
use Rattle.machine.specs.declared.Value.TheVariants.{Number, Reference}
use Rattle.machine.specs.declared.Effect.{Effect}
use Rattle.machine.specs.State.{Frame, State, null, register, class_of}
use Rattle.machine.specs.Decide.{not_object, computed_into, binop, unop, compared, branch, get_field, put_field, call_of, virtual_call, throw, instance_of, check_cast, decide}
use Rattle.program.specs.Lists.{Every}
use Rattle.machine.specs.Shaped.{Known, ShapedFrame, Shaped, Fitting}
use Rattle.instruction.proofs.Flags.{pick_cases}
use Rattle.machine.proofs.Found.{callee_fits}

-- past the last method there is no code
pub method_exists : (p : Program) (m pc : ℕ) → pc < code_length p m → m < method_count p
method_exists p m pc l =
    by_test (ltb m (method_count p)) (λ t. ltb-true m (method_count p) t)
    (λ t.
    let out : method_count p ≤ m = ltb-false m (method_count p) t in
    let none : pc < 0 = rw get_or-eq_default at l in
    absurd (omega arith))

module _ (p : Program) (five : 5 ≤ class_count p) (s : State) (f : Frame) where
  -- one of two effects that both fit
  either : (t : Bool) (d e : Effect) → Fitting p s f d → Fitting p s f e → Fitting p s f (pick t d e)
  either t d e h k = pick_cases (Fitting p s f) t d e (λ _. h) (λ _. k)

  not_object_lem : (z : ℤ) → Fitting p s f (not_object z)
  not_object_lem z = either (is_zero z) _ _ (omega arith) tt

  compared_fits : (c : Condition) (same : Bool) (d : ℕ) → d < code_length p f.method → Fitting p s f (compared c same d)
  compared_fits Eq same d l = either same _ _ l tt
  compared_fits Ne same d l = either same _ _ tt l
  compared_fits Lt same d l = tt
  compared_fits Ge same d l = tt
  compared_fits Gt same d l = tt
  compared_fits Le same d l = tt

  branch_fits : (c : Condition) (v w : Value) (d : ℕ) → d < code_length p f.method → Fitting p s f (branch c v w d)
  branch_fits c (Number x) (Number y) d l = either (in_order c x y) _ _ l tt
  branch_fits c (Number x) (Reference r) d l = compared_fits c false d l
  branch_fits c (Reference q) (Number y) d l = compared_fits c false d l
  branch_fits c (Reference q) (Reference r) d l = compared_fits c (eqb q r) d l

  throw_fits : (k : ℕ) (v : Value) → Known (length s.objects) v → Fitting p s f (throw p k v)
  throw_fits k (Number z) h = not_object_lem z
  throw_fits k (Reference o) h = either (below p k 1) _ _ h tt

  put_fits : (k x : ℕ) (u v : Value) → x < field_count p → Known (length s.objects) u → Known (length s.objects) v → Fitting p s f (put_field p k x u v)
  put_fits k x u (Number z) l g h = not_object_lem z
  put_fits k x u (Reference o) l g h = either (has_field p k x) _ _ (h, l, g) tt

  module _ (b c : ℕ) (l : c + b ≤ length f.registers) where
    call_fits : (r : Option ℕ) → ((m : ℕ) → r ≡ Some m → (m < method_count p) × (arguments p m ≡ b)) → Fitting p s f (call_of r c)
    call_fits (Some m) h = let g = h m refl in (g.0, rw g.1 l)
    call_fits None h = tt

    virtual_fits : (k n : ℕ) (v : Value) → Fitting p s f (virtual_call p k n b c v)
    virtual_fits k n (Number z) = not_object_lem z
    virtual_fits k n (Reference o) = call_fits (virtual_callee p k n b) (λ m. callee_fits p n b m k)

  -- what writes register a
  module _ (a : ℕ) (l : a < length f.registers) where
    computed_fits : (r : Option ℤ) → Fitting p s f (computed_into a r)
    computed_fits (Some z) = (l, tt)
    computed_fits None = omega arith

    binop_fits : (o : Operation) (v w : Value) → Fitting p s f (binop a o v w)
    binop_fits o (Number x) (Number y) = computed_fits (computed o x y)
    binop_fits o (Number x) (Reference q) = tt
    binop_fits o (Reference q) (Number y) = tt
    binop_fits o (Reference q) (Reference r) = tt

    unop_fits : (o : Unary) (v : Value) → Fitting p s f (unop a o v)
    unop_fits o (Number x) = (l, tt)
    unop_fits o (Reference q) = tt

    get_fits : (k x : ℕ) (v : Value) → x < field_count p → Known (length s.objects) v → Fitting p s f (get_field p k a x v)
    get_fits k x (Number z) h g = not_object_lem z
    get_fits k x (Reference o) h g = either (has_field p k x) _ _ (l, g, h) tt

    instance_fits : (k c : ℕ) (v : Value) → Fitting p s f (instance_of p k a c v)
    instance_fits k c (Number z) = either (is_zero z) _ _ (l, tt) tt
    instance_fits k c (Reference o) =
        (l, pick_cases (Known (length s.objects)) (below p k c) (Number (pos 1)) null (λ _. tt) (λ _. tt))

    cast_fits : (k c : ℕ) (v : Value) → Known (length s.objects) v → Fitting p s f (check_cast p k a c v)
    cast_fits k c (Number z) h = either (is_zero z) _ _ (l, tt) tt
    cast_fits k c (Reference o) h = either (below p k c) _ _ (l, h) (omega arith)

  module _ (shaped : ShapedFrame p (length s.objects) f) (size : length s.statics ≡ p.statics) where
    -- a register, and a static, that the method may name
    at : (a : ℕ) → a < registers p f.method → a < length f.registers
    at a l = rw shaped.size l

    place : (x : ℕ) → x < p.statics → x < length s.statics
    place x l = rw size l

    instruction_fits : (i : Instruction) → Holds (named (limits_of p f.method) i) → Holds (call_test p i) → Fitting p s f (decide p s f i)
    instruction_fits Nop h t = tt
    instruction_fits (Move a b) h t = (at a h.0, shaped.known b)
    instruction_fits (Const a d) h t = (at a h, tt)
    instruction_fits (Goto d) h t = h
    instruction_fits (If c a b d) h t = branch_fits c (register f a) (register f b) d h.1.1
    instruction_fits (IfZero c a d) h t = branch_fits c (register f a) null d h.1
    instruction_fits (Binop o a b c) h t = binop_fits a (at a h.0) o (register f b) (register f c)
    instruction_fits (Unop o a b) h t = unop_fits a (at a h.0) o (register f b)
    instruction_fits (NewInstance a b) h t = (at a h.0, h.1)
    instruction_fits (Iget a b c) h t =
        get_fits a (at a h.0) (class_of s (register f b)) c (register f b) h.1.1 (shaped.known b)
    instruction_fits (Iput a b c) h t =
        put_fits (class_of s (register f b)) c (register f a) (register f b) h.1.1 (shaped.known a) (shaped.known b)
    instruction_fits (Sget a b) h t = (at a h.0, place b h.1)
    instruction_fits (Sput a b) h t = (place b h.1, shaped.known a)
    instruction_fits (InvokeVirtual a b c) h t =
        virtual_fits b c (rw shaped.size h.1) (class_of s (register f c)) a (register f c)
    instruction_fits (InvokeStatic a b c) h t = (h.0, rw (shaped.size, t.1.0) h.1)
    instruction_fits (MoveResult a) h t = (at a h, shaped.result)
    instruction_fits (MoveException a) h t = (at a h, shaped.result)
    instruction_fits (Return a) h t = shaped.known a
    instruction_fits ReturnVoid h t = tt
    instruction_fits (Throw a) h t = throw_fits (class_of s (register f a)) (register f a) (shaped.known a)
    instruction_fits (InstanceOf a b c) h t =
        instance_fits a (at a h.0) (class_of s (register f b)) c (register f b)
    instruction_fits (CheckCast a b) h t =
        cast_fits a (at a h.0) (class_of s (register f a)) b (register f a) (shaped.known a)

-- the top frame
pub top_shaped : (p : Program) (s : State) → Shaped p s → (f : Frame) (rest : List Frame) → s.frames ≡ f ∷ rest → Every (ShapedFrame p (length s.objects)) (f ∷ rest)
top_shaped p s shaped f rest e = rw e at shaped.frames

pub decided_fits : (p : Program) → Formed p → (s : State) → Shaped p s → (f : Frame) (rest : List Frame) → s.frames ≡ f ∷ rest
    → f.address < code_length p f.method → Fitting p s f (decide p s f (instruction_at p f.method f.address))
decided_fits p formed s shaped f rest e l =
    let method = formed.methods f.method (method_exists p f.method f.address l) in
    instruction_fits p formed.classes_from s f (top_shaped p s shaped f rest e).0 shaped.size
    (instruction_at p f.method f.address)
    (method.names f.address l) (method.calls f.address l)
