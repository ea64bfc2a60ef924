-- What an instruction decides at a frame in its masks is safe, where the rules at its address hold: one lemma an instruction.
-- Assumes nothing.
use Rattle.std.specs.Prelude.{Option, Some, None}
use mathlib.Core.Path.{◌≡◌, refl}
use mathlib.Core.Bool.{Bool, true, false, not}
use Prim.Native.Nat.{ℕ, zero, suc, ◌+◌, ◌-◌, ◌≤◌, ◌<◌}
use native.Mathlib.Nat.{add-zero}
use native.Mathlib.Omega.{arith}
use lib.Dec.{eqb, ltb}
use lib.IntN.{ℤ, pos}
use lib.ListN.{length}
use borrow.Author.Tests.{ltb-true, ltb-false}
use Rattle.text.proofs.Cases.{by_test, never}
use Rattle.instruction.specs.declared.Condition.{Condition}
use Rattle.instruction.specs.declared.Condition.TheVariants.{Eq, Ne, Lt, Ge, Gt, Le}
use Rattle.instruction.specs.declared.Operation.{Operation}
use Rattle.instruction.specs.declared.Operation.TheVariants.{Add, Sub, Mul, Div, Rem, And, Or, Xor, Shl, Shr, Ushr}
use Rattle.instruction.specs.declared.Unary.{Unary}
use Rattle.instruction.specs.declared.Instruction.TheVariants.{InvokeVirtual}
use Rattle.instruction.specs.Word.{falls_through}
use Rattle.mask.specs.Mask.{zero_bit, other_bit, has, has_number}
use Rattle.mask.proofs.Laws.{has_number_lem}
use Rattle.arithmetic.specs.Arithmetic.{divides, is_zero, computed, unary_value, in_order}
use Rattle.program.specs.Program.{Program, null_class, arithmetic_class, cast_class, class_count, method_count, registers, arguments}
use Rattle.program.specs.Program.{code_length, instruction_at}
use Rattle.search.specs.Search.{below, has_field, virtual_callee}
use Rattle.reader.specs.Formed.{Formed}
use Rattle.machine.specs.declared.Value.{Value}
use Rattle.machine.specs.declared.Value.TheVariants.{Number, Reference}
use Rattle.machine.specs.State.{Frame, State, null, register, object_at, class_of}
use Rattle.machine.specs.Run.{moved, wrote, entered}
use Rattle.machine.specs.Decide.{not_object, computed_into, binop, unop, compared, branch, get_field, put_field, call_of, virtual_call, throw, instance_of, check_cast}
use Rattle.instruction.proofs.Flags.{pick_cases}
use Rattle.machine.proofs.Found.{callee_fits}
use Rattle.machine.proofs.Fitting.{method_exists}
use Rattle.flow.specs.Claim.{Slot, register_at, field_of, Claim, number_bit}
use Rattle.flow.specs.Flows.{◌⊆◌, ◌&◌, each, Holds}
use Rattle.flow.specs.Rules.{onward, onward_except, numbers_into, classes_with_field, cast_into, parameter, argument_into, receivers, receiver_into}
use Rattle.flow.specs.Calls.{by_virtual}
use Rattle.flow.specs.Inside.{Asked, RaisedAt, Lies, FrameIn, ObjectsIn}
use Rattle.flow.specs.Safe.{SafeEffect}
use Rattle.flow.proofs.Frames.{lies_made, moved_in, wrote_in, entered_in}

-- an instruction that falls through is not the last
pub next_inside : (p : Program) → Formed p → (m pc : ℕ) → pc < code_length p m → falls_through (instruction_at p m pc) ≡ true → suc pc < code_length p m
next_inside p formed m pc l falls =
    by_test (ltb (suc pc) (code_length p m)) (λ t. ltb-true (suc pc) (code_length p m) t)
    (λ t.
    let last : code_length p m - 1 ≡ pc = omega (arith, ltb-false (suc pc) (code_length p m) t) in
    let stops = (formed.methods m (method_exists p m pc l)).last in
    let stops' : falls_through (instruction_at p m pc) ≡ false = rw last at stops in
    never (cc))

-- a division by zero divides, by zero
by_zero : (o : Operation) (x y : ℤ) → computed o x y ≡ None → (divides o ≡ true) × (is_zero y ≡ true)
unfolding computed
by_zero Add x y e = never (cc)
by_zero Sub x y e = never (cc)
by_zero Mul x y e = never (cc)
by_zero Div x y e = (refl, by_test (is_zero y) (λ t. t) (λ t. never (cc)))
by_zero Rem x y e = (refl, by_test (is_zero y) (λ t. t) (λ t. never (cc)))
by_zero And x y e = never (cc)
by_zero Or x y e = never (cc)
by_zero Xor x y e = never (cc)
by_zero Shl x y e = never (cc)
by_zero Shr x y e = never (cc)
by_zero Ushr x y e = never (cc)

-- the two numbers' bits are in the slot's mask: so is a number's
number_in : (c : Claim) (s : Slot) → (has (c s) zero_bit ≡ true) × (has (c s) other_bit ≡ true) → (z : ℤ) → has (c s) (number_bit z) ≡ true
number_in c s h z = pick_cases (λ (k : ℕ). has (c s) k ≡ true) (is_zero z) zero_bit other_bit (λ _. h.0) (λ _. h.1)

module _ (p : Program) (c : Claim) (formed : Formed p) (asked : Asked p c) (s : State) (f : Frame)
    (objects : ObjectsIn p c s.objects) (here : FrameIn p c s.objects f)
    (size : length f.registers ≡ registers p f.method) where
  -- the class of an object that lies in a mask is one of the program's
  classed : (o : ℕ) (t : Slot) → Lies p c s.objects (Reference o) t → (object_at s o).class < class_count p
  classed o t h = (objects o (lies_made p c s.objects o t h)).class_in

  -- class k may be raised here
  abbrev Raised : ℕ → Type 0
  Raised k = RaisedAt p c f.method f.address k

  -- a number used as an object: null, whose bit is in its mask, or another
  not_object_lem : (z : ℤ) (t : Slot) → Lies p c s.objects (Number z) t → (has (c t) zero_bit ≡ true → Raised null_class)
      → SafeEffect p c s f (not_object z)
  not_object_lem z t h raised =
      pick_cases (SafeEffect p c s f) (is_zero z) _ _
      (λ q. (omega (arith, formed.classes_from), raised (rw q at h))) (λ _. tt)

  -- what writes register a, where control goes on
  module _ (a : ℕ) (l : a < registers p f.method) (goes : suc f.address < code_length p f.method)
      (w : Holds c (onward_except p f.method f.address a (suc f.address))) where
    pub write : (v : Value) → Lies p c s.objects v (register_at f.method (suc f.address) a) → FrameIn p c s.objects (wrote f a v)
    write v = wrote_in p c s.objects f here a v size goes l w

    computed_safe : (r : Option ℤ) → Holds c (numbers_into p f.method f.address a)
        → (r ≡ None → Raised arithmetic_class) → SafeEffect p c s f (computed_into a r)
    computed_safe (Some z) x raised = write (Number z) (number_in c _ x z)
    computed_safe None x raised = (omega (arith, formed.classes_from), raised refl)

    pub binop_safe : (o : Operation) (v u : Value) (t t' : Slot) → Lies p c s.objects v t → Lies p c s.objects u t'
        → (has_number (c t) ≡ true → has_number (c t') ≡ true → Holds c (numbers_into p f.method f.address a))
        → (divides o ≡ true → has (c t') zero_bit ≡ true → Raised arithmetic_class) → SafeEffect p c s f (binop a o v u)
    binop_safe o (Number x) (Number y) t t' h k g raised =
        computed_safe (computed o x y) (g (has_number_lem (c t) (is_zero x) h) (has_number_lem (c t') (is_zero y) k))
        (λ e. let z = by_zero o x y e in raised z.0 (rw z.1 at k))
    binop_safe o (Number x) (Reference q) t t' h k g raised = tt
    binop_safe o (Reference q) (Number y) t t' h k g raised = tt
    binop_safe o (Reference q) (Reference r) t t' h k g raised = tt

    pub unop_safe : (o : Unary) (v : Value) (t : Slot) → Lies p c s.objects v t
        → (has_number (c t) ≡ true → Holds c (numbers_into p f.method f.address a)) → SafeEffect p c s f (unop a o v)
    unop_safe o (Number x) t h g =
        write (Number (unary_value o x)) (number_in c _ (g (has_number_lem (c t) (is_zero x) h)) (unary_value o x))
    unop_safe o (Reference q) t h g = tt

    pub get_safe : (b x : ℕ) (v : Value) → Lies p c s.objects v (register_at f.method f.address b)
        → Holds c (classes_with_field p f.method f.address b x (λ k. field_of k x ⊆ register_at f.method (suc f.address) a))
        → (has (c (register_at f.method f.address b)) zero_bit ≡ true → Raised null_class)
        → SafeEffect p c s f (get_field p (class_of s v) a x v)
    get_safe b x (Number z) h g raised = not_object_lem z (register_at f.method f.address b) h raised
    get_safe b x (Reference o) h g raised =
        pick_cases (SafeEffect p c s f) (has_field p (object_at s o).class x) _ _
        (λ t. write _ (g _ (classed o _ h) h t _ ((objects o (lies_made p c s.objects o _ h)).masks.fields_in x t)))
        (λ _. tt)

    pub instance_safe : (k : ℕ) (v : Value) → Holds c (numbers_into p f.method f.address a) → SafeEffect p c s f (instance_of p (class_of s v) a k v)
    instance_safe k (Number z) x =
        pick_cases (SafeEffect p c s f) (is_zero z) _ _ (λ _. write null x.0) (λ _. tt)
    instance_safe k (Reference o) x =
        write _
        (pick_cases (λ (v : Value). Lies p c s.objects v (register_at f.method (suc f.address) a)) (below p (object_at s o).class k)
        (Number (pos 1)) null (λ _. x.1) (λ _. x.0))

    pub cast_safe : (k : ℕ) (v : Value) → Lies p c s.objects v (register_at f.method f.address a)
        → Holds c (cast_into p f.method f.address a k)
        → ((j : ℕ) → j < class_count p → has (c (register_at f.method f.address a)) j ≡ true
        → not (below p j k) ≡ true → Raised cast_class)
        → SafeEffect p c s f (check_cast p (class_of s v) a k v)
    cast_safe k (Number z) h x raised =
        pick_cases (SafeEffect p c s f) (is_zero z) _ _
        (λ t. write (Number z) (rw t (x.0 (rw t at h))))
        (λ _. tt)
    cast_safe k (Reference o) h x raised =
        pick_cases (SafeEffect p c s f) (below p (object_at s o).class k) _ _
        (λ t. write (Reference o) (x.1 _ (classed o _ h) h t))
        (λ t. (omega (arith, formed.classes_from), raised _ (classed o _ h) h (rw t)))

  module _ (goes : suc f.address < code_length p f.method) (w : Holds c (onward p f.method f.address (suc f.address))) where
    -- one on
    pub on : FrameIn p c s.objects (moved f (suc f.address))
    on = moved_in p c s.objects f here (suc f.address) goes w

    pub put_safe : (a b x : ℕ) (v : Value) → a < registers p f.method → Lies p c s.objects v (register_at f.method f.address b)
        → Holds c (classes_with_field p f.method f.address b x (λ k. register_at f.method f.address a ⊆ field_of k x))
        → (has (c (register_at f.method f.address b)) zero_bit ≡ true → Raised null_class)
        → SafeEffect p c s f (put_field p (class_of s v) x (register f a) v)
    put_safe a b x (Number z) l h g raised = not_object_lem z (register_at f.method f.address b) h raised
    put_safe a b x (Reference o) l h g raised =
        pick_cases (SafeEffect p c s f) (has_field p (object_at s o).class x) _ _
        (λ t. (t, g _ (classed o _ h) h t _ (here.masks.registers_in a l), on))
        (λ _. tt)

    module _ (d : ℕ) (l : d < code_length p f.method) (x : Holds c (onward p f.method f.address d)) where
      -- on, or to the target
      jump : FrameIn p c s.objects (moved f d)
      jump = moved_in p c s.objects f here d l x

      compared_safe : (o : Condition) (same : Bool) → SafeEffect p c s f (compared o same d)
      compared_safe Eq same = pick_cases (SafeEffect p c s f) same _ _ (λ _. jump) (λ _. on)
      compared_safe Ne same = pick_cases (SafeEffect p c s f) same _ _ (λ _. on) (λ _. jump)
      compared_safe Lt same = tt
      compared_safe Ge same = tt
      compared_safe Gt same = tt
      compared_safe Le same = tt

      pub branch_safe : (o : Condition) (v u : Value) → SafeEffect p c s f (branch o v u d)
      branch_safe o (Number y) (Number z) = pick_cases (SafeEffect p c s f) (in_order o y z) _ _ (λ _. jump) (λ _. on)
      branch_safe o (Number y) (Reference r) = compared_safe o false
      branch_safe o (Reference q) (Number z) = compared_safe o false
      branch_safe o (Reference q) (Reference r) = compared_safe o (eqb q r)

  pub throw_safe : (a : ℕ) (v : Value) → Lies p c s.objects v (register_at f.method f.address a)
      → (has (c (register_at f.method f.address a)) zero_bit ≡ true → Raised null_class)
      → ((k : ℕ) → k < class_count p → has (c (register_at f.method f.address a)) k ≡ true → below p k 1 ≡ true → Raised k)
      → SafeEffect p c s f (throw p (class_of s v) v)
  throw_safe a (Number z) h null thrown = not_object_lem z (register_at f.method f.address a) h null
  throw_safe a (Reference o) h null thrown =
      pick_cases (SafeEffect p c s f) (below p (object_at s o).class 1) _ _ (λ t. thrown _ (classed o _ h) h t) (λ _. tt)

  -- the first frame of a callee
  pub enter : (q a : ℕ) → q < method_count p
      → ((i : ℕ) → i < arguments p q → Lies p c s.objects (register f (a + i)) (register_at q 0 (parameter p q i)))
      → FrameIn p c s.objects (entered p q a f)
  enter q a l args =
      let method = formed.methods q l in
      entered_in p c s.objects q a f method.code_from method.arguments_to
      ((asked.at q 0 method.code_from).entering refl) args

  -- an argument that is argument_into as it is
  pub argument : (r q i : ℕ) → r + i < registers p f.method → Holds c (argument_into p f.method f.address r q i)
      → Lies p c s.objects (register f (r + i)) (register_at q 0 (parameter p q i))
  argument r q i l w = w _ (here.masks.registers_in (r + i) l)

  module _ (n b r : ℕ) (l : r + b ≤ registers p f.method)
      (w : Holds c (receivers p f.method f.address n b r (λ k q. receiver_into p f.method f.address k q & each (b - 1) (λ i. argument_into p f.method f.address r q (suc i))))) where
    virtual_argument : (o q : ℕ) → register f r ≡ Reference o → Lies p c s.objects (Reference o) (register_at f.method f.address r)
        → virtual_callee p (object_at s o).class n b ≡ Some q → (i : ℕ) → i < b
        → Lies p c s.objects (register f (r + i)) (register_at q 0 (parameter p q i))
    virtual_argument o q e h found zero k = rw (add-zero r, e) (w _ (classed o _ h) h q found).0
    virtual_argument o q e h found (suc i) k =
        argument r q (suc i) (omega arith) ((w _ (classed o _ h) h q found).1 i (omega arith))

    call_safe : (o : ℕ) → instruction_at p f.method f.address ≡ InvokeVirtual n b r → register f r ≡ Reference o
        → Lies p c s.objects (Reference o) (register_at f.method f.address r)
        → (callee : Option ℕ) → virtual_callee p (object_at s o).class n b ≡ callee → SafeEffect p c s f (call_of callee r)
    call_safe o i e h None found = tt
    call_safe o i e h (Some q) found =
        let fits = callee_fits p n b q (object_at s o).class found in (
          by_virtual n b r (object_at s o).class i (classed o _ h) h found,
          enter q r fits.0 (λ j k. virtual_argument o q e h found j (rw fits.1 at k)),
        )

    pub virtual_safe : (v : Value) → instruction_at p f.method f.address ≡ InvokeVirtual n b r → register f r ≡ v
        → Lies p c s.objects v (register_at f.method f.address r)
        → (has (c (register_at f.method f.address r)) zero_bit ≡ true → Raised null_class)
        → SafeEffect p c s f (virtual_call p (class_of s v) n b r v)
    virtual_safe (Number z) i e h raised = not_object_lem z (register_at f.method f.address r) h raised
    virtual_safe (Reference o) i e h raised = call_safe o i e h (virtual_callee p (object_at s o).class n b) refl
