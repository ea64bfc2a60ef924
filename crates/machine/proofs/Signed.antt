-- Signed 32-bit numbers: of values, frames, objects and states, and of the effect of an instruction at a frame that has only such.
-- Assumes nothing.
use Rattle.std.specs.Prelude.{Option, Some, None}
use mathlib.Core.Path.{◌≡◌}
use mathlib.Core.Bool.{Bool, true, false}
use Prim.Native.Nat.{ℕ, suc, ◌+◌, ◌*◌, ◌/◌, ◌%◌, ◌≤◌}
use native.Mathlib.Omega.{arith}
use lib.Dec.{eqb, ltb}
use lib.IntN.{ℤ, pos, negsuc}
use mir.Syntax.{w32}
use mir.Val.{SFits}
use mir.ValLaws.{to_z-Fits}
use Rattle.instruction.specs.declared.Condition.{Condition}
use Rattle.instruction.specs.declared.Condition.TheVariants.{Eq, Ne, Lt, Ge, Gt, Le}
use Rattle.instruction.specs.declared.Operation.{Operation}
use Rattle.instruction.specs.declared.Unary.{Unary}
use Rattle.instruction.specs.declared.Instruction.{Instruction}
use Rattle.instruction.specs.Word.{pick, signed_of, fields_of, instruction_of}
use Rattle.instruction.proofs.Flags.{pick_cases}
use Rattle.arithmetic.specs.Arithmetic.{is_zero, computed, unary_value, in_order}
use Rattle.arithmetic.proofs.Fits.{Fitting, computed_fits, unary_fits}
use Rattle.program.specs.Lists.{Every}
use Rattle.program.specs.Program.{Program}
use Rattle.search.specs.Search.{below, has_field, virtual_callee}
use Rattle.machine.specs.declared.Value.{Value}
use Rattle.machine.specs.declared.Value.TheVariants.{Number, Reference}
use Rattle.machine.specs.declared.Effect.{Effect}
use Rattle.machine.specs.declared.Effect.TheVariants.{Next, Jump, Write, Load, LoadStatic, Make, Store, StoreStatic, Call, Exit}
use Rattle.machine.specs.declared.Effect.TheVariants.{Raise, RaiseNew, Fail}
use Rattle.machine.specs.declared.Fault.TheVariants.{FieldNotHad}
use Rattle.machine.specs.State.{Frame, Object, State, null, register, object_at, class_of}
use Rattle.machine.specs.Decide.{not_object, computed_into, binop, unop, compared, branch, get_field, put_field, call_of, virtual_call, throw, instance_of, check_cast, decide}
use Rattle.machine.proofs.Elements.{every_at}

-- ---- what is said
-- "A value is a signed 32-bit number or an object": a number is not below -2147483648 and not above 2147483647
abbrev pub InRange : ℤ → Type 0
InRange (pos k) = k ≤ 2147483647
InRange (negsuc k) = suc k ≤ 2147483648

abbrev pub Signed : Value → Type 0
Signed (Number z) = InRange z
Signed (Reference o) = Unit {0}

pub record SignedFrame (f : Frame) : Type 0 where
  pub registers : Every Signed f.registers
  pub result : Signed f.result

abbrev pub SignedObject : Object → Type 0
SignedObject o = Every Signed o.cells

pub record SignedState (s : State) : Type 0 where
  pub frames : Every SignedFrame s.frames
  pub objects : Every SignedObject s.objects
  pub statics : Every Signed s.statics

-- ---- numbers
in_range : (z : ℤ) → SFits w32 z → InRange z
in_range (pos k) f = omega (arith, f.sfits)
in_range (negsuc k) f = omega (arith, f.sfits)

fits : (z : ℤ) → InRange z → SFits w32 z
fits (pos k) h = record { sfits = omega arith }
fits (negsuc k) h = record { sfits = omega arith }

pub null_signed : Signed null
null_signed = omega arith

-- "d of four bytes", "const a←d, signed"
four_bytes : (x y z u : ℕ) → InRange (signed_of (x % 256) (y % 256) (z % 256) (u % 256))
unfolding signed_of
four_bytes x y z u =
    in_range _
    (to_z-Fits w32 ((((x % 256) * 256 + (y % 256)) * 256 + (z % 256)) * 256 + (u % 256)) (record { fits = omega arith }))

-- ---- the effect of an instruction
-- the value that an effect writes is signed, and the object has the field that is stored
abbrev pub Writes : Program → State → Effect → Type 0
Writes p s Next = Unit {0}
Writes p s (Jump to) = Unit {0}
Writes p s (Write a v) = Signed v
Writes p s (Load a o x) = Unit {0}
Writes p s (LoadStatic a x) = Unit {0}
Writes p s (Make a k) = Unit {0}
Writes p s (Store o x v) = Signed v × (has_field p (object_at s o).class x ≡ true)
Writes p s (StoreStatic x v) = Signed v
Writes p s (Call m c) = Unit {0}
Writes p s (Exit v) = Signed v
Writes p s (Raise o) = Unit {0}
Writes p s (RaiseNew k) = Unit {0}
Writes p s (Fail e) = Unit {0}

module _ (p : Program) (s : State) where
  either : (t : Bool) (d e : Effect) → Writes p s d → Writes p s e → Writes p s (pick t d e)
  either t d e h k = pick_cases (Writes p s) t d e (λ _. h) (λ _. k)

  not_object_lem : (z : ℤ) → Writes p s (not_object z)
  not_object_lem z = either (is_zero z) _ _ tt tt

  computed_signed : (a : ℕ) (r : Option ℤ) → Fitting r → Writes p s (computed_into a r)
  computed_signed a (Some z) f = in_range z f
  computed_signed a None f = tt

  binop_signed : (a : ℕ) (o : Operation) (v w : Value) → Signed v → Signed w → Writes p s (binop a o v w)
  binop_signed a o (Number x) (Number y) h k = computed_signed a (computed o x y) (computed_fits o x y (fits x h) (fits y k))
  binop_signed a o (Number x) (Reference q) h k = tt
  binop_signed a o (Reference q) (Number y) h k = tt
  binop_signed a o (Reference q) (Reference r) h k = tt

  unop_signed : (a : ℕ) (o : Unary) (v : Value) → Signed v → Writes p s (unop a o v)
  unop_signed a o (Number x) h = in_range (unary_value o x) (unary_fits o x (fits x h))
  unop_signed a o (Reference q) h = tt

  compared_signed : (c : Condition) (same : Bool) (d : ℕ) → Writes p s (compared c same d)
  compared_signed Eq same d = either same _ _ tt tt
  compared_signed Ne same d = either same _ _ tt tt
  compared_signed Lt same d = tt
  compared_signed Ge same d = tt
  compared_signed Gt same d = tt
  compared_signed Le same d = tt

  branch_signed : (c : Condition) (v w : Value) (d : ℕ) → Writes p s (branch c v w d)
  branch_signed c (Number x) (Number y) d = either (in_order c x y) _ _ tt tt
  branch_signed c (Number x) (Reference r) d = compared_signed c false d
  branch_signed c (Reference q) (Number y) d = compared_signed c false d
  branch_signed c (Reference q) (Reference r) d = compared_signed c (eqb q r) d

  call_signed : (r : Option ℕ) (c : ℕ) → Writes p s (call_of r c)
  call_signed (Some m) c = tt
  call_signed None c = tt

  put_signed : (x : ℕ) (u v : Value) → Signed u → Writes p s (put_field p (class_of s v) x u v)
  put_signed x u (Number z) h = not_object_lem z
  put_signed x u (Reference o) h =
      pick_cases (Writes p s) (has_field p (object_at s o).class x) _ (Fail FieldNotHad) (λ e. (h, e)) (λ _. tt)

  module _ (k : ℕ) where
    get_signed : (a x : ℕ) (v : Value) → Writes p s (get_field p k a x v)
    get_signed a x (Number z) = not_object_lem z
    get_signed a x (Reference o) = either (has_field p k x) _ _ tt tt

    virtual_signed : (n b c : ℕ) (v : Value) → Writes p s (virtual_call p k n b c v)
    virtual_signed n b c (Number z) = not_object_lem z
    virtual_signed n b c (Reference o) = call_signed (virtual_callee p k n b) c

    throw_signed : (v : Value) → Writes p s (throw p k v)
    throw_signed (Number z) = not_object_lem z
    throw_signed (Reference o) = either (below p k 1) _ _ tt tt

    instance_signed : (a c : ℕ) (v : Value) → Writes p s (instance_of p k a c v)
    instance_signed a c (Number z) = either (is_zero z) _ _ null_signed tt
    instance_signed a c (Reference o) = pick_cases Signed (below p k c) (Number (pos 1)) null (λ _. omega arith) (λ _. null_signed)

    cast_signed : (a c : ℕ) (v : Value) → Signed v → Writes p s (check_cast p k a c v)
    cast_signed a c (Number z) h = either (is_zero z) _ _ h tt
    cast_signed a c (Reference o) h = either (below p k c) _ _ tt tt

  module _ (f : Frame) (h : SignedFrame f) where
    pub register_signed : (r : ℕ) → Signed (register f r)
    register_signed r = every_at Signed f.registers r null null_signed h.registers

    -- of two instructions
    abbrev Good : Instruction → Type 0
    Good i = Writes p s (decide p s f i)

    or : (t : Bool) (i j : Instruction) → Good i → Good j → Good (pick t i j)
    or t i j g k = pick_cases Good t i j (λ _. g) (λ _. k)

    fields_signed : (o a b c d : ℕ) (z : ℤ) → InRange z → Good (fields_of o a b c d z)
    unfolding fields_of
    fields_signed o a b c d z g =
        or (eqb o 1) _ _ (register_signed b)
        (or (eqb o 2) _ _ g
        (or (eqb o 3) _ _ tt
        (or (eqb o 4) _ _
        (or (ltb c 6) _ _ (branch_signed _ (register f a) (register f b) d) (branch_signed _ (register f a) null d))
        (or (eqb o 5) _ _ (binop_signed a _ (register f b) (register f c) (register_signed b) (register_signed c))
        (or (eqb o 6) _ _ (unop_signed a _ (register f b) (register_signed b))
        (or (eqb o 7) _ _ tt
        (or (eqb o 8) _ _ (get_signed (class_of s (register f b)) a c (register f b))
        (or (eqb o 9) _ _ (put_signed c (register f a) (register f b) (register_signed a))
        (or (eqb o 10) _ _ tt
        (or (eqb o 11) _ _ (register_signed a)
        (or (eqb o 12) _ _ (virtual_signed (class_of s (register f c)) a b c (register f c))
        (or (eqb o 13) _ _ tt
        (or (eqb o 14) _ _ h.result
        (or (eqb o 15) _ _ h.result
        (or (eqb o 16) _ _ (register_signed a)
        (or (eqb o 17) _ _ null_signed
        (or (eqb o 18) _ _ (throw_signed (class_of s (register f a)) (register f a))
        (or (eqb o 19) _ _ (instance_signed (class_of s (register f b)) a c (register f b))
        (or (eqb o 20) _ _ (cast_signed (class_of s (register f a)) a b (register f a) (register_signed a)) tt)))))))))))))))))))

    pub word_signed : (w : ℕ) → Good (instruction_of w)
    unfolding instruction_of
    word_signed w = fields_signed _ _ _ _ _ _ (four_bytes (w / 16777216) (w / 65536) (w / 256) w)
