-- Effects with their jumps led elsewhere: of all that an instruction decides only a branch has one. Assumes nothing.
use Rattle.std.specs.Prelude.{Option, Some, None}
use mathlib.Core.Path.{◌≡◌, refl}
use mathlib.Core.Bool.{Bool, true, false}
use Prim.Native.Nat.{ℕ}
use lib.Dec.{eqb}
use lib.IntN.{ℤ}
use Rattle.instruction.specs.declared.Condition.{Condition}
use Rattle.instruction.specs.declared.Condition.TheVariants.{Eq, Ne, Lt, Ge, Gt, Le}
use Rattle.instruction.specs.declared.Operation.{Operation}
use Rattle.instruction.specs.declared.Unary.{Unary}
use Rattle.instruction.specs.Word.{pick}
use Rattle.arithmetic.specs.Arithmetic.{is_zero, computed, in_order}
use Rattle.program.specs.Program.{Program, throwable_class}
use Rattle.search.specs.Search.{below, has_field}
use Rattle.machine.specs.declared.Value.{Value}
use Rattle.machine.specs.declared.Value.TheVariants.{Number, Reference}
use Rattle.machine.specs.declared.Effect.{Effect}
use Rattle.machine.specs.declared.Effect.TheVariants.{Next, Jump, Write, Load, LoadStatic, Make, Store, StoreStatic, Call, Exit}
use Rattle.machine.specs.declared.Effect.TheVariants.{Raise, RaiseNew, Fail}
use Rattle.machine.specs.Decide.{not_object, computed_into, binop, unop, compared, branch, get_field, put_field, throw}
use Rattle.machine.specs.Decide.{instance_of, check_cast}

-- the effect, its jump to where g leads
abbrev pub jumped : (ℕ → ℕ) → Effect → Effect
jumped g Next = Next
jumped g (Jump to) = Jump (g to)
jumped g (Write a v) = Write a v
jumped g (Load a o x) = Load a o x
jumped g (LoadStatic a x) = LoadStatic a x
jumped g (Make a k) = Make a k
jumped g (Store o x v) = Store o x v
jumped g (StoreStatic x v) = StoreStatic x v
jumped g (Call m c) = Call m c
jumped g (Exit v) = Exit v
jumped g (Raise o) = Raise o
jumped g (RaiseNew k) = RaiseNew k
jumped g (Fail e) = Fail e

pub jumped_here : (e : Effect) → e ≡ jumped (λ a. a) e
jumped_here Next = refl
jumped_here (Jump to) = refl
jumped_here (Write a v) = refl
jumped_here (Load a o x) = refl
jumped_here (LoadStatic a x) = refl
jumped_here (Make a k) = refl
jumped_here (Store o x v) = refl
jumped_here (StoreStatic x v) = refl
jumped_here (Call m c) = refl
jumped_here (Exit v) = refl
jumped_here (Raise o) = refl
jumped_here (RaiseNew k) = refl
jumped_here (Fail e) = refl

module _ (g : ℕ → ℕ) where
  either : (t : Bool) (d e d' e' : Effect) → d' ≡ jumped g d → e' ≡ jumped g e → pick t d' e' ≡ jumped g (pick t d e)
  either true d e d' e' h k = h
  either false d e d' e' h k = k

  pub not_object_lem : (z : ℤ) → not_object z ≡ jumped g (not_object z)
  not_object_lem z = either (is_zero z) _ _ _ _ refl refl

  computed_into_lem : (a : ℕ) (r : Option ℤ) → computed_into a r ≡ jumped g (computed_into a r)
  computed_into_lem a (Some z) = refl
  computed_into_lem a None = refl

  pub binop_jumped : (a : ℕ) (o : Operation) (v w : Value) → binop a o v w ≡ jumped g (binop a o v w)
  binop_jumped a o (Number x) (Number y) = computed_into_lem a (computed o x y)
  binop_jumped a o (Number x) (Reference q) = refl
  binop_jumped a o (Reference q) (Number y) = refl
  binop_jumped a o (Reference q) (Reference r) = refl

  pub unop_jumped : (a : ℕ) (o : Unary) (v : Value) → unop a o v ≡ jumped g (unop a o v)
  unop_jumped a o (Number x) = refl
  unop_jumped a o (Reference q) = refl

  compared_jumped : (c : Condition) (same : Bool) (d : ℕ) → compared c same (g d) ≡ jumped g (compared c same d)
  compared_jumped Eq same d = either same _ _ _ _ refl refl
  compared_jumped Ne same d = either same _ _ _ _ refl refl
  compared_jumped Lt same d = refl
  compared_jumped Ge same d = refl
  compared_jumped Gt same d = refl
  compared_jumped Le same d = refl

  pub branch_jumped : (c : Condition) (v w : Value) (d : ℕ) → branch c v w (g d) ≡ jumped g (branch c v w d)
  branch_jumped c (Number x) (Number y) d = either (in_order c x y) _ _ _ _ refl refl
  branch_jumped c (Number x) (Reference r) d = compared_jumped c false d
  branch_jumped c (Reference q) (Number y) d = compared_jumped c false d
  branch_jumped c (Reference q) (Reference r) d = compared_jumped c (eqb q r) d

  module _ (p : Program) (k : ℕ) where
    pub get_jumped : (a x : ℕ) (v : Value) → get_field p k a x v ≡ jumped g (get_field p k a x v)
    get_jumped a x (Number z) = not_object_lem z
    get_jumped a x (Reference o) = either (has_field p k x) _ _ _ _ refl refl

    pub put_jumped : (x : ℕ) (w v : Value) → put_field p k x w v ≡ jumped g (put_field p k x w v)
    put_jumped x w (Number z) = not_object_lem z
    put_jumped x w (Reference o) = either (has_field p k x) _ _ _ _ refl refl

    pub throw_jumped : (v : Value) → throw p k v ≡ jumped g (throw p k v)
    throw_jumped (Number z) = not_object_lem z
    throw_jumped (Reference o) = either (below p k throwable_class) _ _ _ _ refl refl

    pub instance_jumped : (a c : ℕ) (v : Value) → instance_of p k a c v ≡ jumped g (instance_of p k a c v)
    instance_jumped a c (Number z) = either (is_zero z) _ _ _ _ refl refl
    instance_jumped a c (Reference o) = refl

    pub cast_jumped : (a c : ℕ) (v : Value) → check_cast p k a c v ≡ jumped g (check_cast p k a c v)
    cast_jumped a c (Number z) = either (is_zero z) _ _ _ _ refl refl
    cast_jumped a c (Reference o) = either (below p k c) _ _ _ _ refl refl
