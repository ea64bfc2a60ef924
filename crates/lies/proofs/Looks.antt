-- An instruction that stays in its frame loads no cell and no static but those that the code reads for it. Assumes nothing.
use Rattle.std.specs.Prelude.{Option, Some, None}
use mathlib.Core.Path.{◌≡◌, refl}
use mathlib.Core.Bool.{Bool, false}
use Prim.Native.Nat.{ℕ}
use lib.Dec.{eqb, ltb}
use lib.IntN.{ℤ}
use Rattle.instruction.specs.declared.Condition.{Condition}
use Rattle.instruction.specs.declared.Condition.TheVariants.{Eq, Ne, Lt, Ge, Gt, Le}
use Rattle.instruction.specs.declared.Instruction.{Instruction}
use Rattle.instruction.specs.declared.Operation.{Operation}
use Rattle.instruction.specs.declared.Unary.{Unary}
use Rattle.instruction.specs.Word.{pick, operation_of, unary_of}
use Rattle.arithmetic.specs.Arithmetic.{is_zero, computed, in_order}
use Rattle.program.specs.Program.{Program}
use Rattle.search.specs.Search.{below, has_field}
use Rattle.machine.specs.declared.Value.{Value}
use Rattle.machine.specs.declared.Value.TheVariants.{Number, Reference}
use Rattle.machine.specs.declared.Effect.{Effect}
use Rattle.machine.specs.declared.Effect.TheVariants.{Next, Jump, Write, Load, LoadStatic, Make, Store, StoreStatic, Call, Exit, Raise}
use Rattle.machine.specs.declared.Effect.TheVariants.{RaiseNew, Fail}
use Rattle.machine.specs.State.{null}
use Rattle.machine.specs.Decide.{not_object, computed_into, binop, unop, compared, branch, get_field, put_field, instance_of, check_cast}
use Rattle.instruction.proofs.Flags.{pick_cases}
use Rattle.site.specs.declared.Site.{Site}
use Rattle.site.specs.Site.{opcode_of, a_of, b_of, c_of, d_of, want_of}
use Rattle.site.specs.Work.{decided, binop_of, branch_of, iget_of, iput_of, sget_of, sput_of, classed_of, plain_of}

-- an effect that stays in its frame; x is the first value read, and what is loaded is the field of x, or the static, read too
abbrev pub Looks : Value → Site → Effect → Type 0
Looks x t Next = Unit {0}
Looks x t (Jump to) = Unit {0}
Looks x t (Write a v) = Unit {0}
Looks x t (Load a o c) = (x ≡ Reference o) × ((want_of t).field ≡ c)
Looks x t (LoadStatic a c) = (want_of t).fixed ≡ c
Looks x t (Make a c) = ⊥
Looks x t (Store o c v) = Unit {0}
Looks x t (StoreStatic c v) = Unit {0}
Looks x t (Call m c) = ⊥
Looks x t (Exit v) = ⊥
Looks x t (Raise o) = ⊥
Looks x t (RaiseNew k) = Unit {0}
Looks x t (Fail e) = Unit {0}

module _ (p : Program) (x : Value) (t : Site) (k : ℕ) where
  -- one of two effects
  either : (b : Bool) (d e : Effect) → Looks x t d → Looks x t e → Looks x t (pick b d e)
  either b d e h g = pick_cases (Looks x t) b d e (λ _. h) (λ _. g)

  not_object_lem : (z : ℤ) → Looks x t (not_object z)
  not_object_lem z = either (is_zero z) _ _ tt tt

  compared_looks : (c : Condition) (same : Bool) (d : ℕ) → Looks x t (compared c same d)
  compared_looks Eq same d = either same _ _ tt tt
  compared_looks Ne same d = either same _ _ tt tt
  compared_looks Lt same d = tt
  compared_looks Ge same d = tt
  compared_looks Gt same d = tt
  compared_looks Le same d = tt

  branch_looks : (c : Condition) (v w : Value) (d : ℕ) → Looks x t (branch c v w d)
  branch_looks c (Number y) (Number z) d = either (in_order c y z) _ _ tt tt
  branch_looks c (Number y) (Reference r) d = compared_looks c false d
  branch_looks c (Reference q) (Number z) d = compared_looks c false d
  branch_looks c (Reference q) (Reference r) d = compared_looks c (eqb q r) d

  computed_looks : (a : ℕ) (r : Option ℤ) → Looks x t (computed_into a r)
  computed_looks a (Some z) = tt
  computed_looks a None = tt

  binop_looks : (a : ℕ) (o : Operation) (v w : Value) → Looks x t (binop a o v w)
  binop_looks a o (Number y) (Number z) = computed_looks a (computed o y z)
  binop_looks a o (Number y) (Reference r) = tt
  binop_looks a o (Reference q) (Number z) = tt
  binop_looks a o (Reference q) (Reference r) = tt

  unop_looks : (a : ℕ) (o : Unary) (v : Value) → Looks x t (unop a o v)
  unop_looks a o (Number z) = tt
  unop_looks a o (Reference q) = tt

  get_looks : (a c : ℕ) (v : Value) → x ≡ v → (want_of t).field ≡ c → Looks x t (get_field p k a c v)
  get_looks a c (Number z) e h = not_object_lem z
  get_looks a c (Reference o) e h = either (has_field p k c) _ _ (e, h) tt

  put_looks : (c : ℕ) (u v : Value) → Looks x t (put_field p k c u v)
  put_looks c u (Number z) = not_object_lem z
  put_looks c u (Reference o) = either (has_field p k c) _ _ tt tt

  instance_looks : (a c : ℕ) (v : Value) → Looks x t (instance_of p k a c v)
  instance_looks a c (Number z) = either (is_zero z) _ _ tt tt
  instance_looks a c (Reference o) = tt

  cast_looks : (a c : ℕ) (v : Value) → Looks x t (check_cast p k a c v)
  cast_looks a c (Number z) = either (is_zero z) _ _ tt tt
  cast_looks a c (Reference o) = either (below p k c) _ _ tt tt

  -- ---- the instructions of each function

  module _ (y z : Value) where
    abbrev Decides : Instruction → Type 0
    Decides i = Looks x t (decided p x y z k i)

    -- one of two instructions
    choice : (b : Bool) (i j : Instruction) → Decides i → Decides j → Decides (pick b i j)
    choice b i j h g = pick_cases Decides b i j (λ _. h) (λ _. g)

    pub binop_stays : Decides (binop_of t.word)
    binop_stays = binop_looks (a_of t.word) (operation_of (d_of t.word)) x y

    pub branch_stays : Decides (branch_of t.word)
    unfolding branch_of
    branch_stays =
        choice (ltb (c_of t.word) 6) _ _ (branch_looks _ x y (d_of t.word)) (branch_looks _ x null (d_of t.word))

    pub iget_stays : Decides (iget_of t.word)
    unfolding want_of
    iget_stays = get_looks (a_of t.word) (c_of t.word) x refl refl

    pub iput_stays : Decides (iput_of t.word)
    iput_stays = put_looks (c_of t.word) y x

    pub sget_stays : Decides (sget_of t.word)
    unfolding want_of
    sget_stays = refl

    pub sput_stays : Decides (sput_of t.word)
    sput_stays = tt

    pub class_stays : Decides (classed_of t.word)
    unfolding classed_of
    class_stays =
        choice (eqb (opcode_of t.word) 19) _ _
        (instance_looks (a_of t.word) (c_of t.word) x)
        (cast_looks (a_of t.word) (b_of t.word) x)

    pub plain_stays : Decides (plain_of t.word)
    unfolding plain_of
    plain_stays =
        choice (eqb (opcode_of t.word) 1) _ _ tt
        (choice (eqb (opcode_of t.word) 2) _ _ tt
        (choice (eqb (opcode_of t.word) 3) _ _ tt
        (choice (eqb (opcode_of t.word) 6) _ _ (unop_looks (a_of t.word) (unary_of (c_of t.word)) x)
        (choice (eqb (opcode_of t.word) 14) _ _ tt (choice (eqb (opcode_of t.word) 15) _ _ tt tt)))))
