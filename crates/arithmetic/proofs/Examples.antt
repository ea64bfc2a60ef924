-- Operations and conditions on numbers at the ends and around zero, as tables that are computed; the marked cases of document 01
-- stand in crates/marked, but for one that refuses an edit here. Assumes nothing.
use Rattle.std.specs.Prelude.{Option, Some, None}
use mathlib.Core.Path.{◌≡◌, refl}
use mathlib.Core.Bool.{Bool, true, false}
use mathlib.Core.List.{List, [], ◌∷◌, map}
use Prim.Native.Nat.{ℕ}
use lib.IntN.{ℤ, pos, neg_ℤ}
use Rattle.instruction.specs.declared.Condition.{Condition}
use Rattle.instruction.specs.declared.Condition.TheVariants.{Eq, Ne, Lt, Ge, Gt, Le}
use Rattle.instruction.specs.declared.Operation.{Operation}
use Rattle.instruction.specs.declared.Operation.TheVariants.{Add, Sub, Mul, Div, Rem, And, Or, Xor, Shl, Shr, Ushr}
use Rattle.instruction.specs.declared.Unary.{Unary}
use Rattle.instruction.specs.declared.Unary.TheVariants.{Neg, Not}
use Rattle.arithmetic.specs.Arithmetic.{wrapped, computed, unary_value, in_order}

-- below zero
abbrev pub minus : ℕ → ℤ
minus n = neg_ℤ (pos n)

-- ---- binary operations

pub record Row : Type 0 where
  pub operation : Operation
  pub left : ℤ
  pub right : ℤ
  pub due : Option ℤ

abbrev pub gives : Operation → ℤ → ℤ → Option ℤ → Row
gives o x y r = record { operation = o; left = x; right = y; due = r }

abbrev pub table : List Row
table =
    gives Add (minus 5) (pos 3) (Some (minus 2))
    ∷ gives Sub (minus 2147483648) (pos 1) (Some (pos 2147483647))
    ∷ gives Mul (pos 65536) (pos 65536) (Some (pos 0))
    ∷ gives Mul (minus 2147483648) (minus 1) (Some (minus 2147483648))
    ∷ gives Mul (pos 46341) (pos 46341) (Some (minus 2147479015))
    ∷ gives Div (pos 7) (minus 2) (Some (minus 3))
    ∷ gives Rem (pos 7) (minus 2) (Some (pos 1))
    ∷ gives Div (minus 7) (minus 2) (Some (pos 3))
    ∷ gives Rem (minus 7) (minus 2) (Some (minus 1))
    ∷ gives Div (pos 0) (minus 7) (Some (pos 0))
    ∷ gives Div (pos 7) (pos 0) None
    ∷ gives Rem (minus 7) (pos 0) None
    ∷ gives And (pos 12) (pos 10) (Some (pos 8))
    ∷ gives Or (pos 12) (pos 10) (Some (pos 14))
    ∷ gives Xor (pos 12) (pos 10) (Some (pos 6))
    ∷ gives And (minus 8) (pos 2147483647) (Some (pos 2147483640))
    ∷ gives Or (minus 2147483648) (pos 1) (Some (minus 2147483647))
    ∷ gives Xor (minus 1) (pos 10) (Some (minus 11))
    ∷ gives Shl (pos 1) (pos 31) (Some (minus 2147483648))
    ∷ gives Shl (pos 1) (minus 1) (Some (minus 2147483648))
    ∷ gives Shr (minus 7) (pos 1) (Some (minus 4))
    ∷ gives Shr (minus 1) (pos 31) (Some (minus 1))
    ∷ gives Shr (minus 8) (pos 32) (Some (minus 8))
    ∷ gives Ushr (minus 1) (pos 31) (Some (pos 1))
    ∷ gives Ushr (minus 1) (pos 0) (Some (minus 1))
    ∷ []

pub binary_right :
    map (λ (r : Row). computed r.operation r.left r.right) table ≡ map (λ (r : Row). r.due) table
unfolding wrapped computed
binary_right = refl

-- ---- unary operations

pub record UnaryRow : Type 0 where
  pub operation : Unary
  pub operand : ℤ
  pub due : ℤ

abbrev pub makes : Unary → ℤ → ℤ → UnaryRow
makes o x r = record { operation = o; operand = x; due = r }

abbrev pub unary_table : List UnaryRow
unary_table =
    makes Neg (minus 2147483648) (minus 2147483648)
    ∷ makes Neg (pos 2147483647) (minus 2147483647)
    ∷ makes Neg (pos 5) (minus 5)
    ∷ makes Neg (minus 5) (pos 5)
    ∷ makes Neg (pos 0) (pos 0)
    ∷ makes Not (pos 0) (minus 1)
    ∷ makes Not (minus 1) (pos 0)
    ∷ makes Not (pos 5) (minus 6)
    ∷ makes Not (pos 2147483647) (minus 2147483648)
    ∷ []

pub unary_right :
    map (λ (r : UnaryRow). unary_value r.operation r.operand) unary_table ≡ map (λ (r : UnaryRow). r.due) unary_table
unfolding wrapped unary_value
unary_right = refl

-- ---- conditions: two numbers, and which of eq, ne, lt, ge, gt and le hold of them

abbrev pub conditions : List Condition
conditions = Eq ∷ Ne ∷ Lt ∷ Ge ∷ Gt ∷ Le ∷ []

pub record Pair : Type 0 where
  pub left : ℤ
  pub right : ℤ
  pub due : List Bool

abbrev pub less : ℤ → ℤ → Pair
less x y = record { left = x; right = y; due = false ∷ true ∷ true ∷ false ∷ false ∷ true ∷ [] }

abbrev pub equal : ℤ → Pair
equal x = record { left = x; right = x; due = true ∷ false ∷ false ∷ true ∷ false ∷ true ∷ [] }

abbrev pub more : ℤ → ℤ → Pair
more x y = record { left = x; right = y; due = false ∷ true ∷ false ∷ true ∷ true ∷ false ∷ [] }

abbrev pub pairs : List Pair
pairs =
    less (minus 2147483648) (pos 2147483647)
    ∷ more (pos 2147483647) (minus 2147483648)
    ∷ less (minus 1) (pos 0)
    ∷ more (pos 0) (minus 1)
    ∷ less (minus 2) (minus 1)
    ∷ more (pos 1) (minus 1)
    ∷ less (pos 0) (pos 1)
    ∷ equal (minus 2147483648)
    ∷ equal (minus 1)
    ∷ equal (pos 0)
    ∷ equal (pos 2147483647)
    ∷ []

pub conditions_right :
    map (λ (p : Pair). map (λ (c : Condition). in_order c p.left p.right) conditions) pairs
    ≡ map (λ (p : Pair). p.due) pairs
unfolding in_order
conditions_right = refl
