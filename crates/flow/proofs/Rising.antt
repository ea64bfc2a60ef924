-- The rules at an address stand in rising order, each number once. Assumes nothing.
use mathlib.Core.Path.{◌≡◌}
use mathlib.Core.List.{List, [], ◌∷◌}
use Prim.Native.Nat.{ℕ, suc, ◌≤◌, ◌<◌}
use native.Mathlib.Omega.{arith}
use Rattle.instruction.specs.declared.Instruction.{Instruction}
use Rattle.instruction.specs.declared.Instruction.TheVariants.{Nop, Move, Const, Goto, If, IfZero, Binop, Unop, NewInstance, Iget, Iput, Sget, Sput, InvokeVirtual, InvokeStatic, MoveResult, MoveException, Return, ReturnVoid, Throw, InstanceOf, CheckCast}
use Rattle.program.specs.Program.{Program, instruction_at}
use Rattle.program.specs.Lists.{Every}
use Rattle.flow.specs.Rules.{Rule, rules_of, rules_at}

-- the first number is at least this, and each other is greater than the one before
abbrev pub Rising : ℕ → List Rule → Type 0
Rising least [] = Unit {0}
Rising least (r ∷ rs) = (least ≤ r.number) × Rising (suc r.number) rs

-- rules 2 to 10 at an instruction
module _ (p : Program) (m pc : ℕ) where
  rules_of_rising : (i : Instruction) → Rising 2 (rules_of p m pc i)
  rules_of_rising Nop = omega arith
  rules_of_rising (Move a b) = omega arith
  rules_of_rising (Const a d) = omega arith
  rules_of_rising (Goto d) = omega arith
  rules_of_rising (If c a b d) = omega arith
  rules_of_rising (IfZero c a d) = omega arith
  rules_of_rising (Binop o a b c) = omega arith
  rules_of_rising (Unop o a b) = omega arith
  rules_of_rising (NewInstance a k) = omega arith
  rules_of_rising (Iget a b x) = omega arith
  rules_of_rising (Iput a b x) = omega arith
  rules_of_rising (Sget a x) = omega arith
  rules_of_rising (Sput a x) = omega arith
  rules_of_rising (InvokeVirtual n b c) = omega arith
  rules_of_rising (InvokeStatic q b c) = omega arith
  rules_of_rising (MoveResult a) = omega arith
  rules_of_rising (MoveException a) = omega arith
  rules_of_rising (Return a) = omega arith
  rules_of_rising ReturnVoid = omega arith
  rules_of_rising (Throw a) = omega arith
  rules_of_rising (InstanceOf a b k) = omega arith
  rules_of_rising (CheckCast a k) = omega arith

  pub rules_rising : Rising 0 (rules_at p m pc)
  rules_rising = (omega arith, (omega arith, rules_of_rising (instruction_at p m pc)))

-- a number below the least one is no rule's: what is asked of the rules of that number holds
pub below_least : (P : Rule → Type 0) (least n : ℕ) → n < least → (rs : List Rule) → Rising least rs → Every (λ r. r.number ≡ n → P r) rs
below_least P least n l [] h = tt
below_least P least n l (r ∷ rs) h =
    let first : least ≤ r.number = h.0 in
    (λ e. absurd (omega (arith, e)), below_least P (suc r.number) n (omega arith) rs h.1)
