-- The callees that the rules numbered 6 name at an address, by the instruction there. Assumes nothing.
use mathlib.Core.Path.{◌≡◌, refl, sym, ap, ◌∙◌}
use mathlib.Core.Bool.{true, false, ◌&&◌}
use Prim.Native.Nat.{ℕ, ◌<◌}
use native.Mathlib.Decide.{ℕ_discrete}
use lib.Dec.{eqb, ltb}
use borrow.Author.Tests.{lt-ltb, eq-eqb, ne_eqb}
use Rattle.instruction.specs.declared.Instruction.{Instruction}
use Rattle.instruction.specs.declared.Instruction.TheVariants.{Nop, Move, Const, Goto, If, IfZero, Binop, Unop, NewInstance, Iget, Iput, Sget, Sput, InvokeVirtual, InvokeStatic, MoveResult, MoveException, Return, ReturnVoid, Throw, InstanceOf, CheckCast}
use Rattle.mask.specs.declared.Mask.{Mask}
use Rattle.mask.specs.Mask.{has}
use Rattle.mask.proofs.Sets.{or_end}
use Rattle.program.specs.Program.{Program, instruction_at}
use Rattle.flow.specs.Claim.{register_at, Claim}
use Rattle.flow.specs.Rules.{rules_of, rules_at}
use Rattle.flow.specs.Calls.{called_by}
use Rattle.sets.specs.Sets.{leads_to}

-- the bit of number b in a mask that has no other, below 64
pub one_bit : (r : Mask) (b q : ℕ) → ((k : ℕ) → has r k ≡ eqb k b && ltb k 64) → q < 64 → has r q ≡ eqb b q
one_bit r b q bits l = bits q ∙ rw (lt-ltb q 64 l) (by (ℕ_discrete q b))
  where
    by : Dec (q ≡ b) → eqb q b && true ≡ eqb b q
    by (yes same) = rw (eq-eqb q b same, eq-eqb b q (sym same))
    by (no other) = rw (ne_eqb q b other, ne_eqb b q (λ e. other (sym e)))

-- an instruction that is no call
abbrev pub NoCall : Instruction → Type 0
NoCall i = ((n b r : ℕ) → i ≡ InvokeVirtual n b r → ⊥) × ((n b r : ℕ) → i ≡ InvokeStatic n b r → ⊥)

module _ (p : Program) (c : Claim) (m pc q : ℕ) where
  pub virtual_called : (n b r : ℕ) → instruction_at p m pc ≡ InvokeVirtual n b r → called_by c (rules_at p m pc) q ≡ leads_to p (c (register_at m pc r)) n b q
  unfolding leads_to
  virtual_called n b r e = ap (λ (i : Instruction). called_by c (rules_of p m pc i) q) e ∙ or_end _

  pub static_called : (n b r : ℕ) → instruction_at p m pc ≡ InvokeStatic n b r → called_by c (rules_at p m pc) q ≡ eqb n q
  static_called n b r e = ap (λ (i : Instruction). called_by c (rules_of p m pc i) q) e ∙ or_end _

  none_called : (i : Instruction) → NoCall i → called_by c (rules_of p m pc i) q ≡ false
  none_called Nop k = refl
  none_called (Move a b) k = refl
  none_called (Const a d) k = refl
  none_called (Goto d) k = refl
  none_called (If o a b d) k = refl
  none_called (IfZero o a d) k = refl
  none_called (Binop o a b d) k = refl
  none_called (Unop o a b) k = refl
  none_called (NewInstance a b) k = refl
  none_called (Iget a b x) k = refl
  none_called (Iput a b x) k = refl
  none_called (Sget a x) k = refl
  none_called (Sput a x) k = refl
  none_called (InvokeVirtual n b r) k = absurd (k.0 n b r refl)
  none_called (InvokeStatic n b r) k = absurd (k.1 n b r refl)
  none_called (MoveResult a) k = refl
  none_called (MoveException a) k = refl
  none_called (Return a) k = refl
  none_called ReturnVoid k = refl
  none_called (Throw a) k = refl
  none_called (InstanceOf a b x) k = refl
  none_called (CheckCast a b) k = refl

  pub other_called : (i : Instruction) → instruction_at p m pc ≡ i → NoCall i → called_by c (rules_at p m pc) q ≡ false
  other_called i e k = ap (λ (j : Instruction). called_by c (rules_of p m pc j) q) e ∙ none_called i k
