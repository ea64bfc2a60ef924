-- What the rules give at a call and at a raised exception, and where a handler goes. Assumes nothing.
use mathlib.Core.Path.{◌≡◌, refl}
use mathlib.Core.Bool.{true}
use Prim.Native.Nat.{ℕ, suc, ◌<◌}
use lib.Dec.{ltb}
use borrow.Author.Tests.{ltb-true}
use Rattle.instruction.specs.declared.Instruction.{Instruction}
use Rattle.instruction.specs.declared.Instruction.TheVariants.{Nop, Move, Const, Goto, If, IfZero, Binop, Unop, NewInstance, Iget, Iput}
use Rattle.instruction.specs.declared.Instruction.TheVariants.{Sget, Sput, InvokeVirtual, InvokeStatic, MoveResult, MoveException}
use Rattle.instruction.specs.declared.Instruction.TheVariants.{Return, ReturnVoid, Throw, InstanceOf, CheckCast}
use Rattle.instruction.specs.Word.{falls_through}
use Rattle.instruction.proofs.Flags.{both_true}
use native.Mathlib.Omega.{arith}
use Rattle.std.specs.Prelude.{Some}
use Rattle.mask.specs.Mask.{has}
use Rattle.program.specs.Lists.{Every}
use Rattle.program.specs.Program.{Program, class_count, field_count, code_length, instruction_at, handler_count, handler_target}
use Rattle.search.specs.Search.{has_field, handler_for}
use Rattle.search.proofs.Searches.{handler_highest}
use Rattle.reader.specs.Formed.{Formed}
use Rattle.machine.proofs.Fitting.{method_exists}
use Rattle.flow.specs.Claim.{leaving, Claim}
use Rattle.flow.specs.Flows.{Holds}
use Rattle.flow.specs.Rules.{carried, returned_into, into_handler, into_leaving, raised_by, rules_of}
use Rattle.flow.specs.Calls.{CallAt, by_static, by_virtual}
use Rattle.flow.specs.Inside.{Asked, RaisedAt}
use Rattle.flow.proofs.Decided.{next_inside}

-- a class has only fields of the program
pub field_exists : (p : Program) (k x : ℕ) → has_field p k x ≡ true → x < field_count p
unfolding has_field
field_exists p k x e = ltb-true x (field_count p) (both_true (ltb x (field_count p)) _ e).0

-- a handler that is found is one of the method's
pub handler_exists : (p : Program) (m pc k h : ℕ) → handler_for p m pc k ≡ Some h → h < handler_count p m
handler_exists p m pc k h e = (handler_highest p m pc k h e).within

-- what the rules ask at a call of method q
pub record CallRules (p : Program) (c : Claim) (m pc q : ℕ) : Type 0 where
  pub goes : suc pc < code_length p m
  pub carries : Holds c (carried p m pc (suc pc))
  pub answers : Holds c (returned_into p m pc q)

module _ (p : Program) (c : Claim) (formed : Formed p) (asked : Asked p c) (m pc : ℕ) (l : pc < code_length p m) where
  pub target_inside : (k h : ℕ) → handler_for p m pc k ≡ Some h → handler_target p m h < code_length p m
  target_inside k h e = (formed.methods m (method_exists p m pc l)).target h (handler_exists p m pc k h e)

  -- the rules of an instruction that is known
  rules_of_lem : (i : Instruction) → instruction_at p m pc ≡ i → Every (λ r. Holds c r.flows) (rules_of p m pc i)
  rules_of_lem i e = rw e at (asked.at m pc l).rules

  goes_on_lem : (i : Instruction) → instruction_at p m pc ≡ i → falls_through i ≡ true → suc pc < code_length p m
  goes_on_lem i e t = next_inside p formed m pc l (rw e t)

  pub call_rules : (q : ℕ) → CallAt p c m pc q → CallRules p c m pc q
  call_rules q (by_static b r e) =
      let w = rules_of_lem (InvokeStatic q b r) e in
      record {
        goes = goes_on_lem (InvokeStatic q b r) e refl;
        carries = w.0;
        answers = w.1.1.0;
      }
  call_rules q (by_virtual n b r k e h t found) =
      let w = rules_of_lem (InvokeVirtual n b r) e in
      record {
        goes = goes_on_lem (InvokeVirtual n b r) e refl;
        carries = w.0;
        answers = w.1.1.0 k h t q found;
      }

  -- what leaves a callee may be pending at its call
  pub raised_by_call : (q k : ℕ) → k < class_count p → CallAt p c m pc q → has (c (leaving q)) k ≡ true → RaisedAt p c m pc k
  raised_by_call q k l (by_static b r e) i f w =
      let v : Holds c (raised_by p m pc (InvokeStatic q b r) f) = rw e at w in v k l i
  raised_by_call q k l (by_virtual n b r j e h t found) i f w =
      let v : Holds c (raised_by p m pc (InvokeVirtual n b r) f) = rw e at w in v.1 j h t q found k l i

  -- rules 9 and 10 of an instruction
  raising_rules : (i : Instruction) → Every (λ r. Holds c r.flows) (rules_of p m pc i)
      → Holds c (raised_by p m pc i (into_handler p m pc)) × Holds c (raised_by p m pc i (into_leaving p m pc))
  raising_rules Nop w = (λ k l. absurd (omega arith), λ k l. absurd (omega arith))
  raising_rules (Move a b) w = (λ k l. absurd (omega arith), λ k l. absurd (omega arith))
  raising_rules (Const a d) w = (λ k l. absurd (omega arith), λ k l. absurd (omega arith))
  raising_rules (Goto d) w = (λ k l. absurd (omega arith), λ k l. absurd (omega arith))
  raising_rules (If o a b d) w = (λ k l. absurd (omega arith), λ k l. absurd (omega arith))
  raising_rules (IfZero o a d) w = (λ k l. absurd (omega arith), λ k l. absurd (omega arith))
  raising_rules (Binop o a b d) w = (w.1.1.0, w.1.1.1.0)
  raising_rules (Unop o a b) w = (λ k l. absurd (omega arith), λ k l. absurd (omega arith))
  raising_rules (NewInstance a k) w = (λ k l. absurd (omega arith), λ k l. absurd (omega arith))
  raising_rules (Iget a b x) w = (w.1.1.0, w.1.1.1.0)
  raising_rules (Iput a b x) w = (w.1.1.0, w.1.1.1.0)
  raising_rules (Sget a x) w = (λ k l. absurd (omega arith), λ k l. absurd (omega arith))
  raising_rules (Sput a x) w = (λ k l. absurd (omega arith), λ k l. absurd (omega arith))
  raising_rules (InvokeVirtual n b r) w = (w.1.1.1.0, w.1.1.1.1.0)
  raising_rules (InvokeStatic q b r) w = (w.1.1.1.0, w.1.1.1.1.0)
  raising_rules (MoveResult a) w = (λ k l. absurd (omega arith), λ k l. absurd (omega arith))
  raising_rules (MoveException a) w = (λ k l. absurd (omega arith), λ k l. absurd (omega arith))
  raising_rules (Return a) w = (λ k l. absurd (omega arith), λ k l. absurd (omega arith))
  raising_rules ReturnVoid w = (λ k l. absurd (omega arith), λ k l. absurd (omega arith))
  raising_rules (Throw a) w = (w.0, w.1.0)
  raising_rules (InstanceOf a b k) w = (λ k l. absurd (omega arith), λ k l. absurd (omega arith))
  raising_rules (CheckCast a k) w = (w.1.1.0, w.1.1.1.0)

  -- rules 9 and 10 for an exception that may be pending
  pub raised_rules_lem : (k : ℕ) → RaisedAt p c m pc k → Holds c (into_handler p m pc k) × Holds c (into_leaving p m pc k)
  raised_rules_lem k at =
      let w = raising_rules (instruction_at p m pc) (asked.at m pc l).rules in
      (at (into_handler p m pc) w.0, at (into_leaving p m pc) w.1)
