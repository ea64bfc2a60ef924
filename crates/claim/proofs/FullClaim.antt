-- The claim with all allowed bits is accepted and covers the run, whatever the program. Assumes nothing.
use mathlib.Core.Path.{◌≡◌, refl, sym, ◌∙◌}
use mathlib.Core.Bool.{true}
use Prim.Native.Nat.{ℕ, suc, ◌<◌}
use lib.Dec.{ltb}
use lib.IntN.{ℤ}
use borrow.Author.Tests.{lt-ltb, ltb-true}
use Rattle.instruction.specs.declared.Instruction.{Instruction}
use Rattle.instruction.specs.declared.Instruction.TheVariants.{Nop, Move, Const, Goto, If, IfZero, Binop, Unop}
use Rattle.instruction.specs.declared.Instruction.TheVariants.{NewInstance, Iget, Iput, Sget, Sput, InvokeVirtual, InvokeStatic}
use Rattle.instruction.specs.declared.Instruction.TheVariants.{MoveResult, MoveException, Return, ReturnVoid, Throw}
use Rattle.instruction.specs.declared.Instruction.TheVariants.{InstanceOf, CheckCast}
use Rattle.instruction.specs.Test.{Holds as TestHolds}
use Rattle.instruction.proofs.Flags.{or_right, pick_cases}
use Rattle.mask.specs.Mask.{zero_bit, other_bit, has}
use Rattle.operands.specs.Names.{named}
use Rattle.arithmetic.specs.Arithmetic.{is_zero}
use Rattle.program.specs.Program.{Program, null_class, arithmetic_class, cast_class, class_count, instruction_at}
use Rattle.program.specs.Lists.{Every}
use Rattle.values.specs.Values.{limits_of}
use Rattle.reader.specs.Formed.{Formed}
use Rattle.flow.specs.Claim.{Slot, register_at, result_at, field_of, static_of, returned_by, leaving, Claim, number_bit}
use Rattle.flow.specs.Flows.{◌⊆◌, Holds}
use Rattle.flow.specs.Rules.{initial_memory, entry, carried, onward, onward_except, numbers_into, own, into_handler, into_leaving, rules_of}
use Rattle.flow.specs.Verdict.{accepted, verdict}
use Rattle.flow.specs.Calls.{call_list}
use Rattle.flow.specs.Covered.{Covered}
use Rattle.flow.proofs.Verdicts.{rules_hold, holds_accepted}
use Rattle.flow.proofs.Theorem.{covered}
use Rattle.claim.specs.Allowed.{value_bit, allowed, full_claim}
use Rattle.claim.proofs.Bits.{full_has}

module _ (p : Program) (c : Claim) (full : (s : Slot) (k : ℕ) → has (c s) k ≡ allowed p s k) where
  -- a class's bit, and zero's and that of other numbers, in a slot that may have them
  class_bit : (k : ℕ) → k < class_count p → value_bit p k ≡ true
  class_bit k l = rw (lt-ltb k (class_count p) l)

  zero_bit_lem : value_bit p zero_bit ≡ true
  zero_bit_lem = or_right (ltb zero_bit (class_count p)) _ refl

  other_bit_lem : value_bit p other_bit ≡ true
  other_bit_lem = or_right (ltb other_bit (class_count p)) _ refl

  number_bit_lem : (z : ℤ) → value_bit p (number_bit z) ≡ true
  number_bit_lem z = pick_cases (λ (k : ℕ). value_bit p k ≡ true) (is_zero z) zero_bit other_bit (λ _. zero_bit_lem) (λ _. other_bit_lem)

  -- one slot's mask into another's that may have the same bits
  into : (s t : Slot) → ((k : ℕ) → allowed p s k ≡ allowed p t k) → Holds c (s ⊆ t)
  into s t same k h = full t k ∙ sym (same k) ∙ sym (full s k) ∙ h

  memory_holds : Holds c (initial_memory p)
  memory_holds = (λ k l x j t. full (field_of k x) zero_bit ∙ zero_bit_lem, λ x l. full (static_of x) zero_bit ∙ zero_bit_lem)

  module _ (m : ℕ) where
    entry_holds : Holds c (entry p m)
    entry_holds = (λ r l. full (register_at m 0 r) zero_bit ∙ zero_bit_lem, full (result_at m 0) zero_bit ∙ zero_bit_lem)

    module _ (pc : ℕ) where
      carried_holds : (to : ℕ) → Holds c (carried p m pc to)
      carried_holds to r l = into (register_at m pc r) (register_at m to r) (λ _. refl)

      onward_holds : (to : ℕ) → Holds c (onward p m pc to)
      onward_holds to = (carried_holds to, into (result_at m pc) (result_at m to) (λ _. refl))

      except_holds : (a to : ℕ) → Holds c (onward_except p m pc a to)
      except_holds a to = (λ r l _. carried_holds to r l, into (result_at m pc) (result_at m to) (λ _. refl))

      -- a bit, and a slot's mask, into register a at next
      bit_after : (a k : ℕ) → value_bit p k ≡ true → has (c (register_at m (suc pc) a)) k ≡ true
      bit_after a k h = full (register_at m (suc pc) a) k ∙ h

      numbers_hold : (a : ℕ) → Holds c (numbers_into p m pc a)
      numbers_hold a = (bit_after a zero_bit zero_bit_lem, bit_after a other_bit other_bit_lem)

      caught_holds : (k : ℕ) → k < class_count p → Holds c (into_handler p m pc k)
      caught_holds k l h e = (carried_holds _, full (result_at m _) k ∙ class_bit k l)

      uncaught_holds : (k : ℕ) → k < class_count p → Holds c (into_leaving p m pc k)
      uncaught_holds k l e = full (leaving m) k ∙ lt-ltb k (class_count p) l

      -- rules 9 and 10 of a class that an instruction raises itself
      own_caught : (k : ℕ) → Holds c (own p m pc k (into_handler p m pc))
      own_caught k t = caught_holds k (ltb-true k (class_count p) t)

      own_uncaught : (k : ℕ) → Holds c (own p m pc k (into_leaving p m pc))
      own_uncaught k t = uncaught_holds k (ltb-true k (class_count p) t)

      rules_of_hold : (i : Instruction) → TestHolds (named (limits_of p m) i) → Every (λ r. Holds c r.flows) (rules_of p m pc i)
      rules_of_hold Nop h = (onward_holds (suc pc), tt)
      rules_of_hold (Move a b) h = (except_holds a (suc pc), (into _ (register_at m (suc pc) a) (λ _. refl), tt))
      rules_of_hold (Const a d) h = (except_holds a (suc pc), (bit_after a (number_bit d) (number_bit_lem d), tt))
      rules_of_hold (Goto d) h = (onward_holds d, tt)
      rules_of_hold (If o a b d) h = (onward_holds (suc pc), (onward_holds d, tt))
      rules_of_hold (IfZero o a d) h = (onward_holds (suc pc), (onward_holds d, tt))
      rules_of_hold (Binop o a b d) h =
          (except_holds a (suc pc), (λ _ _. numbers_hold a, (λ _ _. own_caught arithmetic_class, (λ _ _. own_uncaught arithmetic_class, tt))))
      rules_of_hold (Unop o a b) h = (except_holds a (suc pc), (λ _. numbers_hold a, tt))
      rules_of_hold (NewInstance a k) h = (except_holds a (suc pc), (bit_after a k (class_bit k h.1), tt))
      rules_of_hold (Iget a b x) h = (
        except_holds a (suc pc),
        (
          λ k _ _ _. into (field_of k x) (register_at m (suc pc) a) (λ _. refl),
          (λ _. own_caught null_class, (λ _. own_uncaught null_class, tt)),
        ),
      )
      rules_of_hold (Iput a b x) h = (
        onward_holds (suc pc),
        (
          λ k _ _ _. into (register_at m pc a) (field_of k x) (λ _. refl),
          (λ _. own_caught null_class, (λ _. own_uncaught null_class, tt)),
        ),
      )
      rules_of_hold (Sget a x) h = (except_holds a (suc pc), (into (static_of x) (register_at m (suc pc) a) (λ _. refl), tt))
      rules_of_hold (Sput a x) h = (onward_holds (suc pc), (into (register_at m pc a) (static_of x) (λ _. refl), tt))
      rules_of_hold (InvokeVirtual n b r) h = (
        carried_holds (suc pc),
        (
          λ k l _ q _. (full (register_at q 0 _) k ∙ class_bit k l, λ i _. into (register_at m pc _) (register_at q 0 _) (λ _. refl)),
          (
            λ k _ _ q _. into (returned_by q) (result_at m (suc pc)) (λ _. refl),
            (
              (λ _. own_caught null_class, λ _ _ _ q _ k l _. caught_holds k l),
              ((λ _. own_uncaught null_class, λ _ _ _ q _ k l _. uncaught_holds k l), tt),
            ),
          ),
        ),
      )
      rules_of_hold (InvokeStatic q b r) h = (
        carried_holds (suc pc),
        (
          λ n _ i _. into (register_at m pc _) (register_at n 0 _) (λ _. refl),
          (
            into (returned_by q) (result_at m (suc pc)) (λ _. refl),
            (λ k l _. caught_holds k l, (λ k l _. uncaught_holds k l, tt)),
          ),
        ),
      )
      rules_of_hold (MoveResult a) h = (except_holds a (suc pc), (into (result_at m pc) (register_at m (suc pc) a) (λ _. refl), tt))
      rules_of_hold (MoveException a) h = (except_holds a (suc pc), (into (result_at m pc) (register_at m (suc pc) a) (λ _. refl), tt))
      rules_of_hold (Return a) h = (into (register_at m pc a) (returned_by m) (λ _. refl), tt)
      rules_of_hold ReturnVoid h = (full (returned_by m) zero_bit ∙ zero_bit_lem, tt)
      rules_of_hold (Throw a) h =
          ((λ _. own_caught null_class, λ k l _ _. caught_holds k l), ((λ _. own_uncaught null_class, λ k l _ _. uncaught_holds k l), tt))
      rules_of_hold (InstanceOf a b k) h = (except_holds a (suc pc), (numbers_hold a, tt))
      rules_of_hold (CheckCast a k) h = (
        except_holds a (suc pc),
        (
          (λ _. bit_after a zero_bit zero_bit_lem, λ j l _ _. bit_after a j (class_bit j l)),
          (λ _ _ _ _. own_caught cast_class, (λ _ _ _ _. own_uncaught cast_class, tt)),
        ),
      )

  all_accepted : Formed p → verdict p c ≡ accepted
  all_accepted formed =
      holds_accepted p c
      (rules_hold p c
      (λ m pc l k.
      (λ _. memory_holds, (λ _. entry_holds m, rules_of_hold m pc (instruction_at p m pc) ((formed.methods m l).names pc k)))))

-- "a claim with all allowed bits is accepted"
pub full_accepted : (p : Program) → Formed p → verdict p (full_claim p) ≡ accepted
full_accepted p formed = all_accepted p (full_claim p) (full_has p formed.limited.classes) formed

-- so that for every well-formed program there is a claim that covers its run
pub full_covered : (p : Program) → Formed p → (n : ℕ) → Covered p (full_claim p) (call_list p (full_claim p)) n
full_covered p formed = covered p (full_claim p) formed (full_accepted p formed)
