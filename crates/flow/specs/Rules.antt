-- The flow rules: what is asked at each address, one clause an instruction. They follow source documents 002 (section 4, one
-- abstract object a class) and 004 (section 4.2 and appendix E). Document 01 differs from them, and decides: registers, fields and
-- statics start at zero (rules 0 and 1); binop and unop give both numbers' bits; a receiver gives its callee only the class bit that
-- leads there, and not its mask; return-void returns zero; a cast lets on only what passes it; null used, division by zero and a
-- failed cast raise classes 2, 3 and 4 where a mask has the bits for it (document 02, note 2), while 004 tries a null exception at
-- every virtual call; other faults, a method that is not found among them, raise no exception. Definitions only.
use Rattle.std.specs.Prelude.{◌≡◌, not, ◌&&◌, List, [], ◌∷◌, ℕ, suc, ◌+◌, ◌-◌, ◌<◌, eqb, ltb, Some}
use Rattle.instruction.specs.declared.Operation.{Operation}
use Rattle.instruction.specs.declared.Instruction.{Instruction}
use Rattle.instruction.specs.declared.Instruction.TheVariants.{Nop, Move, Const, Goto, If, IfZero, Binop, Unop, NewInstance, Iget, Iput, Sget, Sput, InvokeVirtual, InvokeStatic, MoveResult, MoveException, Return, ReturnVoid, Throw, InstanceOf, CheckCast}
use Rattle.mask.specs.Mask.{zero_bit, other_bit}
use Rattle.arithmetic.specs.Arithmetic.{divides}
use Rattle.program.specs.Program.{Program, throwable_class, null_class, arithmetic_class, cast_class, class_count, field_count, method_count}
use Rattle.program.specs.Program.{registers, arguments, code_length, instruction_at, handler_target}
use Rattle.program.specs.Lists.{Every}
use Rattle.search.specs.Search.{below, has_field, virtual_callee, handler_for}
use Rattle.flow.specs.Claim.{Slot, register_at, result_at, field_of, static_of, returned_by, leaving, Claim, number_bit}
use Rattle.flow.specs.Flows.{Flows, ◌∈◌, ◌⊆◌, ◌&◌, each, given, numeric, when, found, handled, unhandled, Holds}

-- a rule by its number, and what it asks
pub record Rule : Type 0 where
  pub number : ℕ
  pub flows : Flows

abbrev pub rule : ℕ → Flows → Rule
rule n f = record { number = n; flows = f }

-- "0: bit 62 is in every field and static mask"
abbrev pub initial_memory : Program → Flows
initial_memory p =
    each (class_count p) (λ k. each (field_count p) (λ x. when (has_field p k x) (zero_bit ∈ field_of k x)))
    & each p.statics (λ x. zero_bit ∈ static_of x)

-- "1: at address 0, non-argument registers and result have bit 62"
abbrev pub entry : Program → ℕ → Flows
entry p m = each (registers p m - arguments p m) (λ r. zero_bit ∈ register_at m 0 r) & zero_bit ∈ result_at m 0

-- "held in the last a registers": the register of method q that holds argument i
abbrev pub parameter : Program → ℕ → ℕ → ℕ
parameter p q i = registers p q - arguments p q + i

module _ (p : Program) (m pc : ℕ) where
  -- the slot of register r here
  abbrev pub here : ℕ → Slot
  here r = register_at m pc r

  -- "\"next\" is address + 1", and the slot of register r there
  abbrev pub next : ℕ
  next = suc pc

  abbrev pub after : ℕ → Slot
  after r = register_at m next r

  -- registers flow to address `to`; registers and result do; all but register a do
  abbrev pub carried : ℕ → Flows
  carried to = each (registers p m) (λ r. here r ⊆ register_at m to r)

  abbrev pub onward : ℕ → Flows
  onward to = carried to & result_at m pc ⊆ result_at m to

  abbrev pub onward_except : ℕ → ℕ → Flows
  onward_except a to =
      each (registers p m) (λ r. when (not (eqb r a)) (here r ⊆ register_at m to r)) & result_at m pc ⊆ result_at m to

  -- "2 next, 3 target: registers and result flow on"
  abbrev pub to_next : Rule
  to_next = rule 2 (onward next)

  abbrev pub to_target : ℕ → Rule
  to_target to = rule 3 (onward to)

  -- "after calls the result does not flow"
  abbrev pub after_call : Rule
  after_call = rule 2 (carried next)

  -- "except a written register"; "4: what is written goes into a at next"
  abbrev pub writes : ℕ → Flows → List Rule
  writes a f = rule 2 (onward_except a next) ∷ rule 4 f ∷ []

  -- both numbers' bits go into a at next
  abbrev pub numbers_into : ℕ → Flows
  numbers_into a = zero_bit ∈ after a & other_bit ∈ after a

  -- each class in register b
  abbrev pub classes_in : ℕ → (ℕ → Flows) → Flows
  classes_in b f = each (class_count p) (λ k. given k (here b) (f k))

  -- each class in register b that has field x
  abbrev pub classes_with_field : ℕ → ℕ → (ℕ → Flows) → Flows
  classes_with_field b x f = classes_in b (λ k. when (has_field p k x) (f k))

  -- "bit 62 and classes at or below b, out of a": what passes a cast of register a to class k
  abbrev pub cast_into : ℕ → ℕ → Flows
  cast_into a k =
      given zero_bit (here a) (zero_bit ∈ after a)
      & classes_in a (λ j. when (below p j k) (j ∈ after a))

  -- "6: arguments into parameters at the callee's address 0": argument i of those in registers from c on
  abbrev pub argument_into : ℕ → ℕ → ℕ → Flows
  argument_into c q i = here (c + i) ⊆ register_at q 0 (parameter p q i)

  -- "a virtual receiver gives only the class bit that leads there"
  abbrev pub receiver_into : ℕ → ℕ → Flows
  receiver_into k q = k ∈ register_at q 0 (parameter p q 0)

  -- each class in the receiver, register c, with the callee that it leads to
  abbrev pub receivers : ℕ → ℕ → ℕ → (ℕ → ℕ → Flows) → Flows
  receivers name b c f = classes_in c (λ k. found (virtual_callee p k name b) (f k))

  -- "7: callee's returned mask into the result at next"
  abbrev pub returned_into : ℕ → Flows
  returned_into q = returned_by q ⊆ result_at m next

  -- "with a handler (9), registers go into its target and the class bit into the target's result"
  abbrev pub into_handler : ℕ → Flows
  into_handler k = handled (handler_for p m pc k) (λ h. carried (handler_target p m h) & k ∈ result_at m (handler_target p m h))

  -- "with none (10), the bit goes into the method's mask"
  abbrev pub into_leaving : ℕ → Flows
  into_leaving k = unhandled (handler_for p m pc k) (k ∈ leaving m)

  -- "for each Throwable class in a throw's mask"
  abbrev pub thrown_classes : ℕ → (ℕ → Flows) → Flows
  thrown_classes a f = classes_in a (λ k. when (below p k throwable_class) (f k))

  -- "and each class leaving a callee"
  abbrev pub leaving_classes : ℕ → (ℕ → Flows) → Flows
  leaving_classes q f = each (class_count p) (λ k. given k (leaving q) (f k))

  -- no class is asked
  abbrev pub no_class : (ℕ → Flows) → Flows
  no_class f = each 0 f

  -- a class that the instruction itself raises, where the program has it; every program that the reader takes does
  abbrev pub own : ℕ → (ℕ → Flows) → Flows
  own k f = when (ltb k (class_count p)) (f k)

  -- "class 2 where a used object (receiver, iget, iput, throw) has bit 62"
  abbrev pub null_in : ℕ → (ℕ → Flows) → Flows
  null_in b f = given zero_bit (here b) (own null_class f)

  -- "3 where a divisor has bit 62"
  abbrev pub zero_divisor : Operation → ℕ → (ℕ → Flows) → Flows
  zero_divisor o c f = when (divides o) (given zero_bit (here c) (own arithmetic_class f))

  -- "4 where a cast mask has a class not at or below the named one"
  abbrev pub failed_cast : ℕ → ℕ → (ℕ → Flows) → Flows
  failed_cast a k f = classes_in a (λ j. when (not (below p j k)) (own cast_class f))

  -- the classes that are raised at an instruction, by itself or by a callee, each asked f
  abbrev pub raised_by : Instruction → (ℕ → Flows) → Flows
  raised_by Nop f = no_class f
  raised_by (Move a b) f = no_class f
  raised_by (Const a d) f = no_class f
  raised_by (Goto d) f = no_class f
  raised_by (If c a b d) f = no_class f
  raised_by (IfZero c a d) f = no_class f
  raised_by (Binop o a b c) f = zero_divisor o c f
  raised_by (Unop o a b) f = no_class f
  raised_by (NewInstance a k) f = no_class f
  raised_by (Iget a b x) f = null_in b f
  raised_by (Iput a b x) f = null_in b f
  raised_by (Sget a x) f = no_class f
  raised_by (Sput a x) f = no_class f
  raised_by (InvokeVirtual n b c) f = null_in c f & receivers n b c (λ k q. leaving_classes q f)
  raised_by (InvokeStatic q b c) f = leaving_classes q f
  raised_by (MoveResult a) f = no_class f
  raised_by (MoveException a) f = no_class f
  raised_by (Return a) f = no_class f
  raised_by ReturnVoid f = no_class f
  raised_by (Throw a) f = null_in a f & thrown_classes a f
  raised_by (InstanceOf a b k) f = no_class f
  raised_by (CheckCast a k) f = failed_cast a k f

  -- "9, 10: for each Throwable class in a throw's mask, and each class leaving a callee"; "Rules 9 and 10 also take class 2"
  abbrev pub raising : Instruction → List Rule
  raising i = rule 9 (raised_by i into_handler) ∷ rule 10 (raised_by i into_leaving) ∷ []

  -- what is written, where the instruction may raise an exception
  abbrev pub writes_or : ℕ → Flows → Instruction → List Rule
  writes_or a f i = rule 2 (onward_except a next) ∷ rule 4 f ∷ raising i

  -- rules 2 to 10 at an instruction
  abbrev pub rules_of : Instruction → List Rule
  rules_of Nop = to_next ∷ []
  rules_of (Move a b) = writes a (here b ⊆ after a)
  rules_of (Const a d) = writes a (number_bit d ∈ after a)
  -- "Goto has no next"
  rules_of (Goto d) = to_target d ∷ []
  rules_of (If c a b d) = to_next ∷ to_target d ∷ []
  rules_of (IfZero c a d) = to_next ∷ to_target d ∷ []
  -- "binop and unop: bits 62 and 63 if every operand has one of them"
  rules_of (Binop o a b c) = writes_or a (numeric (here b) (numeric (here c) (numbers_into a))) (Binop o a b c)
  rules_of (Unop o a b) = writes a (numeric (here b) (numbers_into a))
  rules_of (NewInstance a k) = writes a (k ∈ after a)
  -- "iget: the field's mask for each class in b that has it"
  rules_of (Iget a b x) = writes_or a (classes_with_field b x (λ k. field_of k x ⊆ after a)) (Iget a b x)
  -- "5: iput into each such class's field; sput into the static"
  rules_of (Iput a b x) = to_next ∷ rule 5 (classes_with_field b x (λ k. here a ⊆ field_of k x)) ∷ raising (Iput a b x)
  rules_of (Sget a x) = writes a (static_of x ⊆ after a)
  rules_of (Sput a x) = to_next ∷ rule 5 (here a ⊆ static_of x) ∷ []
  rules_of (InvokeVirtual n b c) =
      after_call
      ∷ rule 6 (receivers n b c (λ k q. receiver_into k q & each (b - 1) (λ i. argument_into c q (suc i))))
      ∷ rule 7 (receivers n b c (λ k. returned_into))
      ∷ raising (InvokeVirtual n b c)
  rules_of (InvokeStatic q b c) =
      after_call
      -- with its callee named as a virtual call's are, for the call list
      ∷ rule 6 (found (Some q) (λ callee. each b (argument_into c callee)))
      ∷ rule 7 (returned_into q)
      ∷ raising (InvokeStatic q b c)
  rules_of (MoveResult a) = writes a (result_at m pc ⊆ after a)
  rules_of (MoveException a) = writes a (result_at m pc ⊆ after a)
  -- "8: return's mask, or bit 62 for return-void, into returned"; "return, return-void and throw have neither"
  rules_of (Return a) = rule 8 (here a ⊆ returned_by m) ∷ []
  rules_of ReturnVoid = rule 8 (zero_bit ∈ returned_by m) ∷ []
  rules_of (Throw a) = raising (Throw a)
  -- "instance-of: 62 and 63"
  rules_of (InstanceOf a b k) = writes a (numbers_into a)
  rules_of (CheckCast a k) = writes_or a (cast_into a k) (CheckCast a k)

  -- "Rules, all asked at every address"; rule 0 is asked, and reported, at 00 00
  abbrev pub rules_at : List Rule
  rules_at =
      rule 0 (when (eqb m 0 && eqb pc 0) (initial_memory p))
      ∷ rule 1 (when (eqb pc 0) (entry p m))
      ∷ rules_of (instruction_at p m pc)

-- rule n holds at address pc of method m
abbrev pub RuleHolds : Program → Claim → ℕ → ℕ → ℕ → Type 0
RuleHolds p c n m pc = Every (λ r. r.number ≡ n → Holds c r.flows) (rules_at p m pc)

-- every rule holds
abbrev pub RulesHold : Program → Claim → Type 0
RulesHold p c = (m pc n : ℕ) → m < method_count p → pc < code_length p m → RuleHolds p c n m pc
