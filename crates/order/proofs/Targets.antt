-- The rules of a well-formed program go only into slots of the program: one clause an instruction. So an accepted claim stays accepted
-- without the bits of other slots. Assumes nothing.
use mathlib.Core.Path.{◌≡◌, refl}
use mathlib.Core.Bool.{true}
use mathlib.Core.List.{List, [], ◌∷◌}
use Prim.Native.Nat.{ℕ, suc, ◌-◌, ◌<◌}
use native.Mathlib.Omega.{arith}
use Rattle.std.specs.Prelude.{Some}
use Rattle.instruction.specs.declared.Instruction.{Instruction}
use Rattle.instruction.specs.declared.Instruction.TheVariants.{Nop, Move, Const, Goto, If, IfZero, Binop, Unop}
use Rattle.instruction.specs.declared.Instruction.TheVariants.{NewInstance, Iget, Iput, Sget, Sput, InvokeVirtual, InvokeStatic}
use Rattle.instruction.specs.declared.Instruction.TheVariants.{MoveResult, MoveException, Return, ReturnVoid, Throw, InstanceOf, CheckCast}
use Rattle.instruction.specs.Test.{Holds as TestHolds}
use Rattle.instruction.specs.Word.{falls_through}
use Rattle.operands.specs.Names.{named}
use Rattle.program.specs.Lists.{Every}
use Rattle.program.specs.Program.{Program, null_class, arithmetic_class, cast_class, method_count, registers, arguments, code_length}
use Rattle.program.specs.Program.{instruction_at, handler_target}
use Rattle.search.specs.Search.{virtual_callee}
use Rattle.values.specs.Values.{limits_of, call_test}
use Rattle.reader.specs.Formed.{Formed}
use Rattle.machine.proofs.Found.{callee_fits}
use Rattle.mask.specs.Mask.{has}
use Rattle.flow.specs.Claim.{Slot, register_at, Claim}
use Rattle.flow.specs.Flows.{Flows, ◌∈◌, ◌⊆◌, ◌&◌, each, given, numeric, when, found, handled, unhandled, Holds}
use Rattle.flow.specs.Verdict.{accepted, verdict}
use Rattle.flow.proofs.Verdicts.{accepted_holds, rules_at_lem, rules_hold, holds_accepted}
use Rattle.flow.specs.Rules.{initial_memory, entry, carried, onward, onward_except, into_handler, into_leaving, argument_into, parameter}
use Rattle.flow.specs.Rules.{raised_by, raising, Rule, rules_of, rules_at}
use Rattle.flow.proofs.Calls.{field_exists, handler_exists}
use Rattle.flow.proofs.Decided.{next_inside}
use Rattle.order.specs.Order.{Below}
use Rattle.order.specs.Raised.{Goes}
use Rattle.order.specs.Own.{Own, Targets}
use Rattle.order.proofs.Flowing.{goes_holds, holds_goes, goes_more}

module _ (p : Program) (formed : Formed p) where
  memory_own : Targets (Own p) (initial_memory p)
  memory_own = (λ k l x j t. (l, j, t), λ x l. l)

  -- argument i of a method's goes into one of its registers
  parameter_own : (q i : ℕ) → q < method_count p → i < arguments p q → parameter p q i < registers p q
  parameter_own q i l k = omega (arith, (formed.methods q l).arguments_to)

  module _ (m : ℕ) (lm : m < method_count p) where
    entry_own : Targets (Own p) (entry p m)
    entry_own =
        let some-code = (formed.methods m lm).code_from in
        (λ r l. (lm, omega (arith, some-code), omega arith), (lm, omega (arith, some-code)))

    module _ (pc : ℕ) (lp : pc < code_length p m) where
      carried_own : (to : ℕ) → to < code_length p m → Targets (Own p) (carried p m pc to)
      carried_own to l r k = (lm, l, k)

      onward_own : (to : ℕ) → to < code_length p m → Targets (Own p) (onward p m pc to)
      onward_own to l = (carried_own to l, (lm, l))

      except_own : (a to : ℕ) → to < code_length p m → Targets (Own p) (onward_except p m pc a to)
      except_own a to l = (λ r k _. (lm, l, k), (lm, l))

      caught_own : (k : ℕ) → Targets (Own p) (into_handler p m pc k)
      caught_own k h e =
          let l = (formed.methods m lm).target h (handler_exists p m pc k h e) in
          (carried_own (handler_target p m h) l, (lm, l))

      virtual_own : (n b c k q : ℕ) → 0 < b → virtual_callee p k n b ≡ Some q
          → (Own p (register_at q 0 (parameter p q 0))) × ((i : ℕ) → i < b - 1 → Targets (Own p) (argument_into p m pc c q (suc i)))
      virtual_own n b c k q some-arguments e =
          let (l, same) = callee_fits p n b q k e in
          let code = (formed.methods q l).code_from in (
            (l, omega (arith, code), parameter_own q 0 l (omega arith)),
            λ i k. (l, omega (arith, code), parameter_own q (suc i) l (omega arith)),
          )

      static_own : (q b c : ℕ) → q < method_count p → arguments p q ≡ b → (i : ℕ) → i < b → Targets (Own p) (argument_into p m pc c q i)
      static_own q b c l same i k = (l, omega (arith, (formed.methods q l).code_from), parameter_own q i l (omega arith))

      called_own : (q b c : ℕ) → q < method_count p → arguments p q ≡ b → (n : ℕ) → Some q ≡ Some n
          → (i : ℕ) → i < b → Targets (Own p) (argument_into p m pc c n i)
      called_own q b c l same n e =
          let own : q ≡ n = cc in
          rw (← own) (static_own q b c l same)

      -- what is asked of each class that is raised goes only into slots of the program, where it does for every class
      raised_own : (i : Instruction) (f : ℕ → Flows) → ((k : ℕ) → Targets (Own p) (f k)) → Targets (Own p) (raised_by p m pc i f)
      raised_own Nop f t = λ k _. t k
      raised_own (Move a b) f t = λ k _. t k
      raised_own (Const a d) f t = λ k _. t k
      raised_own (Goto d) f t = λ k _. t k
      raised_own (If o a b d) f t = λ k _. t k
      raised_own (IfZero o a d) f t = λ k _. t k
      raised_own (Binop o a b d) f t = λ _ _. t arithmetic_class
      raised_own (Unop o a b) f t = λ k _. t k
      raised_own (NewInstance a k) f t = λ j _. t j
      raised_own (Iget a b x) f t = λ _. t null_class
      raised_own (Iput a b x) f t = λ _. t null_class
      raised_own (Sget a x) f t = λ k _. t k
      raised_own (Sput a x) f t = λ k _. t k
      raised_own (InvokeVirtual n b c) f t = (λ _. t null_class, λ _ _ _ _ k _. t k)
      raised_own (InvokeStatic q b c) f t = λ k _. t k
      raised_own (MoveResult a) f t = λ k _. t k
      raised_own (MoveException a) f t = λ k _. t k
      raised_own (Return a) f t = λ k _. t k
      raised_own ReturnVoid f t = λ k _. t k
      raised_own (Throw a) f t = (λ _. t null_class, λ k _ _. t k)
      raised_own (InstanceOf a b k) f t = λ j _. t j
      raised_own (CheckCast a k) f t = λ _ _ _ _. t cast_class

      raising_own : (i : Instruction) → Every (λ r. Targets (Own p) r.flows) (raising p m pc i)
      raising_own i = (raised_own i (into_handler p m pc) caught_own, (raised_own i (into_leaving p m pc) (λ k _. lm), tt))

      rules_of_own : (i : Instruction) → TestHolds (named (limits_of p m) i) → TestHolds (call_test p i)
          → (falls_through i ≡ true → suc pc < code_length p m)
          → Every (λ r. Targets (Own p) r.flows) (rules_of p m pc i)
      rules_of_own Nop h t on = (onward_own (suc pc) (on refl), tt)
      rules_of_own (Move a b) h t on = (except_own a (suc pc) (on refl), ((lm, on refl, h.0), tt))
      rules_of_own (Const a d) h t on = (except_own a (suc pc) (on refl), ((lm, on refl, h), tt))
      rules_of_own (Goto d) h t on = (onward_own d h, tt)
      rules_of_own (If o a b d) h t on = (onward_own (suc pc) (on refl), (onward_own d h.1.1, tt))
      rules_of_own (IfZero o a d) h t on = (onward_own (suc pc) (on refl), (onward_own d h.1, tt))
      rules_of_own (Binop o a b d) h t on =
          (except_own a (suc pc) (on refl), (((lm, on refl, h.0), (lm, on refl, h.0)), raising_own (Binop o a b d)))
      rules_of_own (Unop o a b) h t on = (except_own a (suc pc) (on refl), (((lm, on refl, h.0), (lm, on refl, h.0)), tt))
      rules_of_own (NewInstance a k) h t on = (except_own a (suc pc) (on refl), ((lm, on refl, h.0), tt))
      rules_of_own (Iget a b x) h t on =
          (except_own a (suc pc) (on refl), (λ k _ _. (lm, on refl, h.0), raising_own (Iget a b x)))
      rules_of_own (Iput a b x) h t on =
          (onward_own (suc pc) (on refl), (λ k l e. (l, field_exists p k x e, e), raising_own (Iput a b x)))
      rules_of_own (Sget a x) h t on = (except_own a (suc pc) (on refl), ((lm, on refl, h.0), tt))
      rules_of_own (Sput a x) h t on = (onward_own (suc pc) (on refl), (h.1, tt))
      rules_of_own (InvokeVirtual n b c) h t on = (
        carried_own (suc pc) (on refl),
        (λ k _ q e. virtual_own n b c k q h.0 e, (λ k _ q _. (lm, on refl), raising_own (InvokeVirtual n b c))),
      )
      rules_of_own (InvokeStatic q b c) h t on = (
        carried_own (suc pc) (on refl),
        (called_own q b c h.0 t.1.0, ((lm, on refl), raising_own (InvokeStatic q b c))),
      )
      rules_of_own (MoveResult a) h t on = (except_own a (suc pc) (on refl), ((lm, on refl, h), tt))
      rules_of_own (MoveException a) h t on = (except_own a (suc pc) (on refl), ((lm, on refl, h), tt))
      rules_of_own (Return a) h t on = (lm, tt)
      rules_of_own ReturnVoid h t on = (lm, tt)
      rules_of_own (Throw a) h t on = raising_own (Throw a)
      rules_of_own (InstanceOf a b k) h t on = (except_own a (suc pc) (on refl), (((lm, on refl, h.0), (lm, on refl, h.0)), tt))
      rules_of_own (CheckCast a k) h t on =
          (except_own a (suc pc) (on refl), (((lm, on refl, h.0), λ j _ _. (lm, on refl, h.0)), raising_own (CheckCast a k)))

      pub rules_own : Every (λ r. Targets (Own p) r.flows) (rules_at p m pc)
      rules_own = (
        λ _. memory_own,
        (
          λ _. entry_own,
          let f = formed.methods m lm in
              rules_of_own (instruction_at p m pc) (f.names pc lp) (f.calls pc lp) (next_inside p formed m pc lp),
        ),
      )

-- ---- flows that go into a claim go into another that has the same bits in the slots that they go into
module _ (P : Slot → Type 0) (c d : Claim) (same : (t : Slot) → P t → (k : ℕ) → has (c t) k ≡ true → has (d t) k ≡ true) where
  pub goes_into_lem : (b : Claim) (f : Flows) → Targets P f → Goes b c f → Goes b d f
  goes_into_lem b (k ∈ s) o h = same s o k h
  goes_into_lem b (s ⊆ t) o h = λ k e. same t o k (h k e)
  goes_into_lem b (f & g) o h = (goes_into_lem b f o.0 h.0, goes_into_lem b g o.1 h.1)
  goes_into_lem b (each n g) o h = λ i l. goes_into_lem b (g i) (o i l) (h i l)
  goes_into_lem b (given k s f) o h = λ e. goes_into_lem b f o (h e)
  goes_into_lem b (numeric s f) o h = λ e. goes_into_lem b f o (h e)
  goes_into_lem b (when t f) o h = λ e. goes_into_lem b f (o e) (h e)
  goes_into_lem b (found r g) o h = λ m e. goes_into_lem b (g m) (o m e) (h m e)
  goes_into_lem b (handled r g) o h = λ m e. goes_into_lem b (g m) (o m e) (h m e)
  goes_into_lem b (unhandled r f) o h = λ e. goes_into_lem b f (o e) (h e)

-- ---- so a claim's masks at the program's own slots decide: an accepted claim is accepted with no bit elsewhere
module _ (p : Program) (formed : Formed p) (c d : Claim) (less : Below d c)
    (same : (t : Slot) → Own p t → (k : ℕ) → has (c t) k ≡ true → has (d t) k ≡ true) where
  kept_rules : (rs : List Rule) → Every (λ r. Targets (Own p) r.flows) rs
      → Every (λ r. Holds c r.flows) rs → Every (λ r. Holds d r.flows) rs
  kept_rules [] o h = tt
  kept_rules (r ∷ rs) o h = (
    goes_holds d r.flows
        (goes_into_lem (Own p) c d same d r.flows o.0 (goes_more c d c c less (λ s k e. e) r.flows (holds_goes c r.flows h.0))),
    kept_rules rs o.1 h.1,
  )

  pub own_accepted : verdict p c ≡ accepted → verdict p d ≡ accepted
  own_accepted e =
      holds_accepted p d
      (rules_hold p d
      (λ m pc l k. kept_rules (rules_at p m pc) (rules_own p formed m l pc k) (rules_at_lem p c (accepted_holds p c e) m pc l k)))
