-- Every instruction's effect at a frame in its masks is safe: one clause an instruction. Assumes nothing.
use mathlib.Core.Path.{◌≡◌, refl}
use mathlib.Core.Bool.{true}
use Prim.Native.Nat.{ℕ, suc, ◌<◌}
use native.Mathlib.Omega.{arith}
use lib.Dec.{ltb}
use lib.ListN.{length}
use borrow.Author.Tests.{lt-ltb}
use Rattle.instruction.specs.declared.Instruction.{Instruction}
use Rattle.instruction.specs.declared.Instruction.TheVariants.{Nop, Move, Const, Goto, If, IfZero, Binop, Unop, NewInstance, Iget, Iput, Sget, Sput, InvokeVirtual, InvokeStatic, MoveResult, MoveException, Return, ReturnVoid, Throw, InstanceOf, CheckCast}
use Rattle.instruction.specs.Test.{Holds as TestHolds}
use Rattle.instruction.specs.Word.{falls_through}
use Rattle.operands.specs.Names.{named}
use Rattle.program.specs.Program.{Program, null_class, arithmetic_class, cast_class, class_count, registers, code_length, instruction_at}
use Rattle.program.specs.Lists.{Every}
use Rattle.values.specs.Values.{limits_of, call_test}
use Rattle.reader.specs.Formed.{Formed}
use Rattle.machine.specs.declared.Value.TheVariants.{Number, Reference}
use Rattle.machine.specs.State.{Frame, State, null, register, static}
use Rattle.machine.specs.Decide.{decide}
use Rattle.machine.proofs.Fitting.{method_exists}
use Rattle.flow.specs.Claim.{Claim}
use Rattle.flow.specs.Flows.{Flows, Holds}
use Rattle.flow.specs.Rules.{raised_by, rules_of}
use Rattle.flow.specs.Calls.{by_static}
use Rattle.flow.specs.Inside.{Asked, FrameIn, ObjectsIn, StaticsIn}
use Rattle.flow.specs.Safe.{SafeEffect}
use Rattle.flow.proofs.Frames.{moved_in, wrote_in}
use Rattle.flow.proofs.Decided.{next_inside, write, binop_safe, unop_safe, get_safe, instance_safe, cast_safe, on, put_safe, branch_safe, throw_safe, enter, argument, virtual_safe}

module _ (p : Program) (c : Claim) (formed : Formed p) (asked : Asked p c) (s : State) (f : Frame)
    (objects : ObjectsIn p c s.objects) (statics : StaticsIn p c s.objects s.statics) (here : FrameIn p c s.objects f)
    (size : length f.registers ≡ registers p f.method) where
  -- what is asked of the classes raised here, by the instruction that is known
  raised : {i : Instruction} → instruction_at p f.method f.address ≡ i → (g : ℕ → Flows)
      → Holds c (raised_by p f.method f.address (instruction_at p f.method f.address) g)
      → Holds c (raised_by p f.method f.address i g)
  raised e g w = rw e at w

  -- the program has the classes that instructions raise themselves
  has_own : (k : ℕ) → k < 5 → ltb k (class_count p) ≡ true
  has_own k l = lt-ltb k (class_count p) (omega (arith, l, formed.classes_from))

  instruction_safe : (i : Instruction) → instruction_at p f.method f.address ≡ i → TestHolds (named (limits_of p f.method) i)
      → TestHolds (call_test p i) → (falls_through i ≡ true → suc f.address < code_length p f.method)
      → Every (λ r. Holds c r.flows) (rules_of p f.method f.address i) → SafeEffect p c s f (decide p s f i)
  instruction_safe Nop e h t goes w = on p c formed asked s f objects here size (goes refl) w.0
  instruction_safe (Move a b) e h t goes w =
      write p c formed asked s f objects here size a h.0 (goes refl) w.0 (register f b) (w.1.0 _ (here.masks.registers_in b h.1))
  instruction_safe (Const a d) e h t goes w =
      write p c formed asked s f objects here size a h (goes refl) w.0 (Number d) w.1.0
  instruction_safe (Goto d) e h t goes w = moved_in p c s.objects f here d h w.0
  instruction_safe (If o a b d) e h t goes w =
      branch_safe p c formed asked s f objects here size (goes refl) w.0 d h.1.1 w.1.0 o (register f a) (register f b)
  instruction_safe (IfZero o a d) e h t goes w =
      branch_safe p c formed asked s f objects here size (goes refl) w.0 d h.1 w.1.0 o (register f a) null
  instruction_safe (Binop o a b d) e h t goes w =
      binop_safe p c formed asked s f objects here size a h.0 (goes refl) w.0 o (register f b) (register f d) _ _
      (here.masks.registers_in b h.1.0) (here.masks.registers_in d h.1.1) w.1.0
      (λ u v g x. raised e g x u v (has_own arithmetic_class (omega arith)))
  instruction_safe (Unop o a b) e h t goes w =
      unop_safe p c formed asked s f objects here size a h.0 (goes refl) w.0 o (register f b) _
      (here.masks.registers_in b h.1) w.1.0
  instruction_safe (NewInstance a k) e h t goes w =
      (h.1, λ os kept same. wrote_in p c os f kept a (Reference (length s.objects)) size (goes refl) h.0 w.0 (rw same w.1.0))
  instruction_safe (Iget a b x) e h t goes w =
      get_safe p c formed asked s f objects here size a h.0 (goes refl) w.0 b x (register f b)
      (here.masks.registers_in b h.1.0) w.1.0 (λ v g x. raised e g x v (has_own null_class (omega arith)))
  instruction_safe (Iput a b x) e h t goes w =
      put_safe p c formed asked s f objects here size (goes refl) w.0 a b x (register f b) h.0
      (here.masks.registers_in b h.1.0) w.1.0 (λ v g x. raised e g x v (has_own null_class (omega arith)))
  instruction_safe (Sget a x) e h t goes w =
      write p c formed asked s f objects here size a h.0 (goes refl) w.0 (static s x) (w.1.0 _ (statics x h.1))
  instruction_safe (Sput a x) e h t goes w =
      (w.1.0 _ (here.masks.registers_in a h.0), on p c formed asked s f objects here size (goes refl) w.0)
  instruction_safe (InvokeVirtual n b r) e h t goes w =
      virtual_safe p c formed asked s f objects here size n b r h.1 w.1.0 (register f r) e refl
      (here.masks.registers_in r (omega (arith, h.0, h.1))) (λ v g x. (raised e g x).0 v (has_own null_class (omega arith)))
  instruction_safe (InvokeStatic q b r) e h t goes w = (
    by_static b r e,
    enter p c formed asked s f objects here size q r h.0
        (λ i k.
        let k' : i < b = rw t.1.0 at k in
        argument p c formed asked s f objects here size r q i (omega (arith, h.1)) (w.1.0 q refl i k')),
  )
  instruction_safe (MoveResult a) e h t goes w =
      write p c formed asked s f objects here size a h (goes refl) w.0 f.result (w.1.0 _ here.masks.result_in)
  instruction_safe (MoveException a) e h t goes w =
      write p c formed asked s f objects here size a h (goes refl) w.0 f.result (w.1.0 _ here.masks.result_in)
  instruction_safe (Return a) e h t goes w = w.0 _ (here.masks.registers_in a h)
  instruction_safe ReturnVoid e h t goes w = w.0
  instruction_safe (Throw a) e h t goes w =
      throw_safe p c formed asked s f objects here size a (register f a) (here.masks.registers_in a h)
      (λ v g x. (raised e g x).0 v (has_own null_class (omega arith)))
      (λ k l i b g x. (raised e g x).1 k l i b)
  instruction_safe (InstanceOf a b k) e h t goes w =
      instance_safe p c formed asked s f objects here size a h.0 (goes refl) w.0 k (register f b) w.1.0
  instruction_safe (CheckCast a k) e h t goes w =
      cast_safe p c formed asked s f objects here size a h.0 (goes refl) w.0 k (register f a) (here.masks.registers_in a h.0) w.1.0
      (λ j l i b g x. raised e g x j l i b (has_own cast_class (omega arith)))

  pub decided_safe : SafeEffect p c s f (decide p s f (instruction_at p f.method f.address))
  decided_safe =
      let method = formed.methods f.method (method_exists p f.method f.address here.inside) in
      instruction_safe (instruction_at p f.method f.address) refl (method.names f.address here.inside)
      (method.calls f.address here.inside) (next_inside p formed f.method f.address here.inside)
      (asked.at f.method f.address here.inside).rules
