-- A frame of a well-formed program has at most 16 registers, and those that an instruction reads are below 16. Assumes nothing.
use mathlib.Core.Path.{◌≡◌}
use mathlib.Core.List.{List, ◌∷◌}
use Prim.Native.Nat.{ℕ, ◌≤◌, ◌<◌}
use native.Mathlib.Omega.{arith}
use lib.ListN.{length}
use Rattle.instruction.specs.declared.Instruction.{Instruction}
use Rattle.instruction.specs.declared.Instruction.TheVariants.{Nop, Move, Const, Goto, If, IfZero, Binop, Unop, NewInstance, Iget, Iput, Sget, Sput, InvokeVirtual, InvokeStatic, MoveResult, MoveException, Return, ReturnVoid, Throw, InstanceOf, CheckCast}
use Rattle.instruction.specs.Test.{Holds}
use Rattle.program.specs.Program.{Program, registers, code_length}
use Rattle.reader.specs.Formed.{Formed}
use Rattle.machine.specs.State.{Frame, State}
use Rattle.machine.specs.Shaped.{Shaped}
use Rattle.machine.proofs.Fitting.{method_exists, top_shaped}
use Rattle.operands.specs.declared.Limits.{Limits}
use Rattle.operands.specs.Names.{named}
use Rattle.site.proofs.Decided.{Low, first_register, second_register}

-- a top frame's registers, at an address inside its method
pub registers_few : (p : Program) → Formed p → (s : State) → Shaped p s → (f : Frame) (rest : List Frame) → s.frames ≡ f ∷ rest
    → f.address < code_length p f.method → length f.registers ≤ 16
registers_few p formed s shaped f rest e inside =
    let size : length f.registers ≡ registers p f.method = (top_shaped p s shaped f rest e).0.size in
    let few : registers p f.method ≤ 16 = (formed.methods f.method (method_exists p f.method f.address inside)).registers_to in
    omega (arith, size, few)

module _ (l : Limits) (few : l.registers ≤ 16) where
  below : (r : ℕ) → r < l.registers → r < 16
  below r h = omega (arith, few, h)

  pub first_low : (i : Instruction) → Holds (named l i) → Low (first_register i)
  first_low Nop h = tt
  first_low (Move a b) h = below b h.1
  first_low (Const a d) h = tt
  first_low (Goto d) h = tt
  first_low (If c a b d) h = below a h.0
  first_low (IfZero c a d) h = below a h.0
  first_low (Binop o a b c) h = below b h.1.0
  first_low (Unop o a b) h = below b h.1
  first_low (NewInstance a b) h = tt
  first_low (Iget a b c) h = below b h.1.0
  first_low (Iput a b c) h = below b h.1.0
  first_low (Sget a b) h = tt
  first_low (Sput a b) h = below a h.0
  first_low (InvokeVirtual a b c) h = omega (arith, few, h.0, h.1)
  first_low (InvokeStatic a b c) h = tt
  first_low (MoveResult a) h = tt
  first_low (MoveException a) h = tt
  first_low (Return a) h = below a h
  first_low ReturnVoid h = tt
  first_low (Throw a) h = below a h
  first_low (InstanceOf a b c) h = below b h.1.0
  first_low (CheckCast a b) h = below a h.0

  pub second_low : (i : Instruction) → Holds (named l i) → Low (second_register i)
  second_low Nop h = tt
  second_low (Move a b) h = tt
  second_low (Const a d) h = tt
  second_low (Goto d) h = tt
  second_low (If c a b d) h = below b h.1.0
  second_low (IfZero c a d) h = tt
  second_low (Binop o a b c) h = below c h.1.1
  second_low (Unop o a b) h = tt
  second_low (NewInstance a b) h = tt
  second_low (Iget a b c) h = tt
  second_low (Iput a b c) h = below a h.0
  second_low (Sget a b) h = tt
  second_low (Sput a b) h = tt
  second_low (InvokeVirtual a b c) h = tt
  second_low (InvokeStatic a b c) h = tt
  second_low (MoveResult a) h = tt
  second_low (MoveException a) h = tt
  second_low (Return a) h = tt
  second_low ReturnVoid h = tt
  second_low (Throw a) h = tt
  second_low (InstanceOf a b c) h = tt
  second_low (CheckCast a b) h = tt
