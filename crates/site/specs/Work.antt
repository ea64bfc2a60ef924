-- What an instruction comes to in lent slices. Nothing here needs to be believed to read a promise of the stepper. Definitions
-- only.
use Rattle.std.specs.Prelude.{ℕ, ◌+◌, ◌/◌, ◌%◌, eqb, ltb, ℤ}
use Rattle.instruction.specs.declared.Instruction.{Instruction}
use Rattle.instruction.specs.declared.Instruction.TheVariants.{Nop, Move, Const, Goto, If, IfZero, Binop, Unop, NewInstance, Iget, Iput, Sget, Sput, InvokeVirtual, InvokeStatic, MoveResult, MoveException, Return, ReturnVoid, Throw, InstanceOf, CheckCast}
use Rattle.instruction.specs.Word.{pick, operation_of, condition_of, unary_of, signed_of}
use Rattle.program.specs.Program.{Program}
use Rattle.machine.specs.declared.Effect.{Effect}
use Rattle.machine.specs.declared.Effect.TheVariants as effect
use Rattle.machine.specs.declared.Value as machine
use Rattle.machine.specs.declared.Value.TheVariants.{Number}
use Rattle.machine.specs.State.{null}
use Rattle.machine.specs.Decide.{branch, binop, unop, get_field, put_field, virtual_call, throw, instance_of, check_cast}
use Rattle.cells.specs.declared.Value.{Value}
use Rattle.cells.specs.Cells.{value_of, zero_value}
use Rattle.cells.specs.Reads.{cell_in}
use Rattle.site.specs.declared.Seen.{Seen}
use Rattle.site.specs.declared.Site.{Site}
use Rattle.site.specs.declared.Work.{Work}
use Rattle.site.specs.declared.How.{How}
use Rattle.site.specs.declared.How.TheVariants.{Went, Leaves, Raises, Failed}
use Rattle.site.specs.Site.{opcode_of, a_of, b_of, c_of, d_of}

-- no place in any slice
abbrev pub nowhere : ℕ
nowhere = 18446744073709551615

-- the frame goes to an address, and nothing is written; a register takes a value, and the frame goes one on
abbrev pub goes_to : ℕ → How → Work
goes_to to how =
    record {
      to = 16;
      value = zero_value;
      object = nowhere;
      cell = 16;
      fixed = nowhere;
      gone = record { next = to; how = how };
      address = to;
    }

abbrev pub wrote : ℕ → ℕ → Value → Work
wrote pc a v =
    record {
      to = a % 16;
      value = v;
      object = nowhere;
      cell = 16;
      fixed = nowhere;
      gone = record { next = pc + 1; how = Went };
      address = pc + 1;
    }

abbrev pub stored_in : ℕ → ℕ → ℕ → Value → Work
stored_in pc o x v =
    record {
      to = 16;
      value = v;
      object = o;
      cell = x;
      fixed = nowhere;
      gone = record { next = pc + 1; how = Went };
      address = pc + 1;
    }

abbrev pub kept_in : ℕ → ℕ → Value → Work
kept_in pc x v =
    record {
      to = 16;
      value = v;
      object = nowhere;
      cell = 16;
      fixed = x;
      gone = record { next = pc + 1; how = Went };
      address = pc + 1;
    }

-- an effect at address pc; the cell that it loads holds v, the static g. What does not stay in its frame is left to do
abbrev pub work_of : ℕ → Value → Value → Effect → Work
work_of pc v g effect.Next = goes_to (pc + 1) Went
work_of pc v g (effect.Jump to) = goes_to to Went
work_of pc v g (effect.Write a u) = wrote pc a (cell_in u)
work_of pc v g (effect.Load a o x) = wrote pc a v
work_of pc v g (effect.LoadStatic a x) = wrote pc a g
work_of pc v g (effect.Make a k) = goes_to pc Leaves
work_of pc v g (effect.Store o x u) = stored_in pc o x (cell_in u)
work_of pc v g (effect.StoreStatic x u) = kept_in pc x (cell_in u)
work_of pc v g (effect.Call m c) = goes_to pc Leaves
work_of pc v g (effect.Exit u) = goes_to pc Leaves
work_of pc v g (effect.Raise o) = goes_to pc Leaves
work_of pc v g (effect.RaiseNew k) = goes_to pc (Raises k)
work_of pc v g (effect.Fail e) = goes_to pc (Failed e)

-- what an instruction decides, of its first and second value, the frame's result, and the class of the first one's object
abbrev pub decided : Program → machine.Value → machine.Value → machine.Value → ℕ → Instruction → Effect
decided p x y z k Nop = effect.Next
decided p x y z k (Move a b) = effect.Write a x
decided p x y z k (Const a d) = effect.Write a (Number d)
decided p x y z k (Goto d) = effect.Jump d
decided p x y z k (If c a b d) = branch c x y d
decided p x y z k (IfZero c a d) = branch c x null d
decided p x y z k (Binop o a b c) = binop a o x y
decided p x y z k (Unop o a b) = unop a o x
decided p x y z k (NewInstance a b) = effect.Make a b
decided p x y z k (Iget a b c) = get_field p k a c x
decided p x y z k (Iput a b c) = put_field p k c y x
decided p x y z k (Sget a b) = effect.LoadStatic a b
decided p x y z k (Sput a b) = effect.StoreStatic b x
decided p x y z k (InvokeVirtual a b c) = virtual_call p k a b c x
decided p x y z k (InvokeStatic a b c) = effect.Call a c
decided p x y z k (MoveResult a) = effect.Write a z
decided p x y z k (MoveException a) = effect.Write a z
decided p x y z k (Return a) = effect.Exit x
decided p x y z k ReturnVoid = effect.Exit null
decided p x y z k (Throw a) = throw p k x
decided p x y z k (InstanceOf a b c) = instance_of p k a c x
decided p x y z k (CheckCast a b) = check_cast p k a b x

-- the work of an instruction, of what it looks at
unfoldable pub decided_in : Program → Site → Seen → Instruction → Work
decided_in p s e i =
    work_of s.pc e.cell e.fixed (decided p (value_of e.first) (value_of e.second) (value_of e.result) e.class i)

-- d as a signed number
abbrev pub signed_in : ℕ → ℤ
signed_in w = signed_of (w / 16777216 % 256) (w / 65536 % 256) (w / 256 % 256) (w % 256)

-- the instructions of a kind, by their word
abbrev pub binop_of : ℕ → Instruction
binop_of w = Binop (operation_of (d_of w)) (a_of w) (b_of w) (c_of w)

abbrev pub iget_of : ℕ → Instruction
iget_of w = Iget (a_of w) (b_of w) (c_of w)

abbrev pub iput_of : ℕ → Instruction
iput_of w = Iput (a_of w) (b_of w) (c_of w)

abbrev pub sget_of : ℕ → Instruction
sget_of w = Sget (a_of w) (b_of w)

abbrev pub sput_of : ℕ → Instruction
sput_of w = Sput (a_of w) (b_of w)

-- those of one kind that have several opcodes: move, const, goto, unop, move-result, move-exception, else nop
abbrev pub plain_by : ℕ → ℕ → Instruction
plain_by o w =
    pick (eqb o 1) (Move (a_of w) (b_of w))
    (pick (eqb o 2) (Const (a_of w) (signed_in w))
    (pick (eqb o 3) (Goto (d_of w))
    (pick (eqb o 6) (Unop (unary_of (c_of w)) (a_of w) (b_of w))
    (pick (eqb o 14) (MoveResult (a_of w)) (pick (eqb o 15) (MoveException (a_of w)) Nop)))))

unfoldable pub plain_of : ℕ → Instruction
plain_of w = plain_by (opcode_of w) w

unfoldable pub branch_of : ℕ → Instruction
branch_of w =
    pick (ltb (c_of w) 6) (If (condition_of (c_of w)) (a_of w) (b_of w) (d_of w))
    (IfZero (condition_of (c_of w % 6)) (a_of w) (d_of w))

unfoldable pub classed_of : ℕ → Instruction
classed_of w = pick (eqb (opcode_of w) 19) (InstanceOf (a_of w) (b_of w) (c_of w)) (CheckCast (a_of w) (b_of w))
