-- "Each register, address, class, field, static and method named must exist", one clause an instruction. Definitions only.
use Rattle.std.specs.Prelude.{◌+◌}
use Rattle.operands.specs.declared.Limits.{Limits}
use Rattle.instruction.specs.declared.Instruction.{Instruction}
use Rattle.instruction.specs.declared.Instruction.TheVariants.{Nop, Move, Const, Goto, If, IfZero, Binop, Unop, NewInstance, Iget, Iput, Sget, Sput, InvokeVirtual, InvokeStatic, MoveResult, MoveException, Return, ReturnVoid, Throw, InstanceOf, CheckCast}
use Rattle.instruction.specs.Test.{Test, always, under, most, ◌&◌}

-- the names of an instruction, at a method of l.registers registers and l.length instructions in a program of so many
-- classes, fields, statics and methods. A call's b arguments stand "in registers from c on", so that c + b is at most the
-- number of registers; a virtual call has at least one, its receiver. What a static call asks of its method's kind and
-- argument count, and "c = 0 if b = 0", is asked where the methods are at hand
abbrev pub named : Limits → Instruction → Test
named l Nop = always
named l (Move a b) = under a l.registers & under b l.registers
named l (Const a d) = under a l.registers
named l (Goto d) = under d l.length
named l (If c a b d) = under a l.registers & under b l.registers & under d l.length
named l (IfZero c a d) = under a l.registers & under d l.length
named l (Binop d a b c) = under a l.registers & under b l.registers & under c l.registers
named l (Unop c a b) = under a l.registers & under b l.registers
named l (NewInstance a b) = under a l.registers & under b l.classes
named l (Iget a b c) = under a l.registers & under b l.registers & under c l.fields
named l (Iput a b c) = under a l.registers & under b l.registers & under c l.fields
named l (Sget a b) = under a l.registers & under b l.statics
named l (Sput a b) = under a l.registers & under b l.statics
named l (InvokeVirtual a b c) = under 0 b & most (c + b) l.registers
named l (InvokeStatic a b c) = under a l.methods & most (c + b) l.registers
named l (MoveResult a) = under a l.registers
named l (MoveException a) = under a l.registers
named l (Return a) = under a l.registers
named l ReturnVoid = always
named l (Throw a) = under a l.registers
named l (InstanceOf a b c) = under a l.registers & under b l.registers & under c l.classes
named l (CheckCast a b) = under a l.registers & under b l.classes
