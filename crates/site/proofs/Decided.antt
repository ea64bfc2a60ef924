-- What `decide` says of an instruction is `decided` of the registers that the code reads for it. Assumes nothing.
use mathlib.Core.Path.{◌≡◌, refl, sym}
use mathlib.Core.Bool.{false, false≢true}
use mathlib.Core.Option.{Option, none, some}
use Prim.Native.Nat.{ℕ, ◌%◌, ◌<◌}
use native.Mathlib.Omega.{arith}
use lib.Dec.{eqb, ltb}
use lib.IntN.{ℤ}
use borrow.Author.Tests.{eqb-true}
use Rattle.instruction.specs.declared.Instruction.{Instruction}
use Rattle.instruction.specs.declared.Instruction.TheVariants.{Nop, Move, Const, Goto, If, IfZero, Binop, Unop, NewInstance, Iget, Iput, Sget, Sput, InvokeVirtual, InvokeStatic, MoveResult, MoveException, Return, ReturnVoid, Throw, InstanceOf, CheckCast}
use Rattle.instruction.specs.Word.{pick, fields_of, instruction_of}
use Rattle.program.specs.Program.{Program}
use Rattle.machine.specs.declared.Value.{Value}
use Rattle.machine.specs.State.{Frame, State, null, register, class_of}
use Rattle.machine.specs.Decide.{decide}
use Rattle.instruction.proofs.Flags.{pick_cases}
use Rattle.site.specs.declared.Site.{Site}
use Rattle.site.specs.Site.{opcode_of, a_of, b_of, c_of, first_of, second_of, want_of, leaves_by, leaves_of}
use Rattle.site.specs.Work.{decided}

-- the register that an instruction tests first, or copies
abbrev pub first_register : Instruction → Option ℕ
first_register Nop = none
first_register (Move a b) = some b
first_register (Const a d) = none
first_register (Goto d) = none
first_register (If c a b d) = some a
first_register (IfZero c a d) = some a
first_register (Binop o a b c) = some b
first_register (Unop o a b) = some b
first_register (NewInstance a b) = none
first_register (Iget a b c) = some b
first_register (Iput a b c) = some b
first_register (Sget a b) = none
first_register (Sput a b) = some a
first_register (InvokeVirtual a b c) = some c
first_register (InvokeStatic a b c) = none
first_register (MoveResult a) = none
first_register (MoveException a) = none
first_register (Return a) = some a
first_register ReturnVoid = none
first_register (Throw a) = some a
first_register (InstanceOf a b c) = some b
first_register (CheckCast a b) = some a

-- the second one, of three instructions
abbrev pub second_register : Instruction → Option ℕ
second_register Nop = none
second_register (Move a b) = none
second_register (Const a d) = none
second_register (Goto d) = none
second_register (If c a b d) = some b
second_register (IfZero c a d) = none
second_register (Binop o a b c) = some c
second_register (Unop o a b) = none
second_register (NewInstance a b) = none
second_register (Iget a b c) = none
second_register (Iput a b c) = some a
second_register (Sget a b) = none
second_register (Sput a b) = none
second_register (InvokeVirtual a b c) = none
second_register (InvokeStatic a b c) = none
second_register (MoveResult a) = none
second_register (MoveException a) = none
second_register (Return a) = none
second_register ReturnVoid = none
second_register (Throw a) = none
second_register (InstanceOf a b c) = none
second_register (CheckCast a b) = none

-- the values of a frame there, null where there is none
abbrev value_in : Frame → Option ℕ → Value
value_in f none = null
value_in f (some r) = register f r

abbrev pub first_in : Frame → Instruction → Value
first_in f i = value_in f (first_register i)

abbrev pub second_in : Frame → Instruction → Value
second_in f i = value_in f (second_register i)

pub decided_is : (p : Program) (s : State) (f : Frame) (i : Instruction)
    → decide p s f i ≡ decided p (first_in f i) (second_in f i) f.result (class_of s (first_in f i)) i
decided_is p s f Nop = refl
decided_is p s f (Move a b) = refl
decided_is p s f (Const a d) = refl
decided_is p s f (Goto d) = refl
decided_is p s f (If c a b d) = refl
decided_is p s f (IfZero c a d) = refl
decided_is p s f (Binop o a b c) = refl
decided_is p s f (Unop o a b) = refl
decided_is p s f (NewInstance a b) = refl
decided_is p s f (Iget a b c) = refl
decided_is p s f (Iput a b c) = refl
decided_is p s f (Sget a b) = refl
decided_is p s f (Sput a b) = refl
decided_is p s f (InvokeVirtual a b c) = refl
decided_is p s f (InvokeStatic a b c) = refl
decided_is p s f (MoveResult a) = refl
decided_is p s f (MoveException a) = refl
decided_is p s f (Return a) = refl
decided_is p s f ReturnVoid = refl
decided_is p s f (Throw a) = refl
decided_is p s f (InstanceOf a b c) = refl
decided_is p s f (CheckCast a b) = refl

-- n is the register, if there is one
abbrev pub Names : Option ℕ → ℕ → Type 0
Names none n = Unit {0}
Names (some r) n = n ≡ r

-- it is below 16, if there is one
abbrev pub Low : Option ℕ → Type 0
Low none = Unit {0}
Low (some r) = r < 16

modulo_16 : (o : Option ℕ) (n : ℕ) → Low o → Names o n → Names o (n % 16)
modulo_16 none n l e = tt
modulo_16 (some r) n l e = omega (arith, l, e)

-- so where n and m are the registers of an instruction, their values will do
named : (p : Program) (s : State) (f : Frame) (i : Instruction) (n m : ℕ) → Names (first_register i) n → Names (second_register i) m
    → decided p (register f n) (register f m) f.result (class_of s (register f n)) i ≡ decide p s f i
named p s f Nop n m h k = refl
named p s f (Move a b) n m h k = rw h
named p s f (Const a d) n m h k = refl
named p s f (Goto d) n m h k = refl
named p s f (If c a b d) n m h k = rw (h, k)
named p s f (IfZero c a d) n m h k = rw h
named p s f (Binop o a b c) n m h k = rw (h, k)
named p s f (Unop o a b) n m h k = rw h
named p s f (NewInstance a b) n m h k = refl
named p s f (Iget a b c) n m h k = rw h
named p s f (Iput a b c) n m h k = rw (h, k)
named p s f (Sget a b) n m h k = refl
named p s f (Sput a b) n m h k = rw h
named p s f (InvokeVirtual a b c) n m h k = rw h
named p s f (InvokeStatic a b c) n m h k = refl
named p s f (MoveResult a) n m h k = refl
named p s f (MoveException a) n m h k = refl
named p s f (Return a) n m h k = rw h
named p s f ReturnVoid n m h k = refl
named p s f (Throw a) n m h k = rw h
named p s f (InstanceOf a b c) n m h k = rw h
named p s f (CheckCast a b) n m h k = rw h

-- a choice by opcode
by_opcode : (P : Instruction → Type 0) (o n : ℕ) (x y : Instruction) → (o ≡ n → P x) → P y → P (pick (eqb o n) x y)
by_opcode P o n x y h k = pick_cases P (eqb o n) x y (λ e. h (eqb-true o n e)) (λ e. k)

-- the registers that the code reads for the word w of opcode o are those of the instruction i
abbrev Wanted : ℕ → ℕ → Instruction → Type 0
Wanted o w i = Names (first_register i) (first_of o w) × Names (second_register i) (second_of o w)

fields_wanted : (o w d : ℕ) (v : ℤ) → leaves_by o ≡ false → Wanted o w (fields_of o (a_of w) (b_of w) (c_of w) d v)
unfolding fields_of
fields_wanted o w d v h =
    let P : Instruction → Type 0 = Wanted o w in
    by_opcode P o 1 _ _ (λ e. (rw e, tt))
    (by_opcode P o 2 _ _ (λ e. (tt, tt))
    (by_opcode P o 3 _ _ (λ e. (tt, tt))
    (by_opcode P o 4 _ _ (λ e. pick_cases P (ltb (c_of w) 6) _ _ (λ l. (rw e, rw e)) (λ l. (rw e, tt)))
    (by_opcode P o 5 _ _ (λ e. (rw e, rw e))
    (by_opcode P o 6 _ _ (λ e. (rw e, tt))
    (by_opcode P o 7 _ _ (λ e. absurd (false≢true (sym (rw e at h))))
    (by_opcode P o 8 _ _ (λ e. (rw e, tt))
    (by_opcode P o 9 _ _ (λ e. (rw e, rw e))
    (by_opcode P o 10 _ _ (λ e. (tt, tt))
    (by_opcode P o 11 _ _ (λ e. (rw e, tt))
    (by_opcode P o 12 _ _ (λ e. absurd (false≢true (sym (rw e at h))))
    (by_opcode P o 13 _ _ (λ e. absurd (false≢true (sym (rw e at h))))
    (by_opcode P o 14 _ _ (λ e. (tt, tt))
    (by_opcode P o 15 _ _ (λ e. (tt, tt))
    (by_opcode P o 16 _ _ (λ e. absurd (false≢true (sym (rw e at h))))
    (by_opcode P o 17 _ _ (λ e. absurd (false≢true (sym (rw e at h))))
    (by_opcode P o 18 _ _ (λ e. absurd (false≢true (sym (rw e at h))))
    (by_opcode P o 19 _ _ (λ e. (rw e, tt))
    (by_opcode P o 20 _ _ (λ e. (rw e, tt)) (tt, tt))))))))))))))))))))

wants : (s : Site) → s.opcode ≡ opcode_of s.word → leaves_of s ≡ false → Wanted s.opcode s.word (instruction_of s.word)
unfolding instruction_of opcode_of a_of b_of c_of
wants s e h = rw e (fields_wanted _ s.word _ _ (rw e at h))

pub wants_first : (s : Site) → s.opcode ≡ opcode_of s.word → leaves_of s ≡ false → Low (first_register (instruction_of s.word))
    → Names (first_register (instruction_of s.word)) (want_of s).first
unfolding want_of
wants_first s e h l =
    modulo_16 (first_register (instruction_of s.word)) (first_of s.opcode s.word) l (wants s e h).0

pub wants_second : (s : Site) → s.opcode ≡ opcode_of s.word → leaves_of s ≡ false → Low (second_register (instruction_of s.word))
    → Names (second_register (instruction_of s.word)) (want_of s).second
unfolding want_of
wants_second s e h l =
    modulo_16 (second_register (instruction_of s.word)) (second_of s.opcode s.word) l (wants s e h).1

-- in one: the values of the registers read
pub decided_wanted : (p : Program) (s : State) (f : Frame) (t : Site) → t.opcode ≡ opcode_of t.word → leaves_of t ≡ false
    → Low (first_register (instruction_of t.word)) → Low (second_register (instruction_of t.word))
    → decided p (register f (want_of t).first) (register f (want_of t).second) f.result (class_of s (register f (want_of t).first)) (instruction_of t.word)
    ≡ decide p s f (instruction_of t.word)
decided_wanted p s f t e h l m =
    named p s f (instruction_of t.word) (want_of t).first (want_of t).second (wants_first t e h l) (wants_second t e h m)
