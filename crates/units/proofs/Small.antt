-- The numbers of an instruction fit its fields: of one that is read from a word, and of one that is made of units that 27 lets pass.
-- Assumes nothing.
use mathlib.Core.Path.{◌≡◌}
use mathlib.Core.Bool.{Bool, true, false}
use mathlib.Core.List.{List}
use Prim.Native.Nat.{ℕ, zero, suc, ◌+◌, ◌*◌, ◌-◌, ◌/◌, ◌%◌, ◌≤◌, ◌<◌}
use native.Mathlib.Omega.{arith}
use lib.Dec.{eqb, ltb}
use lib.IntN.{ℤ}
use lib.ListN.{length, take, get_or}
use mir.Syntax.{w32}
use mir.Val.{Fits, SFits}
use mir.ValLaws.{to_z-Fits}
use borrow.Author.Tests.{lt-ltb}
use Rattle.instruction.specs.declared.Instruction.{Instruction}
use Rattle.instruction.specs.Test.{Holds}
use Rattle.instruction.specs.Word.{pick, signed_of, fields_of, instruction_of}
use Rattle.instruction.proofs.Flags.{pick_cases}
use Rattle.program.specs.Lists.{tab}
use Rattle.units.specs.declared.Branch.{Branch}
use Rattle.units.specs.declared.Branch.TheVariants.{Goto, Goto16, Goto32, If, IfZero}
use Rattle.units.specs.declared.Opcode.{Opcode}
use Rattle.units.specs.declared.Opcode.TheVariants.{NotTaken, Plain as plain, Branch as branch}
use Rattle.units.specs.declared.Plain.{Plain}
use Rattle.units.specs.declared.Plain.TheVariants.{Nop, Move, MoveFrom16, Move16, MoveResult, MoveException, ReturnVoid, Return}
use Rattle.units.specs.declared.Plain.TheVariants.{Const4, Const16, Const32, ConstHigh16, CheckCast, InstanceOf, NewInstance, Throw}
use Rattle.units.specs.declared.Plain.TheVariants.{Iget, Iput, Sget, Sput, InvokeVirtual, InvokeStatic, InvokeVirtualRange}
use Rattle.units.specs.declared.Plain.TheVariants.{InvokeStaticRange, Unop, Binop, BinopInPlace}
use Rattle.units.specs.Units.{unit_at, address_in}
use Rattle.units.specs.Formats.{opcode_at, field_a_a, fieldB, signed_by, wide_of, five_of, target_of}
use Rattle.units.specs.Frames.{plain_frame, branch_frame, plain_fine, branch_fine, reached, framed, fine, frame_at, fine_at}
use Rattle.units.proofs.ReadBack.{Small}

-- ---- of a word
either : (t : Bool) (i j : Instruction) → Small i → Small j → Small (pick t i j)
either true i j h k = h
either false i j h k = k

module _ (o a b c d : ℕ) (z : ℤ) (ha : a < 256) (hb : b < 256) (hc : c < 256) (hd : d < 4294967296) (hz : SFits w32 z) where
  fields_small : Small (fields_of o a b c d z)
  unfolding fields_of
  fields_small =
      either (eqb o 1) _ _ (ha, hb)
      (either (eqb o 2) _ _ (ha, hz)
      (either (eqb o 3) _ _ hd
      (either (eqb o 4) _ _ (either (ltb c 6) _ _ (ha, hb, hd) (ha, hd))
      (either (eqb o 5) _ _ (ha, hb, hc)
      (either (eqb o 6) _ _ (ha, hb)
      (either (eqb o 7) _ _ (ha, hb)
      (either (eqb o 8) _ _ (ha, hb, hc)
      (either (eqb o 9) _ _ (ha, hb, hc)
      (either (eqb o 10) _ _ (ha, hb)
      (either (eqb o 11) _ _ (ha, hb)
      (either (eqb o 12) _ _ (ha, hb, hc)
      (either (eqb o 13) _ _ (ha, hb, hc)
      (either (eqb o 14) _ _ ha
      (either (eqb o 15) _ _ ha
      (either (eqb o 16) _ _ ha
      (either (eqb o 17) _ _ tt
      (either (eqb o 18) _ _ ha
      (either (eqb o 19) _ _ (ha, hb, hc)
      (either (eqb o 20) _ _ (ha, hb) tt)))))))))))))))))))

pub instruction_small : (w : ℕ) → Small (instruction_of w)
unfolding instruction_of signed_of
instruction_small w =
    fields_small (w / 72057594037927936) (w / 281474976710656 % 256) (w / 1099511627776 % 256) (w / 4294967296 % 256)
    (w % 4294967296) (signed_of (w / 16777216 % 256) (w / 65536 % 256) (w / 256 % 256) (w % 256)) (omega arith) (omega arith)
    (omega arith) (omega arith)
    (to_z-Fits w32 (((w / 16777216 % 256 * 256 + w / 65536 % 256) * 256 + w / 256 % 256) * 256 + w % 256)
    (record { fits = omega arith }))

-- ---- of units
signed_fits : (h x : ℕ) → x < 2 * h → 2 * h ≤ 4294967296 → SFits w32 (signed_by h x)
unfolding signed_by
signed_fits h x l m =
    to_z-Fits w32 (pick (ltb x h) x (x + (4294967296 - 2 * h)))
    (pick_cases (Fits w32) (ltb x h) x (x + (4294967296 - 2 * h)) (λ t. record { fits = omega arith }) (λ t. record { fits = omega arith }))

-- the first register of a call
first_listed : (u w n : ℕ) → get_or (take n (five_of u w)) 0 0 < 256
first_listed u w zero = omega arith
first_listed u w (suc n) = omega arith

first_ranged : (w n : ℕ) → (ltb 0 n ≡ true → w < 256) → get_or (tab n (λ j. w + j)) 0 0 < 256
first_ranged w zero h = omega arith
first_ranged w (suc n) h = let l = h (lt-ltb 0 (suc n) (omega arith)) in omega arith

module _ (u v w : ℕ) (second : v < 65536) (third : w < 65536) where
  plain_small : (o : Plain) → Holds (plain_fine o u v w) → Small (plain_frame o u v w)
  plain_small Nop h = tt
  plain_small Move h = (omega arith, omega arith)
  plain_small MoveFrom16 h = (omega arith, h)
  plain_small Move16 h = (h.1.0, h.1.1)
  plain_small MoveResult h = omega arith
  plain_small MoveException h = omega arith
  plain_small ReturnVoid h = tt
  plain_small Return h = omega arith
  plain_small Const4 h = (omega arith, signed_fits 8 (fieldB u) (omega arith) (omega arith))
  plain_small Const16 h = (omega arith, signed_fits 32768 v (omega arith) (omega arith))
  plain_small Const32 h = (omega arith, signed_fits 2147483648 (wide_of v w) (omega arith) (omega arith))
  plain_small ConstHigh16 h = (omega arith, signed_fits 2147483648 (65536 * v) (omega arith) (omega arith))
  plain_small CheckCast h = (omega arith, h)
  plain_small InstanceOf h = (omega arith, omega arith, h)
  plain_small NewInstance h = (omega arith, h)
  plain_small Throw h = omega arith
  plain_small Iget h = (omega arith, omega arith, h)
  plain_small Iput h = (omega arith, omega arith, h)
  plain_small Sget h = (omega arith, h)
  plain_small Sput h = (omega arith, h)
  plain_small InvokeVirtual h = (h.0, omega arith, first_listed u w (fieldB u))
  plain_small InvokeStatic h = (h.0, omega arith, first_listed u w (fieldB u))
  plain_small InvokeVirtualRange h = (h.0, omega arith, first_ranged w (field_a_a u) h.1)
  plain_small InvokeStaticRange h = (h.0, omega arith, first_ranged w (field_a_a u) h.1)
  plain_small (Unop o) h = (omega arith, omega arith)
  plain_small (Binop o) h = (omega arith, omega arith, omega arith)
  plain_small (BinopInPlace o) h = (omega arith, omega arith, omega arith)

  -- a target that is reached has an address of four bytes
  branch_small : (us : List ℕ) (place : ℕ) (b : Branch) → Holds (branch_fine (reached us place) b u v)
      → Small (branch_frame (address_in us place) b u)
  branch_small us place Goto h = h.1.1
  branch_small us place Goto16 h = h.1.1.1
  branch_small us place Goto32 h = h.1.1
  branch_small us place (If c) h = (omega arith, omega arith, h.1.1)
  branch_small us place (IfZero c) h = (omega arith, h.1.1)

  framed_small : (us : List ℕ) (at : ℕ) (o : Opcode) → Holds (fine us at o u v w) → Small (framed us at o u v w)
  framed_small us at (plain o) h = plain_small o h
  framed_small us at (branch b) h = branch_small us (target_of (length us) at b u v w) b h
  framed_small us at NotTaken h = tt

-- of the units at a place, each of four digits
pub frame_small : (us : List ℕ) → ((k : ℕ) → unit_at us k < 65536) → (at : ℕ) → Holds (fine_at us at) → Small (frame_at us at)
frame_small us below at h =
    framed_small (unit_at us at) (unit_at us (at + 1)) (unit_at us (at + 2)) (below (at + 1)) (below (at + 2)) us at (opcode_at us at) h
