-- The instruction of a word, by its opcode, is the one that the code for that opcode does. Assumes nothing.
use mathlib.Core.Path.{◌≡◌, refl, sym}
use mathlib.Core.Bool.{Bool, true, false, false≢true, ◌||◌}
use Prim.Native.Nat.{ℕ}
use lib.Dec.{eqb}
use borrow.Author.Tests.{eqb-true, ne_eqb}
use Rattle.instruction.specs.Word.{fields_of, instruction_of}
use Rattle.site.specs.Site.{opcode_of, a_of, b_of, c_of, d_of, leaves_by}
use Rattle.site.specs.Work.{binop_of, iget_of, iput_of, sget_of, sput_of, plain_of, branch_of, classed_of}

pub branch_chosen : (w : ℕ) → opcode_of w ≡ 4 → branch_of w ≡ instruction_of w
unfolding opcode_of a_of b_of c_of d_of branch_of instruction_of fields_of
branch_chosen w e = rw e

pub binop_chosen : (w : ℕ) → opcode_of w ≡ 5 → binop_of w ≡ instruction_of w
unfolding opcode_of a_of b_of c_of d_of instruction_of fields_of
binop_chosen w e = rw e

pub iget_chosen : (w : ℕ) → opcode_of w ≡ 8 → iget_of w ≡ instruction_of w
unfolding opcode_of a_of b_of c_of instruction_of fields_of
iget_chosen w e = rw e

pub iput_chosen : (w : ℕ) → opcode_of w ≡ 9 → iput_of w ≡ instruction_of w
unfolding opcode_of a_of b_of c_of instruction_of fields_of
iput_chosen w e = rw e

pub sget_chosen : (w : ℕ) → opcode_of w ≡ 10 → sget_of w ≡ instruction_of w
unfolding opcode_of a_of b_of instruction_of fields_of
sget_chosen w e = rw e

pub sput_chosen : (w : ℕ) → opcode_of w ≡ 11 → sput_of w ≡ instruction_of w
unfolding opcode_of a_of b_of instruction_of fields_of
sput_chosen w e = rw e

instance_chosen : (w : ℕ) → opcode_of w ≡ 19 → classed_of w ≡ instruction_of w
unfolding opcode_of a_of b_of c_of classed_of instruction_of fields_of
instance_chosen w e = rw e

cast_chosen : (w : ℕ) → opcode_of w ≡ 20 → classed_of w ≡ instruction_of w
unfolding opcode_of a_of b_of c_of classed_of instruction_of fields_of
cast_chosen w e = rw e

either : (w : ℕ) (t : Bool) → eqb (opcode_of w) 19 ≡ t → (t || eqb (opcode_of w) 20) ≡ true → classed_of w ≡ instruction_of w
either w true e h = instance_chosen w (eqb-true _ 19 e)
either w false e h = cast_chosen w (eqb-true _ 20 h)

pub class_chosen : (w : ℕ) → (eqb (opcode_of w) 19 || eqb (opcode_of w) 20) ≡ true → classed_of w ≡ instruction_of w
class_chosen w h = either w _ refl h

-- every other one that stays in its frame
pub plain_chosen : (w : ℕ) → leaves_by (opcode_of w) ≡ false
    → eqb (opcode_of w) 4 ≡ false → eqb (opcode_of w) 5 ≡ false → eqb (opcode_of w) 8 ≡ false
    → eqb (opcode_of w) 9 ≡ false → eqb (opcode_of w) 10 ≡ false → eqb (opcode_of w) 11 ≡ false
    → (eqb (opcode_of w) 19 || eqb (opcode_of w) 20) ≡ false → plain_of w ≡ instruction_of w
unfolding opcode_of a_of b_of c_of d_of plain_of instruction_of fields_of
plain_chosen w h e4 e5 e8 e9 e10 e11 k =
    rw (
      e4,
      e5,
      ne_eqb (opcode_of w) 7 (λ q. false≢true (sym (rw q at h))),
      e8,
      e9,
      e10,
      e11,
      ne_eqb (opcode_of w) 12 (λ q. false≢true (sym (rw q at h))),
      ne_eqb (opcode_of w) 13 (λ q. false≢true (sym (rw q at h))),
      ne_eqb (opcode_of w) 16 (λ q. false≢true (sym (rw q at h))),
      ne_eqb (opcode_of w) 17 (λ q. false≢true (sym (rw q at h))),
      ne_eqb (opcode_of w) 18 (λ q. false≢true (sym (rw q at h))),
      ne_eqb (opcode_of w) 19 (λ q. false≢true (sym (rw q at k))),
      ne_eqb (opcode_of w) 20 (λ q. false≢true (sym (rw q at k))),
    )
