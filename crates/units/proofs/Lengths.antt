-- An opcode that is taken has a length, by one test that is computed for all 256. Assumes nothing.
use mathlib.Core.Path.{◌≡◌}
use mathlib.Core.Bool.{Bool, true, false, not, ◌||◌}
use Prim.Native.Nat.{ℕ, ◌%◌, ◌<◌}
use native.Mathlib.Omega.{arith}
use mathlib.Core.List.{List}
use lib.Dec.{T, ltb, ltb→lt}
use Rattle.text.proofs.Cases.{never}
use Rattle.instruction.specs.Word.{condition_of, operation_of}
use Rattle.opcodes.specs.Opcodes.{length_of}
use Rattle.opcodes.proofs.EveryOpcode.{every, at as at_entry_lem, table}
use Rattle.units.specs.Units.{unit_at, length_at}
use Rattle.units.specs.Formats.{opcode_of, opcode_at}
use Rattle.units.specs.Translate.{is_taken}

-- the test of one opcode; the entry of the code's table is not asked
has_length : ℕ → ℕ → Bool
has_length op entry = not (is_taken (opcode_of op)) || ltb 0 (length_of op)

all_have : T (every has_length 0 table)
unfolding has_length opcode_of condition_of operation_of length_of
all_have = tt

-- b holds where t does
use_length : (t b : Bool) → T (not t || b) → t ≡ true → T b
use_length true b h e = h
use_length false b h e = never (cc)

pub taken_length : (op : ℕ) → op < 256 → is_taken (opcode_of op) ≡ true → 0 < length_of op
unfolding has_length
taken_length op l t =
    ltb→lt 0 (length_of op)
    (use_length (is_taken (opcode_of op)) (ltb 0 (length_of op)) (at_entry_lem has_length table all_have op l) t)

-- the same of the opcode at a place
pub taken_at : (us : List ℕ) (at : ℕ) → is_taken (opcode_at us at) ≡ true → 0 < length_at us at
taken_at us at t = taken_length (unit_at us at % 256) (omega arith) t
