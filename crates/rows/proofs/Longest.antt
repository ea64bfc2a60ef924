-- How long what is printed of a state is at most: 32 lines of frames, 256 of objects and 16 of statics. Assumes nothing.
use mathlib.Core.List.{◌∷◌}
use Prim.Native.Nat.{ℕ, ◌*◌, ◌≤◌}
use native.Mathlib.Omega.{arith}
use lib.ListN.{length, get_or, length-append}
use Rattle.program.specs.Program.{Program, field_count, registers}
use Rattle.program.proofs.Joined.{joined_short}
use Rattle.machine.specs.declared.Value.{Value}
use Rattle.machine.specs.declared.Value.TheVariants.{Number, Reference}
use Rattle.machine.specs.State.{Frame, Object, State, null, register, object_at, static}
use Rattle.memory.specs.Memory.{frame_at}
use Rattle.rows.specs.State.{value_text, values_text, frame_text, object_text, static_text, state_text}

-- a value, and so many of them, a space before each
value_short : (v : Value) → length (value_text v) ≤ 8
value_short (Number z) = omega arith
value_short (Reference o) = omega arith

values_short : (n : ℕ) (v : ℕ → Value) → length (values_text n v) ≤ n * 9
values_short n v = joined_short n 9 (λ i. 32 ∷ value_text (v i)) (λ i l. omega (arith, value_short (v i)))

module _ (p : Program) where
  -- `frame`, two numbers, a result, 16 registers and the line end
  frame_short : (f : Frame) → registers p f.method ≤ 16 → length (frame_text p f) ≤ 165
  frame_short f few =
      simp length-append (omega (arith, value_short f.result, values_short (registers p f.method) (register f)))

  -- `object`, a number, 16 cells and the line end
  object_short : (o : Object) → field_count p ≤ 16 → length (object_text p o) ≤ 154
  object_short o few = simp length-append (omega (arith, values_short (field_count p) (λ x. get_or o.cells x null)))

-- `static`, a value and the line end
static_short : (v : Value) → length (static_text v) ≤ 16
static_short v = simp length-append (omega (arith, value_short v))

pub state_longest : (p : Program) (s : State)
    → ((m : ℕ) → registers p m ≤ 16) → field_count p ≤ 16 → p.statics ≤ 16
    → length s.frames ≤ 32 → length s.objects ≤ 256
    → length (state_text p s) ≤ 44960
unfolding state_text
state_longest p s few fields shared depth made =
    simp length-append
    (omega (
      arith,
      joined_short (length s.frames) 165 (λ i. frame_text p (frame_at s.frames i)) (λ i l. frame_short p (frame_at s.frames i) (few (frame_at s.frames i).method)),
      joined_short (length s.objects) 154 (λ i. object_text p (object_at s i)) (λ i l. object_short p (object_at s i) fields),
      joined_short p.statics 16 (λ i. static_text (static s i)) (λ i l. static_short (static s i)),
    ))
