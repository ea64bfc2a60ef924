-- What `step` makes of the slices that are lent to it, by computation: how many are enough, what a refusal leaves, and the sample in
-- one step. Assumes nothing.
use mathlib.Core.Path.{◌≡◌, refl, ap}
use mathlib.Core.Bool.{true, false}
use mathlib.Core.List.{List, [], ◌∷◌}
use Prim.Native.Nat.{ℕ}
use lib.IntN.{pos}
use lib.ListN.{get_or, replicate}
use Rattle.instruction.specs.Word.{instruction_of, fields_of}
use Rattle.reader.specs.Sample.{bytes_of, sample}
use Rattle.reader.proofs.Examples.{sample_program, sample_reads}
use Rattle.machine.specs.Run.{step}
use Rattle.turn.specs.Stop.{stop_of}
use Rattle.cells.specs.declared.Value.{Value}
use Rattle.cells.specs.declared.Frame.{Frame}
use Rattle.cells.specs.declared.Object.{Object}
use Rattle.cells.specs.Cells.{zero_value, zero_frame, frames_of, statics_of}
use Rattle.bounded.specs.Bounded.{steps, bounded}
use Rattle.bounded.specs.Step.{Stepping, turned_down, short, ran, stepping_number, stepping_values}
use Rattle.bounded.specs.Lent.{enough, lending, frames_left, statics_left}

-- "23: fewer than 32 frames, 256 objects of 16 cells or 16 statics lent to the stepper"
just_enough : enough 32 256 16 ≡ true
just_enough = refl

few_frames : enough 31 256 16 ≡ false
few_frames = refl

few_objects : enough 32 255 16 ≡ false
few_objects = refl

few_statics : enough 32 256 15 ≡ false
few_statics = refl

-- "touches no lent memory"
untouched : (before : List Frame) → frames_left short before ≡ before
untouched before = refl

untouched_refused : (number line : ℕ) (before : List Frame) → frames_left (turned_down number line) before ≡ before
untouched_refused number line before = refl

-- ---- the sample in one step, in slices of other values, one frame and one static more than asked
abbrev other : Value
other = record { object = 7; number = pos 7 }

abbrev frames : List Frame
frames = replicate 33 (record { method = 7; address = 7; registers = replicate 16 other; result = other })

abbrev objects : List Object
objects = replicate 256 (record { class = 7; cells = replicate 16 other })

abbrev one : Stepping
one = lending (bytes_of sample) 1 frames objects (replicate 17 other)

ran_one : one ≡ ran (bounded sample_program 1)
unfolding lending
ran_one = rw sample_reads refl

one_number : stepping_number one ≡ 22
unfolding bounded steps stop_of step instruction_of fields_of
one_number = ap stepping_number ran_one

one_values : stepping_values one ≡ 1 ∷ 2 ∷ 0 ∷ []
unfolding bounded steps stop_of step instruction_of fields_of
one_values = ap stepping_values ran_one

-- frame 1 is of method 1 at address 0
one_frame : get_or (frames_left one frames) 1 zero_frame ≡ record { method = 1; address = 0; registers = replicate 16 zero_value; result = zero_value }
unfolding bounded steps stop_of step instruction_of fields_of frames_of
one_frame = ap (λ x. get_or (frames_left x frames) 1 zero_frame) ran_one

beyond_frames : (get_or (frames_left one frames) 32 zero_frame).method ≡ 7
unfolding bounded steps stop_of step instruction_of fields_of frames_of
beyond_frames = ap (λ x. (get_or (frames_left x frames) 32 zero_frame).method) ran_one

-- an unused static is zero
first_static : get_or (statics_left one (replicate 17 other)) 0 other ≡ zero_value
unfolding bounded steps stop_of step instruction_of fields_of statics_of
first_static = ap (λ x. get_or (statics_left x (replicate 17 other)) 0 other) ran_one

beyond_statics : get_or (statics_left one (replicate 17 other)) 16 zero_value ≡ other
unfolding bounded steps stop_of step instruction_of fields_of statics_of
beyond_statics = ap (λ x. get_or (statics_left x (replicate 17 other)) 16 zero_value) ran_one
