-- Where words of a state stand in lent memory. Nothing here needs to be believed to read a promise of the stepper. Definitions only.
use Rattle.std.specs.Prelude.{ℕ, ◌+◌, ◌*◌}

-- where word j of frame i stands, and of object i
abbrev pub frame_place : ℕ → ℕ → ℕ
frame_place i j = 19 * i + j

abbrev pub object_place : ℕ → ℕ → ℕ
object_place i j = 17 * i + j
