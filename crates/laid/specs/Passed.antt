-- A slice whose first elements are given by their places, and the arguments of a call passed from one frame of a slice to
-- another. Nothing here needs to be believed to read a promise of the stepper. Definitions only.
use Rattle.std.specs.Prelude.{List, ◌∷◌, ℕ, zero, suc, ◌+◌, ◌-◌, ltb, length, get_or, set}
use Rattle.instruction.specs.Word.{pick}
use Rattle.program.specs.Lists.{tab}
use Rattle.program.specs.Program.{Program, registers, arguments}
use Rattle.machine.specs.declared.Value as machine
use Rattle.machine.specs.State as state
use Rattle.machine.specs.State.{State, null, register}
use Rattle.machine.specs.Run.{with_frames}
use Rattle.cells.specs.declared.Frame.{Frame}
use Rattle.cells.specs.Cells.{zero_value}
use Rattle.store.specs.Store.{absent_frame, registers_of, with_register}

-- a slice that held what was before, and has g 0, g 1, .., g (k - 1) in its first k places
abbrev pub laid : {A : Type 0} → ℕ → (ℕ → A) → List A → A → List A
laid k g before d = tab (length before) (λ i. pick (ltb i k) (g i) (get_or before i d))

-- so many registers, from `from` on, of frame `top` are written to frame `above`, from `to` on
unfoldable pub passed_frames : ℕ → ℕ → ℕ → ℕ → ℕ → List Frame → List Frame
passed_frames zero from to top above fs = fs
passed_frames (suc n) from to top above fs =
    passed_frames n (suc from) (suc to) top above
    (set fs above (with_register (get_or fs above absent_frame) to (get_or (registers_of (get_or fs top absent_frame)) from zero_value)))

-- how many registers of method m's frame come before its arguments
abbrev pub skipped : Program → ℕ → ℕ
skipped p m = registers p m - arguments p m

-- register i of a frame entered by a call of method m, and that register while only the first k arguments have been passed
abbrev pub argument : Program → ℕ → ℕ → state.Frame → ℕ → machine.Value
argument p m c f i = pick (ltb i (skipped p m)) null (register f (c + (i - skipped p m)))

abbrev pub argument_by : Program → ℕ → ℕ → state.Frame → ℕ → ℕ → machine.Value
argument_by p m c f k i = pick (ltb i (skipped p m + k)) (argument p m c f i) null

-- the new frame then, whose method is yet to be written, and the state with it
abbrev pub entering : Program → ℕ → ℕ → state.Frame → ℕ → state.Frame
entering p m c f k =
    record { method = 0; address = 0; registers = tab (registers p m) (argument_by p m c f k); result = null }

abbrev pub calling : Program → ℕ → ℕ → State → state.Frame → List state.Frame → ℕ → State
calling p m c s f rest k = with_frames s (entering p m c f k ∷ f ∷ rest)
