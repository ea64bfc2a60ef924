-- The run of document 01, which takes handlers by their lines in the text and knows no numbers. That it is the run, proofs/ByLine
-- says. Definitions only.
use Rattle.std.specs.Prelude.{List, [], ◌∷◌, ℕ, zero, suc, ltb, Option, Some, None, option_map}
use Rattle.instruction.specs.Word.{pick}
use Rattle.program.specs.Program.{Program, code_length}
use Rattle.search.specs.Lines.{line_target, first_line}
use Rattle.machine.specs.declared.Value.TheVariants.{Reference}
use Rattle.machine.specs.State.{Frame, Status, running, raised, done, uncaught, failed, State, object_at, start}
use Rattle.machine.specs.Run.{resumed, with_frames, dropped, step_by}

-- "takes the top frame's handler at its address (the object becomes the result) or drops the frame", by the address that the handler
-- goes to
abbrev pub unwound_to : State → Frame → List Frame → ℕ → Option ℕ → State
unwound_to s f rest o (Some to) = with_frames s (resumed f to (Reference o) ∷ rest)
unwound_to s f rest o None = dropped s o rest

-- "The first that fits is taken"
abbrev pub line_taken : Program → State → Frame → ℕ → Option ℕ
line_taken p s f o =
    option_map (line_target p f.method) (first_line p f.method f.address (object_at s o).class)

-- a step by status and top frame: one with an object pending goes by lines, any other as it does
abbrev pub line_step_by : Program → State → Status → List Frame → State
line_step_by p s e [] = s
line_step_by p s (raised o) (f ∷ rest) =
    pick (ltb f.address (code_length p f.method)) (unwound_to s f rest o (line_taken p s f o)) s
line_step_by p s running (f ∷ rest) = step_by p s running (f ∷ rest)
line_step_by p s done (f ∷ rest) = step_by p s done (f ∷ rest)
line_step_by p s (uncaught o) (f ∷ rest) = step_by p s (uncaught o) (f ∷ rest)
line_step_by p s (failed e) (f ∷ rest) = step_by p s (failed e) (f ∷ rest)

-- the state after n steps
unfoldable pub line_run : Program → ℕ → State
line_run p zero = start p
line_run p (suc n) = line_step_by p (line_run p n) (line_run p n).status (line_run p n).frames
