-- The run takes the first line of the text that fits: numbers of handlers change no run. Assumes nothing.
use mathlib.Core.Path.{◌≡◌, refl, ap, ◌∙◌}
use mathlib.Core.List.{List, [], ◌∷◌}
use Prim.Native.Nat.{ℕ, zero, suc}
use lib.Dec.{ltb}
use Rattle.std.specs.Prelude.{Option, Some, None}
use Rattle.instruction.specs.Word.{pick}
use Rattle.program.specs.Program.{Program, code_length}
use Rattle.search.specs.Search.{handler_for}
use Rattle.search.specs.Lines.{target_of}
use Rattle.search.proofs.FirstLine.{same_target}
use Rattle.machine.specs.State.{Frame, Status, running, raised, done, uncaught, failed, State, object_at}
use Rattle.machine.specs.Run.{unwound, step_by, step, run}
use Rattle.machine.specs.ByLine.{unwound_to, line_step_by, line_run}

module _ (p : Program) where
  -- of a handler a step asks its target alone
  by_target : (s : State) (f : Frame) (rest : List Frame) (o : ℕ) (r : Option ℕ)
      → unwound p s f rest o r ≡ unwound_to s f rest o (target_of p f.method r)
  by_target s f rest o (Some h) = refl
  by_target s f rest o None = refl

  step_by_line : (s : State) (e : Status) (fs : List Frame) → step_by p s e fs ≡ line_step_by p s e fs
  step_by_line s e [] = refl
  step_by_line s (raised o) (f ∷ rest) =
      let class = (object_at s o).class in
      ap (λ (x : State). pick (ltb f.address (code_length p f.method)) x s)
      (by_target s f rest o (handler_for p f.method f.address class)
      ∙ ap (unwound_to s f rest o) (same_target p f.method f.address class))
  step_by_line s running (f ∷ rest) = refl
  step_by_line s done (f ∷ rest) = refl
  step_by_line s (uncaught o) (f ∷ rest) = refl
  step_by_line s (failed e) (f ∷ rest) = refl

  pub run_by_line : (n : ℕ) → run p n ≡ line_run p n
  unfolding run step line_run
  run_by_line zero = refl
  run_by_line (suc n) = rw (run_by_line n) (step_by_line (line_run p n) (line_run p n).status (line_run p n).frames)
