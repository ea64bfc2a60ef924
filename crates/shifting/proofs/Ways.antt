-- The two ways of a step that does not stay in its frame: the next state lies in the slices, or nothing is written. Assumes nothing.
use mathlib.Core.Path.{◌≡◌, sym, ap, subst, ◌∙◌}
use mathlib.Core.List.{List, ◌∷◌}
use mathlib.Core.Option.{none}
use Prim.Native.Nat.{ℕ, ◌≤◌, ◌<◌}
use native.Mathlib.Omega.{arith}
use lib.ListN.{length}
use Rattle.std.specs.Prelude.{Option, Some, None}
use Rattle.program.specs.Program.{Program}
use Rattle.program.specs.Lists.{Every}
use Rattle.machine.specs.State.{Frame, State}
use Rattle.machine.specs.Run.{step}
use Rattle.turn.specs.Stop.{stop_of}
use Rattle.laid.proofs.Frames.{frames_length}
use Rattle.laid.proofs.Objects.{objects_length}
use Rattle.site.specs.Work.{nowhere}
use Rattle.shift.specs.declared.Run.{Run}
use Rattle.shift.specs.declared.Shift.{Shift}
use Rattle.shift.specs.declared.Stop.{Stop}
use Rattle.shift.specs.Places.{next_left}
use Rattle.shift.specs.Shift.{only, stopped}
use Rattle.drive.specs.Models.{Lent, lent, Done, done}
use Rattle.lies.specs.Lies.{Roomy, Lies}
use Rattle.shifting.specs.Shifting.{ShiftedBy, Shifted, written, frames_by, objects_by, Topped}
use Rattle.shifting.proofs.Written.{none_passed, nothing_written}

-- ---- the slices of a state

module _ (s : State) (before now : Lent) (k : Run) (roomy : Roomy before) (lies : Lies s before k.tally now) where
  pub frames_end_lem : length now.frames ≤ nowhere
  frames_end_lem =
      let size : length now.frames ≡ length before.frames = ap length lies.frames ∙ frames_length s before.frames in
      omega (arith, size, roomy.frames_end)

  pub objects_end_lem : length now.objects ≤ nowhere
  objects_end_lem =
      let size : length now.objects ≡ length before.objects = ap length lies.objects ∙ objects_length s before.objects in
      omega (arith, size, roomy.objects_end)

-- the frames below the top one wait, and there are at most 31
module _ (s : State) (before now : Lent) (k : Run) (f : Frame) (rest : List Frame) (c : Topped s before now k f rest) where
  pub deep : k.tally.depth ≡ length (f ∷ rest)
  deep = c.lies.depth ∙ ap length c.frames

  pub few_below : length rest < 32
  few_below = rw c.frames at c.lies.few_frames

  pub all_wait : Every (λ (g : Frame). g.address < 32) rest
  all_wait = rw c.frames at c.lies.waiting

-- ---- the two ways

module _ (t : List ℕ) (p : Program) (s : State) (before now : Lent) (k : Run) where
  -- the state u is next
  pub goes_on_lem : (e : Shift) (u : State) → step p s ≡ u → stop_of p s ≡ none → e.run.stop ≡ None → e.run.left ≡ next_left k.left
      → Lies u before e.run.tally (written t now e).memory → Shifted p s before now k (written t now e)
  unfolding written
  goes_on_lem e u next free going left l =
      subst (λ (x : Option Stop). ShiftedBy p s before now k (written t now e) x) (sym going) (free, (rw next l, left))

  -- so too where no argument is passed
  pub goes_alone : (e : Shift) (u : State) → step p s ≡ u → stop_of p s ≡ none → e.run.stop ≡ None → e.run.left ≡ next_left k.left
      → e.pass.count ≡ 0 → Lies u before e.run.tally (lent (frames_by now.frames e) (objects_by now.objects e) now.statics)
      → Shifted p s before now k (written t now e)
  goes_alone e u next free going left alone l =
      goes_on_lem e u next free going left
      (subst (λ (r : Done Run). Lies u before e.run.tally r.memory) (sym (none_passed t now e alone)) l)

  -- the step cannot be made
  pub stops : (x : Stop) → Roomy before → Lies s before k.tally now → ShiftedBy p s before now k (done (stopped k x) now) (Some x)
      → Shifted p s before now k (written t now (only (stopped k x)))
  stops x roomy lies w =
      subst (λ (r : Done Run). Shifted p s before now k r)
      (sym (nothing_written t now (stopped k x) (frames_end_lem s before now k roomy lies) (objects_end_lem s before now k roomy lies)))
      w
