-- The start of a run keeps the lent slices' lengths. Assumes nothing.
use mathlib.Core.List.{List}
use Prim.Native.Nat.{ℕ}
use Rattle.cells.specs.Cells.{zero_value, zero_frame, zero_object}
use Rattle.store.proofs.Filled.{filled_length}
use Rattle.drive.specs.Models.{Lent}
use Rattle.drive.proofs.Driver.{Same}
use Rattle.drive.proofs.Keeps.{same_turns}
use Rattle.rounds.proofs.Falls.{run_keeps}
use Rattle.shift.specs.declared.Run.{Run}
use Rattle.stepper.specs.Start.{zeroed, start_done}

pub start_keeps : (t : List ℕ) (m : Lent) (first : Run) → Same m (start_done t m first).memory
unfolding start_done
start_keeps t m first =
    same_turns m (zeroed m) _
    (record {
      frames = filled_length 32 zero_frame m.frames;
      objects = filled_length 256 zero_object m.objects;
      statics = filled_length 16 zero_value m.statics;
    })
    (run_keeps t (zeroed m) first)
