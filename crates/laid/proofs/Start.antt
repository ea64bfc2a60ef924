-- Slices whose first elements are zero hold the state at the start. Assumes nothing.
use mathlib.Core.Path.{◌≡◌, refl, sym, ap, ◌∙◌}
use mathlib.Core.List.{List, []}
use Prim.Native.Nat.{ℕ, ◌≤◌}
use native.Mathlib.Decide.{ℕ_discrete}
use native.Mathlib.Omega.{arith}
use lib.ListN.{length, get_or, replicate}
use Rattle.program.specs.Program.{Program, registers}
use Rattle.machine.specs.declared.Value as machine
use Rattle.machine.specs.State.{null, static, start}
use Rattle.machine.proofs.Elements.{replicate_at}
use Rattle.cells.specs.declared.Value.{Value}
use Rattle.cells.specs.declared.Frame.{Frame}
use Rattle.cells.specs.declared.Object.{Object}
use Rattle.cells.specs.Cells.{cell_of, zero_value, zero_frame, zero_object, frame_of, frame_at, object_in, frames_of, objects_of, statics_of}
use Rattle.store.specs.Store.{filled}
use Rattle.laid.proofs.Lists.{laid_same, laid_filled}
use Rattle.laid.proofs.Parts.{frame_null, frame_none}
use Rattle.laid.proofs.Frames.{frame_rest}
use Rattle.laid.proofs.Objects.{object_out}

-- an element of nulls alone
null_at : (n i : ℕ) → get_or (replicate n null) i null ≡ null
null_at n i = replicate_at (λ (v : machine.Value). v ≡ null) n null i refl

module _ (p : Program) where
  pub frames_start : (before : List Frame) → 32 ≤ length before → filled 32 zero_frame before ≡ frames_of (start p) before
  unfolding frames_of
  frames_start before enough =
      laid_filled 32 zero_frame before zero_frame enough
      ∙ laid_same 32 before zero_frame (λ i. zero_frame) (λ i. frame_of (frame_at (start p).frames i)) (λ i l. sym (at i (ℕ_discrete i 0)))
    where
      at : (i : ℕ) → Dec (i ≡ 0) → frame_of (frame_at (start p).frames i) ≡ zero_frame
      at i (yes e) =
          ap (λ (j : ℕ). frame_of (frame_at (start p).frames j)) e ∙ frame_null (replicate (registers p 0) null) (null_at (registers p 0))
      at i (no o) = ap frame_of (frame_rest (record { method = 0; address = 0; registers = replicate (registers p 0) null; result = null }) [] i o) ∙ frame_none

  pub objects_start : (before : List Object) → 256 ≤ length before → filled 256 zero_object before ≡ objects_of (start p) before
  unfolding objects_of
  objects_start before enough =
      laid_filled 256 zero_object before zero_object enough
      ∙ laid_same 256 before zero_object (λ i. zero_object) (object_in (start p)) (λ i l. sym (object_out (start p) i (omega arith)))

  pub statics_start : (before : List Value) → 16 ≤ length before → filled 16 zero_value before ≡ statics_of (start p) before
  unfolding statics_of
  statics_start before enough =
      laid_filled 16 zero_value before zero_value enough
      ∙ laid_same 16 before zero_value (λ i. zero_value) (λ i. cell_of (static (start p) i)) (λ i l. ap cell_of (sym (null_at p.statics i)))
