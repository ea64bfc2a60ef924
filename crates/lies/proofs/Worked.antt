-- What the code writes for an instruction that stays in its frame, one slice after the other. Assumes nothing.
use mathlib.Core.Path.{◌≡◌, refl, sym, ap, ◌∙◌}
use mathlib.Core.List.{List, ◌∷◌}
use Prim.Native.Nat.{ℕ, ◌%◌, ◌≤◌, ◌<◌}
use native.Mathlib.Omega.{arith}
use lib.ListN.{length, get_or, set}
use Rattle.program.specs.Program.{Program, field_count}
use Rattle.machine.specs.declared.Value as machine
use Rattle.machine.specs.State.{Frame, State, object_at}
use Rattle.machine.specs.Run.{moved, stored, with_frames}
use Rattle.machine.specs.Shaped.{Known}
use Rattle.turn.specs.declared.Tally.{Tally}
use Rattle.cells.specs.declared.Frame as cells
use Rattle.cells.specs.declared.Object.{Object}
use Rattle.cells.specs.declared.Value.{Value}
use Rattle.cells.specs.Cells.{cell_of, frame_of, frames_of, objects_of, statics_of}
use Rattle.cells.specs.Reads as reads
use Rattle.store.specs.Store.{absent_frame, absent_object, with_address, with_register, with_cell}
use Rattle.laid.proofs.Lists.{put_nowhere}
use Rattle.laid.proofs.Parts.{register_put, register_past}
use Rattle.laid.proofs.Frames.{top_read, top_put}
use Rattle.laid.proofs.Objects.{objects_length, objects_same, object_put}
use Rattle.laid.proofs.Statics.{statics_length, statics_same, static_put}
use Rattle.site.specs.declared.Work.{Work}
use Rattle.site.specs.Work.{nowhere}
use Rattle.drive.specs.Models.{Lent, lent}
use Rattle.work.specs.Work.{wrote_frames, moved_frames, worked_on}
use Rattle.lies.proofs.Values.{Ready, few_registers, low, top_is, static_low, value_is}

module _ {p : Program} {s : State} {before : Lent} {k : Tally} {now : Lent} {f : Frame} {rest : List Frame}
    (h : Ready p s before k now f rest) where
  -- ---- the slices, one by one

  -- no register is written at 16; one below that is
  pub unwritten : (c : Value) → with_register (frame_of f) 16 c ≡ frame_of f
  unwritten c = register_past f 16 c (omega arith)

  abbrev pub put : ℕ → machine.Value → Frame
  put a v = record { method = f.method; address = f.address; registers = set f.registers a v; result = f.result }

  pub written : (a : ℕ) (v : machine.Value) (c : Value) → c ≡ cell_of v → a < length f.registers
      → with_register (frame_of f) (a % 16) c ≡ frame_of (put a v)
  written a v c e l =
      rw (modulo a l) (ap (with_register (frame_of f) a) e ∙ register_put f a v l (few_registers h))
    where
      modulo : (a : ℕ) → a < length f.registers → a % 16 ≡ a
      modulo a l = omega (arith, l, few_registers h)

  -- the top frame has a register written, and is at another address
  pub frames_after_lem : (w : Work) (g : Frame) (u : State) → with_register (frame_of f) w.to w.value ≡ frame_of g → u.frames ≡ moved g w.address ∷ rest
      → (worked_on now (length rest) w).frames ≡ frames_of u before.frames
  frames_after_lem w g u e q =
      ap (λ (fs : List cells.Frame). moved_frames fs (length rest) w.address) wrote_is
      ∙ ap (λ (y : cells.Frame). set (frames_of mid before.frames) (length rest) (with_address y w.address))
      (top_read mid before.frames absent_frame g rest refl few h.roomy.frames)
      ∙ top_put mid u before.frames g (moved g w.address) rest refl q few h.roomy.frames
    where
      few : length rest < 32
      few = low h

      mid : State
      mid = with_frames s (g ∷ rest)

      wrote_is : wrote_frames now.frames (length rest) w ≡ frames_of mid before.frames
      wrote_is =
          ap (λ (y : cells.Frame). set now.frames (length rest) (with_register y w.to w.value)) (top_is h)
          ∙ ap (λ (y : cells.Frame). set now.frames (length rest) y) e
          ∙ ap (λ (fs : List cells.Frame). set fs (length rest) (frame_of g)) h.lies.frames
          ∙ top_put s mid before.frames f g rest h.here.frames refl few h.roomy.frames

  -- no object is written, and no static
  pub objects_kept : (w : Work) (u : State) → w.object ≡ nowhere → s.objects ≡ u.objects → (worked_on now (length rest) w).objects ≡ objects_of u before.objects
  objects_kept w u e q =
      ap (λ (o : ℕ). set now.objects o (with_cell (get_or now.objects o absent_object) w.cell w.value)) e
      ∙ put_nowhere now.objects _ few
      ∙ h.lies.objects
      ∙ objects_same s u before.objects q
    where
      few : length now.objects ≤ nowhere
      few = omega (arith, ap (λ (os : List Object). length os) h.lies.objects, objects_length s before.objects, h.roomy.objects_end)

  pub statics_kept : (w : Work) (u : State) → w.fixed ≡ nowhere → s.statics ≡ u.statics → (worked_on now (length rest) w).statics ≡ statics_of u before.statics
  statics_kept w u e q =
      ap (λ (x : ℕ). set now.statics x w.value) e
      ∙ put_nowhere now.statics w.value few
      ∙ h.lies.statics
      ∙ statics_same s u before.statics q
    where
      few : length now.statics ≤ nowhere
      few = omega (arith, ap (λ (vs : List Value). length vs) h.lies.statics, statics_length s before.statics, h.roomy.statics_end)

  -- a cell, or a static, is written
  pub object_stored : (o x : ℕ) (v : machine.Value) → o < length s.objects → x < field_count p → Known (length s.objects) v
      → (u : State) → u.objects ≡ set s.objects o (stored (object_at s o) x v)
      → set now.objects o (with_cell (get_or now.objects o absent_object) x (reads.cell_in v)) ≡ objects_of u before.objects
  object_stored o x v l b known u q =
      ap (λ (c : Value). set now.objects o (with_cell (get_or now.objects o absent_object) x c)) (value_is h v known)
      ∙ ap (λ (os : List Object). set os o (with_cell (get_or os o absent_object) x (cell_of v))) h.lies.objects
      ∙ object_put s u before.objects o x v l h.lies.few_objects
      (omega (arith, b, (h.shaped.objects o l).size))
      (omega (arith, (h.shaped.objects o l).size, h.formed.limited.fields))
      h.roomy.objects q

  pub static_stored : (x : ℕ) (v : machine.Value) → x < length s.statics → Known (length s.objects) v
      → (u : State) → u.statics ≡ set s.statics x v → set now.statics x (reads.cell_in v) ≡ statics_of u before.statics
  static_stored x v l known u q =
      ap (set now.statics x) (value_is h v known)
      ∙ ap (λ (vs : List Value). set vs x (cell_of v)) h.lies.statics
      ∙ static_put s u before.statics x v (static_low h x l) l h.roomy.statics q

  -- nothing is written, and the frame stays where it is
  pub unchanged : (w : Work) → w.to ≡ 16 → w.object ≡ nowhere → w.fixed ≡ nowhere → w.address ≡ f.address → worked_on now (length rest) w ≡ now
  unchanged w to object fixed next =
      same now _ _ _
      (frames_after_lem w f s (rw to (unwritten w.value)) (rw next h.here.frames) ∙ sym h.lies.frames)
      (objects_kept w s object refl ∙ sym h.lies.objects)
      (statics_kept w s fixed refl ∙ sym h.lies.statics)
    where
      same : (m : Lent) (fs : List cells.Frame) (os : List Object) (vs : List Value) → fs ≡ m.frames → os ≡ m.objects → vs ≡ m.statics → lent fs os vs ≡ m
      same m fs os vs a b c = rw (a, b, c) refl
