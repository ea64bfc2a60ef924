-- What an effect that stays in its frame makes of the lent slices is what it makes of the state that lies there, one law an
-- effect. Assumes nothing.
use mathlib.Core.Path.{◌≡◌, refl, sym, ap, ◌∙◌}
use mathlib.Core.List.{List, ◌∷◌}
use mathlib.Core.Option.{none}
use Prim.Native.Nat.{ℕ, suc, ◌+◌}
use native.Mathlib.Omega.{arith}
use lib.ListN.{length, length-set}
use Rattle.program.specs.Program.{Program}
use Rattle.machine.specs.declared.Effect.{Effect}
use Rattle.machine.specs.declared.Effect.TheVariants.{Next, Jump, Write, Load, LoadStatic, Make, Store, StoreStatic, Call, Exit, Raise}
use Rattle.machine.specs.declared.Effect.TheVariants.{RaiseNew, Fail}
use Rattle.machine.specs.State.{Frame, running, State, object_at, cell, static}
use Rattle.machine.specs.Run.{moved, stored, with_frames, apply, step}
use Rattle.machine.specs.Shaped.{Fitting}
use Rattle.machine.proofs.Continues.{effect_at, step_running}
use Rattle.turn.specs.declared.Tally.{Tally}
use Rattle.turn.specs.Stop.{room, stop_of}
use Rattle.turn.proofs.Stops.{running_stop}
use Rattle.cells.specs.Cells.{zero_value, frame_of, objects_of, statics_of}
use Rattle.cells.specs.Reads as reads
use native.Mathlib.Numerals.{add-one}
use Rattle.store.specs.Store.{with_register}
use Rattle.site.specs.declared.Work.{Work}
use Rattle.site.specs.Work.{nowhere, work_of}
use Rattle.drive.specs.Models.{Lent, done}
use Rattle.work.specs.Work.{cell_in, static_in, worked_on}
use Rattle.lies.specs.Lies.{Lies}
use Rattle.lies.specs.Staying.{Onward, Stayed}
use Rattle.lies.proofs.Values.{Ready, value_is, site, first, cell_loaded, static_loaded}
use Rattle.lies.proofs.Looks.{Looks}
use Rattle.lies.proofs.Worked.{put, unwritten, written, frames_after_lem, objects_kept, statics_kept, object_stored, static_stored, unchanged}

module _ {p : Program} {s : State} {before : Lent} {k : Tally} {now : Lent} {f : Frame} {rest : List Frame}
    (h : Ready p s before k now f rest) where
  -- ---- the step

  module _ (e : Effect) (is : effect_at p s f ≡ e) where
    pub stop_is : stop_of p s ≡ room s e
    stop_is = running_stop p s f rest h.here ∙ ap (room s) is

    pub step_is : step p s ≡ apply p s f rest e
    step_is = step_running p s f rest h.here ∙ ap (apply p s f rest) is

    -- the step is made: the frame g is f with a register written
    went : (w : Work) (g : Frame) → room s e ≡ none
        → (apply p s f rest e).status ≡ running
        → length (apply p s f rest e).objects ≡ length s.objects
        → g.method ≡ f.method
        → w.address ≡ w.gone.next
        → with_register (frame_of f) w.to w.value ≡ frame_of g
        → (apply p s f rest e).frames ≡ moved g w.address ∷ rest
        → (worked_on now (length rest) w).objects ≡ objects_of (apply p s f rest e) before.objects
        → (worked_on now (length rest) w).statics ≡ statics_of (apply p s f rest e) before.statics
        → (stop_of p s ≡ none) × (Lies (step p s) before k (worked_on now (length rest) w) × Onward (step p s) f rest w.gone.next)
    went w g free runs count method next written frames objects statics =
        let u : State = apply p s f rest e in
        let height : length u.frames ≡ length s.frames =
        ap (λ (fs : List Frame). length fs) frames ∙ sym (ap (λ (fs : List Frame). length fs) h.here.frames) in (
          stop_is ∙ free,
          rw step_is (
            record {
              depth = h.lies.depth ∙ sym height;
              made = h.lies.made ∙ sym count;
              status = h.lies.status ∙ h.here.status ∙ sym runs;
              frames = frames_after_lem h w g u written frames;
              objects = objects;
              statics = statics;
              few_frames = omega (arith, height, h.lies.few_frames);
              few_objects = omega (arith, count, h.lies.few_objects);
              waiting = rw frames (rw h.here.frames at h.lies.waiting);
            },
            record { frame = moved g w.address; frames = frames; method = method; address = next },
          ),
        )

    -- only the frame changes
    framed : (w : Work) (g : Frame) → room s e ≡ none → w.object ≡ nowhere → w.fixed ≡ nowhere → g.method ≡ f.method → w.address ≡ w.gone.next
        → with_register (frame_of f) w.to w.value ≡ frame_of g → apply p s f rest e ≡ with_frames s (moved g w.address ∷ rest)
        → (stop_of p s ≡ none) × (Lies (step p s) before k (worked_on now (length rest) w) × Onward (step p s) f rest w.gone.next)
    framed w g free object fixed method next written shape =
        went w g free
        (ap (λ (u : State). u.status) shape)
        (ap (λ (u : State). length u.objects) shape)
        method next written
        (ap (λ (u : State). u.frames) shape)
        (objects_kept h w (apply p s f rest e) object (sym (ap (λ (u : State). u.objects) shape)))
        (statics_kept h w (apply p s f rest e) fixed (sym (ap (λ (u : State). u.statics) shape)))

  -- one on
  one_on : (g : Frame) → moved g (suc f.address) ∷ rest ≡ moved g (f.address + 1) ∷ rest
  one_on g = ap (λ (a : ℕ). moved g a ∷ rest) (sym (add-one f.address))

  -- ---- one law an effect

  abbrev pub work_by : Effect → Work
  work_by e = work_of f.address (cell_in now (site h)) (static_in now (site h)) e

  pub gone : (e : Effect) → effect_at p s f ≡ e → Fitting p s f e → Looks (first h) (site h) e
      → Stayed p s before k now f rest (done (work_by e).gone (worked_on now (length rest) (work_by e)))
  gone Next is fits looks =
      framed Next is (work_by Next) f refl refl refl refl refl (unwritten h zero_value) (ap (with_frames s) (one_on f))
  gone (Jump to) is fits looks =
      framed (Jump to) is (work_by (Jump to)) f refl refl refl refl refl (unwritten h zero_value) refl
  gone (Write a v) is fits looks =
      framed (Write a v) is (work_by (Write a v)) (put h a v) refl refl refl refl refl
      (written h a v (reads.cell_in v) (value_is h v fits.1) fits.0)
      (ap (with_frames s) (one_on (put h a v)))
  gone (Load a o x) is fits looks =
      framed (Load a o x) is (work_by (Load a o x)) (put h a (cell s o x)) refl refl refl refl refl
      (written h a (cell s o x) (cell_in now (site h)) (cell_loaded h o x looks.0 looks.1 fits.1 fits.2) fits.0)
      (ap (with_frames s) (one_on (put h a (cell s o x))))
  gone (LoadStatic a x) is fits looks =
      framed (LoadStatic a x) is (work_by (LoadStatic a x)) (put h a (static s x)) refl refl refl refl refl
      (written h a (static s x) (static_in now (site h)) (static_loaded h x looks fits.1) fits.0)
      (ap (with_frames s) (one_on (put h a (static s x))))
  gone (Make a c) is fits looks = absurd looks
  gone (Store o x v) is fits looks =
      went (Store o x v) is (work_by (Store o x v)) f refl refl
      (length-set s.objects o (stored (object_at s o) x v))
      refl refl (unwritten h (reads.cell_in v)) (one_on f)
      (object_stored h o x v fits.0 fits.1 fits.2 (apply p s f rest (Store o x v)) refl)
      (statics_kept h (work_by (Store o x v)) (apply p s f rest (Store o x v)) refl refl)
  gone (StoreStatic x v) is fits looks =
      went (StoreStatic x v) is (work_by (StoreStatic x v)) f refl refl refl refl refl (unwritten h (reads.cell_in v)) (one_on f)
      (objects_kept h (work_by (StoreStatic x v)) (apply p s f rest (StoreStatic x v)) refl refl)
      (static_stored h x v fits.0 fits.1 (apply p s f rest (StoreStatic x v)) refl)
  gone (Call m c) is fits looks = absurd looks
  gone (Exit v) is fits looks = absurd looks
  gone (Raise o) is fits looks = absurd looks
  gone (RaiseNew k) is fits looks = ((unchanged h (work_by (RaiseNew k)) refl refl refl refl, refl), is)
  gone (Fail e) is fits looks = ((unchanged h (work_by (Fail e)) refl refl refl refl, refl), is)
