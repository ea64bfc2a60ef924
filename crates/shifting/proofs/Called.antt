-- A frame that is opened by a call, in the lent slices. Assumes nothing.
use mathlib.Core.Path.{◌≡◌, refl, sym, ap, subst, ◌∙◌}
use mathlib.Core.List.{List, ◌∷◌}
use Prim.Native.Nat.{ℕ, ◌+◌, ◌≤◌, ◌<◌}
use native.Mathlib.Omega.{arith}
use lib.Dec.{ltb}
use lib.ListN.{length}
use borrow.Author.Tests.{ltb-true, ltb-false, lt-ltb, le-ltb}
use Rattle.text.proofs.Cases.{by_test}
use Rattle.program.specs.Program.{Program, registers, arguments}
use Rattle.reader.specs.Formed.{Formed}
use Rattle.machine.specs.declared.Effect.TheVariants.{Call}
use Rattle.machine.specs.State.{Frame, State}
use Rattle.machine.specs.Run.{apply, step}
use Rattle.machine.specs.Shaped.{Fitting}
use Rattle.turn.specs.declared.Status.TheVariants.{Running}
use Rattle.turn.specs.Stop.{room, stop_of}
use Rattle.laid.proofs.Objects.{objects_same}
use Rattle.laid.proofs.Statics.{statics_same}
use Rattle.laid.proofs.Passed.{frames_called}
use Rattle.site.specs.Work.{nowhere}
use Rattle.shift.specs.declared.At.{At}
use Rattle.shift.specs.declared.Run.{Run}
use Rattle.shift.specs.declared.Shift.{Shift}
use Rattle.shift.specs.declared.Stop.TheVariants as stop
use Rattle.shift.specs.Shift.{tallied, counted, pass_to, called_by}
use Rattle.drive.specs.Models.{Lent, Done}
use Rattle.lies.specs.Lies.{status_of, Lies}
use Rattle.shifting.specs.Shifting.{Shifted, written, Topped}
use Rattle.shifting.proofs.Looked.{top_of_lem}
use Rattle.shifting.proofs.Written.{call_written}
use Rattle.shifting.proofs.Ways.{frames_end_lem, objects_end_lem, deep, all_wait, goes_on_lem, stops}

module _ (t : List ℕ) (p : Program) (formed : Formed p) (s : State) (before now : Lent) (h : At) (f : Frame) (rest : List Frame)
    (c : Topped s before now h.run f rest) (m r : ℕ) (fits : Fitting p s f (Call m r)) (status : h.run.tally.status ≡ Running)
    (next : step p s ≡ apply p s f rest (Call m r)) (free : stop_of p s ≡ room s (Call m r)) (low : f.address < 32) where
  called_by_lem : (e : Shift) → length (f ∷ rest) < 32 → e.popped ≡ nowhere → e.resumed ≡ nowhere
      → e.moved ≡ nowhere → e.wrote ≡ nowhere → e.made ≡ nowhere → e.pass ≡ pass_to p h m r → e.entered ≡ length (f ∷ rest) → e.method ≡ m
      → e.run ≡ counted h.run (tallied (h.run.tally.depth + 1) h.run.tally.made h.run.tally.status)
      → Shifted p s before now h.run (written t now e)
  called_by_lem e room pops resumes moves writes makes passes enters method runs =
      let u : State = apply p s f rest (Call m r) in
      let full : length s.frames ≡ length (f ∷ rest) = ap length c.frames in
      let depth : h.run.tally.depth ≡ length (f ∷ rest) = deep s before now h.run f rest c in
      let more : e.run.tally.depth ≡ h.run.tally.depth + 1 = ap (λ (k : Run). k.tally.depth) runs in
      let fit : arguments p m ≤ registers p m = (formed.methods m fits.0).arguments_to in
      let small : registers p m ≤ 16 = (formed.methods m fits.0).registers_to in
      goes_on_lem t p s before now h.run e u next (free ∙ rw (lt-ltb (length s.frames) 32 (omega (arith, full, room))) refl)
      (ap (λ (k : Run). k.stop) runs ∙ c.going)
      (ap (λ (k : Run). k.left) runs)
      (subst (λ (d : Done Run). Lies u before e.run.tally d.memory)
      (sym
      (call_written t now e (frames_end_lem s before now h.run c.roomy c.lies) (objects_end_lem s before now h.run c.roomy c.lies) pops resumes
      moves
      writes
      makes
      (rw passes (omega (arith, fits.1, c.small)))
      (rw passes (omega (arith, fit, small)))))
      (record {
        depth = omega (arith, more, depth);
        made = ap (λ (k : Run). k.tally.made) runs ∙ c.lies.made;
        status = ap status_of (ap (λ (k : Run). k.tally.status) runs ∙ status);
        frames =
            rw (passes, enters, method, depth, top_of_lem (length (f ∷ rest)) (length rest) refl, c.lies.frames)
            (frames_called p m r s u before.frames f rest c.frames refl room c.roomy.frames fits.1 c.small fit small);
        objects = c.lies.objects ∙ objects_same s u before.objects refl;
        statics = c.lies.statics ∙ statics_same s u before.statics refl;
        few_frames = room;
        few_objects = c.lies.few_objects;
        waiting = (low, all_wait s before now h.run f rest c);
      }))

  call_going : h.run.tally.depth < 32 → Shifted p s before now h.run (written t now (called_by p h m r))
  call_going l =
      let depth : h.run.tally.depth ≡ length (f ∷ rest) = deep s before now h.run f rest c in
      rw (lt-ltb h.run.tally.depth 32 l)
      (called_by_lem _ (omega (arith, depth, l)) refl refl refl refl refl refl depth (omega (arith, fits.0, formed.limited.methods)) refl)

  -- "21: a call without fault at 32 frames": the step is not made
  call_full : 32 ≤ h.run.tally.depth → Shifted p s before now h.run (written t now (called_by p h m r))
  call_full l =
      rw (le-ltb h.run.tally.depth 32 l)
      (stops t p s before now h.run stop.Stack c.roomy c.lies
      (free ∙ rw (le-ltb (length s.frames) 32 (omega (arith, l, c.lies.depth))) refl, refl))

  pub call_lies : Shifted p s before now h.run (written t now (called_by p h m r))
  call_lies =
      by_test (ltb h.run.tally.depth 32)
      (λ q. call_going (ltb-true h.run.tally.depth 32 q))
      (λ q. call_full (ltb-false h.run.tally.depth 32 q))
