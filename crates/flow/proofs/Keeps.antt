-- A step keeps every object, of the same class. Assumes nothing.
use mathlib.Core.Path.{refl}
use mathlib.Core.List.{List, [], ◌∷◌}
use Prim.Native.Nat.{ℕ}
use Rattle.std.specs.Prelude.{Option, Some, None}
use Rattle.program.specs.Program.{Program}
use Rattle.reader.specs.Formed.{Formed}
use Rattle.machine.specs.declared.Effect.{Effect}
use Rattle.machine.specs.declared.Effect.TheVariants.{Next, Jump, Write, Load, LoadStatic, Make, Store, StoreStatic, Call, Exit, Raise}
use Rattle.machine.specs.declared.Effect.TheVariants.{RaiseNew, Fail}
use Rattle.machine.specs.State.{Frame, State}
use Rattle.machine.specs.Run.{fresh, apply, unwound, step}
use Rattle.machine.specs.Shaped.{Shaped, Fitting}
use Rattle.machine.proofs.Fitting.{decided_fits}
use Rattle.machine.proofs.Continues.{effect_at, handling_at, Stepped, runs, unwinds, stays, stepped}
use Rattle.flow.proofs.Frames.{Keeps}
use Rattle.flow.proofs.Objects.{made_keeps, stored_keeps}

module _ (p : Program) (s : State) where
  applied_keeps : (f : Frame) (rest : List Frame) (effect : Effect) → Fitting p s f effect → Keeps s.objects (apply p s f rest effect).objects
  applied_keeps f rest Next fits = λ o l. refl
  applied_keeps f rest (Jump to) fits = λ o l. refl
  applied_keeps f rest (Write a v) fits = λ o l. refl
  applied_keeps f rest (Load a i x) fits = λ o l. refl
  applied_keeps f rest (LoadStatic a x) fits = λ o l. refl
  applied_keeps f rest (Make a k) fits = made_keeps s.objects (fresh p k)
  applied_keeps f rest (Store i x v) fits = stored_keeps s.objects i x v fits.0
  applied_keeps f rest (StoreStatic x v) fits = λ o l. refl
  applied_keeps f rest (Call m a) fits = λ o l. refl
  applied_keeps f [] (Exit v) fits = λ o l. refl
  applied_keeps f (g ∷ rest) (Exit v) fits = λ o l. refl
  applied_keeps f rest (Raise i) fits = λ o l. refl
  applied_keeps f rest (RaiseNew k) fits = made_keeps s.objects (fresh p k)
  applied_keeps f rest (Fail e) fits = λ o l. refl

  unwound_keeps : (f : Frame) (rest : List Frame) (i : ℕ) (r : Option ℕ) → Keeps s.objects (unwound p s f rest i r).objects
  unwound_keeps f rest i (Some h) = λ o l. refl
  unwound_keeps f [] i None = λ o l. refl
  unwound_keeps f (g ∷ rest) i None = λ o l. refl

  keeps_by : Formed p → Shaped p s → (t : State) → Stepped p s t → Keeps s.objects t.objects
  keeps_by formed shaped t (runs f rest at e) =
      rw e
      (applied_keeps f rest (effect_at p s f) (decided_fits p formed s shaped f rest at.frames at.inside))
  keeps_by formed shaped t (unwinds f rest o at e) = rw e (unwound_keeps f rest o (handling_at p s f o))
  keeps_by formed shaped t (stays e) = rw e (λ o l. refl)

  pub step_keeps : Formed p → Shaped p s → Keeps s.objects (step p s).objects
  step_keeps formed shaped = keeps_by formed shaped (step p s) (stepped p s)
