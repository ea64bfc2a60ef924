-- A cell of a field that the object's class does not have is zero in every state of every run. Assumes nothing.
use mathlib.Core.Path.{◌≡◌, refl, sym, ap, ◌∙◌}
use mathlib.Core.Bool.{true, false, false≢true}
use mathlib.Core.List.{List, [], ◌∷◌, ◌++◌}
use Prim.Native.Nat.{ℕ, zero, suc}
use lib.Dec.{ltb}
use lib.ListN.{get_or}
use lib.Seq.{get_or-set_other}
use Rattle.std.specs.Prelude.{Option, Some, None}
use Rattle.instruction.specs.Word.{pick}
use Rattle.instruction.proofs.Flags.{pick_cases}
use Rattle.program.specs.Lists.{Every}
use Rattle.program.specs.Program.{Program, field_count, code_length, instruction_at, word_at}
use Rattle.program.proofs.Every.{every_append}
use Rattle.search.specs.Search.{has_field, handler_for}
use Rattle.machine.specs.declared.Value.{Value}
use Rattle.machine.specs.declared.Effect.{Effect}
use Rattle.machine.specs.declared.Effect.TheVariants.{Next, Jump, Write, Load, LoadStatic, Make, Store, StoreStatic, Call, Exit}
use Rattle.machine.specs.declared.Effect.TheVariants.{Raise, RaiseNew, Fail}
use Rattle.machine.specs.State.{Frame, Object, Status, running, raised, done, uncaught, failed, State, null, no_object, object_at}
use Rattle.machine.specs.Decide.{decide}
use Rattle.machine.specs.Run.{fresh, stored, returned, apply, dropped, unwound, step_by, step, run}
use Rattle.machine.proofs.Elements.{replicate_at, every_at, every_set}
use Rattle.machine.proofs.Signed.{SignedFrame, Writes, word_signed}
use Rattle.machine.proofs.SignedRun.{run_signed}

-- "Fields and statics start at 0", and only a field that is had is written
abbrev pub NotHad : Program → Object → Type 0
NotHad p o = (x : ℕ) → has_field p o.class x ≡ false → get_or o.cells x null ≡ null

stored_not_had : (p : Program) (o : Object) (x : ℕ) (v : Value) → has_field p o.class x ≡ true → NotHad p o → NotHad p (stored o x v)
stored_not_had p o x v had h y e =
    get_or-set_other o.cells x y v null (λ same. false≢true (sym e ∙ ap (has_field p o.class) same ∙ had)) ∙ h y e

module _ (p : Program) (s : State) (h : Every (NotHad p) s.objects) where
  abbrev Kept : State → Type 0
  Kept after = Every (NotHad p) after.objects

  returned_kept : (v : Value) (rest : List Frame) → Kept (returned s v rest)
  returned_kept v [] = h
  returned_kept v (g ∷ rest) = h

  dropped_kept : (o : ℕ) (rest : List Frame) → Kept (dropped s o rest)
  dropped_kept o [] = h
  dropped_kept o (g ∷ rest) = h

  unwound_kept : (f : Frame) (rest : List Frame) (o : ℕ) (r : Option ℕ) → Kept (unwound p s f rest o r)
  unwound_kept f rest o (Some i) = h
  unwound_kept f rest o None = dropped_kept o rest

  more_kept : (c : ℕ) → Every (NotHad p) (s.objects ++ fresh p c ∷ [])
  more_kept c =
      every_append (NotHad p) s.objects (fresh p c ∷ []) h
      (λ x _. replicate_at (λ (v : Value). v ≡ null) (field_count p) null x refl, tt)

  applied_kept : (f : Frame) (rest : List Frame) (e : Effect) → Writes p s e → Kept (apply p s f rest e)
  applied_kept f rest Next k = h
  applied_kept f rest (Jump to) k = h
  applied_kept f rest (Write a v) k = h
  applied_kept f rest (Load a o x) k = h
  applied_kept f rest (LoadStatic a x) k = h
  applied_kept f rest (Make a c) k = more_kept c
  applied_kept f rest (Store o x v) k =
      every_set (NotHad p) s.objects o _
      (stored_not_had p (object_at s o) x v k.1 (every_at (NotHad p) s.objects o no_object (λ _ _. refl) h)) h
  applied_kept f rest (StoreStatic x v) k = h
  applied_kept f rest (Call m c) k = h
  applied_kept f rest (Exit v) k = returned_kept v rest
  applied_kept f rest (Raise o) k = h
  applied_kept f rest (RaiseNew c) k = more_kept c
  applied_kept f rest (Fail e) k = h

  inside : (f : Frame) (after : State) → Kept after → Kept (pick (ltb f.address (code_length p f.method)) after s)
  inside f after k =
      pick_cases Kept (ltb f.address (code_length p f.method)) after s (λ _. k) (λ _. h)

  step_by_lem : (e : Status) (fs : List Frame) → Every SignedFrame fs → Kept (step_by p s e fs)
  step_by_lem e [] k = h
  step_by_lem running (f ∷ rest) k =
      inside f _
      (applied_kept f rest (decide p s f (instruction_at p f.method f.address))
      (word_signed p s f k.0 (word_at p f.method f.address)))
  step_by_lem (raised o) (f ∷ rest) k =
      inside f _ (unwound_kept f rest o (handler_for p f.method f.address (object_at s o).class))
  step_by_lem done (f ∷ rest) k = h
  step_by_lem (uncaught o) (f ∷ rest) k = h
  step_by_lem (failed e) (f ∷ rest) k = h

-- of every object of every state of a run
pub not_had : (p : Program) (n : ℕ) → Every (NotHad p) (run p n).objects
unfolding run step
not_had p zero = tt
not_had p (suc n) = step_by_lem p (run p n) (not_had p n) (run p n).status (run p n).frames (run_signed p n).frames

pub cell_not_had : (p : Program) (n o : ℕ) → NotHad p (object_at (run p n) o)
cell_not_had p n o = every_at (NotHad p) (run p n).objects o no_object (λ _ _. refl) (not_had p n)
