-- Where the frames of a run stand: a waiting caller at an address of its method, the top frame at one or at the end. Assumes nothing.
use mathlib.Core.Path.{◌≡◌, refl}
use mathlib.Core.List.{List, [], ◌∷◌}
use Prim.Native.Nat.{ℕ, zero, suc, ◌<◌, ◌≤◌}
use native.Mathlib.Omega.{arith}
use Rattle.std.specs.Prelude.{Option, Some, None}
use Rattle.program.specs.Lists.{Every}
use Rattle.program.specs.Program.{Program, code_length, handler_target}
use Rattle.search.specs.Search.{handler_for}
use Rattle.search.proofs.Searches.{handler_highest}
use Rattle.reader.specs.Formed.{Formed}
use Rattle.machine.specs.declared.Value.{Value}
use Rattle.machine.specs.declared.Effect.{Effect}
use Rattle.machine.specs.declared.Effect.TheVariants.{Next, Jump, Write, Load, LoadStatic, Make, Store, StoreStatic, Call, Exit}
use Rattle.machine.specs.declared.Effect.TheVariants.{Raise, RaiseNew, Fail}
use Rattle.machine.specs.State.{Frame, State, object_at}
use Rattle.machine.specs.Run.{returned, dropped, apply, unwound, step, run}
use Rattle.machine.specs.Shaped.{Shaped, Fitting}
use Rattle.machine.proofs.Fitting.{method_exists, decided_fits}
use Rattle.machine.proofs.ShapedRun.{run_shaped}
use Rattle.machine.proofs.Continues.{effect_at, handling_at, Stepped, runs, unwinds, stays, stepped}

abbrev pub Inside : Program → Frame → Type 0
Inside p f = f.address < code_length p f.method

abbrev pub Standing : Program → List Frame → Type 0
Standing p [] = Unit {0}
Standing p (f ∷ rest) = (f.address ≤ code_length p f.method) × Every (Inside p) rest

module _ (p : Program) (formed : Formed p) (s : State) (shaped : Shaped p s) (standing : Standing p s.frames) where
  module _ (f : Frame) (rest : List Frame) (q : s.frames ≡ f ∷ rest) (l : Inside p f) where
    callers : Every (Inside p) rest
    callers = let h : Standing p (f ∷ rest) = rw q at standing in h.1

    -- a caller goes one on
    returned_stands : (rest : List Frame) → Every (Inside p) rest → (v : Value) → Standing p (returned s v rest).frames
    returned_stands [] w v = tt
    returned_stands (g ∷ rest) w v = w

    applied_stands : (e : Effect) → Fitting p s f e → Standing p (apply p s f rest e).frames
    applied_stands Next t = (l, callers)
    applied_stands (Jump to) t = (omega arith, callers)
    applied_stands (Write a v) t = (l, callers)
    applied_stands (Load a o x) t = (l, callers)
    applied_stands (LoadStatic a x) t = (l, callers)
    applied_stands (Make a k) t = (l, callers)
    applied_stands (Store o x v) t = (l, callers)
    applied_stands (StoreStatic x v) t = (l, callers)
    applied_stands (Call m c) t = (omega arith, (l, callers))
    applied_stands (Exit v) t = returned_stands rest callers v
    applied_stands (Raise o) t = standing
    applied_stands (RaiseNew k) t = standing
    applied_stands (Fail e) t = standing

    dropped_stands : (o : ℕ) (rest : List Frame) → Every (Inside p) rest → Standing p (dropped s o rest).frames
    dropped_stands o [] w = tt
    dropped_stands o (g ∷ rest) w = let i = w.0 in (omega arith, w.1)

    unwound_stands : (o c : ℕ) (h : Option ℕ) → handler_for p f.method f.address c ≡ h
        → Standing p (unwound p s f rest o h).frames
    unwound_stands o c (Some h) e =
        let exists = (handler_highest p f.method f.address c h e).within in
        let t : handler_target p f.method h < code_length p f.method =
        (formed.methods f.method (method_exists p f.method f.address l)).target h exists in
        (omega arith, callers)
    unwound_stands o c None e = dropped_stands o rest callers

  stands_by : (t : State) → Stepped p s t → Standing p t.frames
  stands_by t (runs f rest h e) =
      rw e
      (applied_stands f rest h.frames h.inside (effect_at p s f) (decided_fits p formed s shaped f rest h.frames h.inside))
  stands_by t (unwinds f rest o h e) =
      rw e (unwound_stands f rest h.frames h.inside o (object_at s o).class (handling_at p s f o) refl)
  stands_by t (stays e) = rw e standing

pub run_stands : (p : Program) → Formed p → (n : ℕ) → Standing p (run p n).frames
unfolding run
run_stands p formed zero = (omega arith, tt)
run_stands p formed (suc n) =
    stands_by p formed (run p n) (run_shaped p formed n) (run_stands p formed n) (step p (run p n)) (stepped p (run p n))
