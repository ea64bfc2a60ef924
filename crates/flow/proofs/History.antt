-- The calls made in the first n steps are in the call list, and the exceptions that left a method in its mask. Assumes nothing.
use mathlib.Core.Path.{◌≡◌, refl}
use mathlib.Core.List.{List, Memᴰ}
use Prim.Native.Nat.{ℕ, zero, suc, ◌<◌}
use native.Mathlib.Omega.{arith}
use lib.Dec.{ltb}
use lib.ListN.{length}
use borrow.Author.Tests.{ltb-true, ltb-false}
use Rattle.std.specs.Prelude.{Option, Some, None}
use Rattle.text.proofs.Cases.{by_test, never}
use Rattle.program.specs.Program.{Program}
use Rattle.program.specs.Lists.{Every}
use Rattle.program.proofs.Every.{every_append, every_map}
use Rattle.reader.specs.Formed.{Formed}
use Rattle.machine.specs.declared.Value.TheVariants.{Reference}
use Rattle.machine.specs.declared.Effect.TheVariants.{Call}
use Rattle.machine.specs.State.{Frame, Object, raised}
use Rattle.machine.specs.Run.{step, run}
use Rattle.machine.specs.History.{Made, Left, calls, leavings}
use Rattle.machine.proofs.Fitting.{method_exists}
use Rattle.machine.proofs.ShapedRun.{run_shaped}
use Rattle.machine.proofs.Continues.{At, handling_at, Stepped, runs, unwinds, stays, stepped}
use Rattle.machine.proofs.History.{Calling, Leaving, longer_step, call_made, call_none, leaving_made, leaving_none, not_raised, caught_stays}
use Rattle.flow.specs.Claim.{leaving, Claim}
use Rattle.flow.specs.Calls.{call_list}
use Rattle.flow.specs.Inside.{Asked, Lies}
use Rattle.flow.specs.Safe.{SafeEffect}
use Rattle.flow.proofs.Frames.{lies_kept}
use Rattle.flow.proofs.Keeps.{step_keeps}
use Rattle.flow.proofs.Applied.{leaves_in}
use Rattle.flow.proofs.Listed.{listed}
use Rattle.flow.proofs.Run.{safe_at, pending_made, pending_at, run_inside}

-- ---- calls
-- a step that adds a frame makes a call
longer_run : (p : Program) (n : ℕ) → length (run p n).frames < length (run p (suc n)).frames → Calling p (run p n)
unfolding run
longer_run p n l = longer_step p (run p n) l

module _ (p : Program) (c : Claim) (formed : Formed p) (asked : Asked p c) where
  abbrev Listed : Made → Type 0
  Listed made = Memᴰ made (call_list p c)

  -- the call that the next step makes
  called_in : (n : ℕ) (made : Calling p (run p n))
      → Listed (record { caller = made.frame.method; address = made.frame.address; callee = made.callee })
  called_in n made =
      let safe : SafeEffect p c (run p n) made.frame (Call made.callee made.first) =
      rw made.effect at (safe_at p c formed asked (run p n) (run_shaped p formed n) (run_inside p c formed asked n) made.frame made.rest made.at) in
      listed p c made.frame.method made.frame.address made.callee
      (method_exists p made.frame.method made.frame.address made.at.inside) made.at.inside
      (method_exists p made.callee 0 safe.1.inside) safe.0

  pub calls_in_lem : (n : ℕ) → Every Listed (calls p n)
  unfolding calls
  calls_in_lem zero = tt
  calls_in_lem (suc n) = more (calls_in_lem n)
    where
      more : Every Listed (calls p n) → Every Listed (calls p (suc n))
      more before =
          by_test (ltb (length (run p n).frames) (length (run p (suc n)).frames))
          (λ t.
          let made = longer_run p n (ltb-true (length (run p n).frames) (length (run p (suc n)).frames) t) in
          rw (call_made p n made) (every_append Listed (calls p n) _ before (called_in n made, tt)))
          (λ t. rw (call_none p n (ltb-false (length (run p n).frames) (length (run p (suc n)).frames) t)) before)

  -- ---- exceptions
  -- what left is in its method's mask, with these objects
  abbrev LeftIn : List Object → Left → Type 0
  LeftIn os left = Lies p c os (Reference left.object) (leaving left.method)

  -- the exception that the next step lets leave
  left_in : (n : ℕ) (left : Leaving p (run p n)) → LeftIn (run p n).objects (record { method = left.frame.method; object = left.object })
  left_in n left =
      let s = run p n in
      let shaped = run_shaped p formed n in
      let inside = run_inside p c formed asked n in
      leaves_in p c formed asked s shaped inside left.frame left.rest left.at.frames left.object
      (pending_made p c formed asked s shaped inside left.frame left.rest left.object left.at)
      (pending_at p c formed asked s shaped inside left.frame left.rest left.object left.at)
      left.handling

  module _ (n : ℕ) (before : Every (LeftIn (run p n).objects) (leavings p n)) where
    unwound_leavings : (f : Frame) (rest : List Frame) (o : ℕ) → At p (run p n) (raised o) f rest → (r : Option ℕ)
        → handling_at p (run p n) f o ≡ r → Every (LeftIn (run p n).objects) (leavings p (suc n))
    unwound_leavings f rest o at (Some h) e = rw (caught_stays p n o h f rest at e) before
    unwound_leavings f rest o at None e =
        let left : Leaving p (run p n) = record { frame = f; rest = rest; object = o; at = at; handling = e } in
        rw (leaving_made p n left) (every_append (LeftIn (run p n).objects) (leavings p n) _ before (left_in n left, tt))

    leavings_by : Stepped p (run p n) (run p (suc n)) → Every (LeftIn (run p n).objects) (leavings p (suc n))
    leavings_by (runs f rest at e) =
        rw (not_raised p n (λ o q. let d : ◌≡◌ {A = ℕ} 0 1 = cc in never d)) before
    leavings_by (unwinds f rest o at e) = unwound_leavings f rest o at (handling_at p (run p n) f o) refl
    leavings_by (stays e) = rw (leaving_none p n (λ o q. rw e (omega arith))) before

    leavings_more : Every (LeftIn (run p (suc n)).objects) (leavings p (suc n))
    unfolding run
    leavings_more =
        every_map (LeftIn (run p n).objects) (LeftIn (step p (run p n)).objects)
        (λ left h.
        lies_kept p c (run p n).objects (step p (run p n)).objects (step_keeps p (run p n) formed (run_shaped p formed n))
        (Reference left.object) (leaving left.method) h)
        (leavings p (suc n)) (leavings_by (stepped p (run p n)))

  pub leavings_in_lem : (n : ℕ) → Every (LeftIn (run p n).objects) (leavings p n)
  unfolding leavings
  leavings_in_lem zero = tt
  leavings_in_lem (suc n) = leavings_more n (leavings_in_lem n)
