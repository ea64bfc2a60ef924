-- Every state of a well-formed program's run keeps the invariant, under a claim whose rules hold. Assumes nothing.
use mathlib.Core.Path.{refl}
use mathlib.Core.List.{List, [], ◌∷◌}
use Prim.Native.Nat.{ℕ, zero, suc, ◌<◌}
use native.Mathlib.Omega.{arith}
use lib.ListN.{length}
use Rattle.program.specs.Program.{Program, registers}
use Rattle.reader.specs.Formed.{Formed}
use Rattle.machine.specs.declared.Value.{Value}
use Rattle.machine.specs.State.{Frame, running, raised, State, null, start}
use Rattle.machine.specs.Run.{step, run}
use Rattle.machine.specs.Shaped.{Shaped}
use Rattle.machine.proofs.Elements.{replicate_at}
use Rattle.machine.proofs.Fitting.{decided_fits, top_shaped}
use Rattle.machine.proofs.ShapedRun.{run_shaped}
use Rattle.machine.proofs.Continues.{At, effect_at, handling_at, Stepped, runs, unwinds, stays, stepped}
use Rattle.flow.specs.Claim.{register_at, static_of, Claim}
use Rattle.flow.specs.Inside.{Asked, Lies, FramesIn, PendingIn, Inside}
use Rattle.flow.specs.Safe.{SafeEffect}
use Rattle.flow.proofs.Instructions.{decided_safe}
use Rattle.flow.proofs.Applied.{applied_inside, unwound_inside}

module _ (p : Program) (c : Claim) (formed : Formed p) (asked : Asked p c) where
  -- rules 0 and 1 at the start
  start_inside : Inside p c (start p)
  start_inside =
      let main = formed.methods 0 formed.methods_from in
      let w = (asked.at 0 0 main.code_from).entering refl in
      record {
        frames = (
          record {
            inside = main.code_from;
            masks = record {
              registers_in = λ r l.
                  replicate_at (λ (v : Value). Lies p c [] v (register_at 0 0 r)) (registers p 0) null r
                  (w.0 r (omega (arith, formed.main_arguments)));
              result_in = w.1;
            };
          },
          tt,
          tt,
        );
        objects = λ o l. absurd (omega arith);
        statics = λ x l. replicate_at (λ (v : Value). Lies p c [] v (static_of x)) p.statics null x (asked.memory.1 x l);
        pending = tt;
      }

  module _ (s : State) (shaped : Shaped p s) (inside : Inside p c s) where
    pub safe_at : (f : Frame) (rest : List Frame) → At p s running f rest → SafeEffect p c s f (effect_at p s f)
    safe_at f rest at =
        let frames : FramesIn p c s.objects (f ∷ rest) = rw at.frames at inside.frames in
        decided_safe p c formed asked s f inside.objects inside.statics frames.0
        (top_shaped p s shaped f rest at.frames).0.size

    -- the object that is pending has been made, and is one that rules 9 and 10 ask about
    pub pending_made : (f : Frame) (rest : List Frame) (o : ℕ) → At p s (raised o) f rest → o < length s.objects
    pending_made f rest o at = rw at.status at shaped.status

    pub pending_at : (f : Frame) (rest : List Frame) (o : ℕ) → At p s (raised o) f rest → PendingIn p c s.objects (f ∷ rest) (raised o)
    pending_at f rest o at = rw (at.frames, at.status) at inside.pending

    inside_by : (t : State) → Stepped p s t → Inside p c t
    inside_by t (runs f rest at e) =
        rw e
        (applied_inside p c formed asked s shaped inside f rest at.frames (effect_at p s f)
        (decided_fits p formed s shaped f rest at.frames at.inside) (safe_at f rest at))
    inside_by t (unwinds f rest o at e) =
        rw e
        (unwound_inside p c formed asked s shaped inside f rest at.frames o (pending_made f rest o at) (pending_at f rest o at)
        (handling_at p s f o) refl)
    inside_by t (stays e) = rw e inside

    pub step_inside : Inside p c (step p s)
    step_inside = inside_by (step p s) (stepped p s)

  pub run_inside : (n : ℕ) → Inside p c (run p n)
  unfolding run
  run_inside zero = start_inside
  run_inside (suc n) = step_inside (run p n) (run_shaped p formed n) (run_inside n)
