-- What `step` answers and leaves in the lent slices is what becomes of the text. Assumes nothing.
use mathlib.Core.Path.{◌≡◌, refl, ap}
use mathlib.Core.Bool.{Bool, true, false}
use mathlib.Core.List.{List}
use Prim.Native.Nat.{ℕ, ◌≤◌, ◌<◌, min}
use native.Mathlib.Omega.{arith}
use lib.ListN.{length}
use Rattle.instruction.specs.Test.{most, ◌&◌}
use Rattle.instruction.proofs.Laws.{holds}
use Rattle.program.specs.Program.{Program}
use Rattle.program.specs.Tables.{tables_of, program_in}
use Rattle.program.proofs.Tables.{program_of_tables}
use Rattle.reader.specs.Read.{Reading, refused, taken, read_program}
use Rattle.reader.specs.Formed.{Formed}
use Rattle.reader.proofs.WellFormed.{well_formed}
use Rattle.machine.specs.State.{start}
use Rattle.machine.proofs.ShapedRun.{start_shaped}
use Rattle.turn.specs.declared.Status.{Status}
use Rattle.turn.specs.declared.Status.TheVariants.{Running, Raised, Done, Uncaught, Failed}
use Rattle.turn.specs.Stop.{halt_number}
use Rattle.bounded.specs.declared.Outcome.{Outcome}
use Rattle.bounded.specs.Bounded.{bounded}
use Rattle.bounded.specs.Step.{Stepping, stepping_number, stepping_values, number_of, values_of, pending_values, pending_in}
use Rattle.bounded.specs.Lent.{enough, lending, frames_left, objects_left, statics_left}
use Rattle.laid.proofs.Start.{frames_start, objects_start, statics_start}
use Rattle.shift.specs.declared.Run.{Run}
use Rattle.drive.specs.Models.{Lent}
use Rattle.lies.specs.Lies.{status_of, Roomy, Lies}
use Rattle.begun.specs.Begun.{start_run, pending_of}
use Rattle.ran.specs.Ran.{Finished}
use Rattle.ran.proofs.Run.{ran}
use Rattle.stepper.specs.Start.{zeroed, start_done, step_done}

-- slices have no element at the last number of a word
pub record Ending (m : Lent) : Type 0 where
  pub frames : length m.frames ≤ 18446744073709551615
  pub objects : length m.objects ≤ 18446744073709551615
  pub statics : length m.statics ≤ 18446744073709551615

-- the promise of `step`
abbrev pub Answered : Stepping → Outcome → Lent → Lent → Type 0
Answered x r before now =
    ((number_of r ≡ stepping_number x) × (values_of r ≡ stepping_values x))
    × ((now.frames ≡ frames_left x before.frames)
    × (now.objects ≡ objects_left x before.objects)
    × (now.statics ≡ statics_left x before.statics))

enough_is : (a b c : ℕ) → enough a b c ≡ true → (32 ≤ a) × (256 ≤ b) × (16 ≤ c)
enough_is a b c e =
    let h = holds (most 32 a & (most 256 b & most 16 c)) e in
    (h.0, h.1.0, h.1.1)

pending_is : (e : Status) → pending_values (pending_of e) ≡ pending_in (status_of e)
pending_is Running = refl
pending_is (Raised o) = refl
pending_is Done = refl
pending_is (Uncaught o) = refl
pending_is (Failed e) = refl

module _ (text : List ℕ) (n : ℕ) (m : Lent) (ending : Ending m) where
  abbrev x : Stepping
  x = lending text n m.frames m.objects m.statics

  abbrev room : Bool
  room = enough (length m.frames) (length m.objects) (length m.statics)

  refused_answered : (number line : ℕ) → read_program text ≡ refused number line → Answered x (step_done text n m).result m (step_done text n m).memory
  unfolding lending step_done
  refused_answered number line e = rw e ((refl, refl), (refl, refl, refl))

  module _ (p : Program) (e : read_program text ≡ taken p) where
    short_answered : room ≡ false → Answered x (step_done text n m).result m (step_done text n m).memory
    unfolding lending step_done
    short_answered few = rw (e, few) ((refl, refl), (refl, refl, refl))

    module _ (many : room ≡ true) where
      -- the run at the start, and what it comes to
      abbrev first : Run
      first = start_run (min n 1000000)

      abbrev last : Run
      last = (start_done (tables_of p) m first).result

      formed : Formed p
      formed = well_formed text p e

      same : program_in (tables_of p) ≡ p
      same = program_of_tables p formed.limited

      roomy : Roomy m
      roomy =
          let h = enough_is (length m.frames) (length m.objects) (length m.statics) many in
          record {
            frames = h.0;
            objects = h.1;
            statics = h.2;
            frames_end = ending.frames;
            objects_end = ending.objects;
            statics_end = ending.statics;
          }

      lies : Lies (start p) m first.tally (zeroed m)
      lies =
          record {
            depth = refl;
            made = refl;
            status = refl;
            frames = frames_start p m.frames roomy.frames;
            objects = objects_start p m.objects roomy.objects;
            statics = statics_start p m.statics roomy.statics;
            few_frames = omega arith;
            few_objects = omega arith;
            waiting = tt;
          }

      finished : Finished (bounded p n) m (min n 1000000) last (start_done (tables_of p) m first).memory
      unfolding bounded start_done
      finished =
          let small : min n 1000000 < 18446744073709551615 = omega arith in
          rw same at (ran (tables_of p) (rw same formed) m roomy (min n 1000000) small (zeroed m) (start p) (rw same (start_shaped p)) lies)

      ran_answered : Answered x (step_done text n m).result m (step_done text n m).memory
      unfolding lending step_done
      ran_answered =
          let f = finished in
          rw (e, many)
          ((ap halt_number f.halt, rw (f.count, f.depth, f.made, pending_is last.tally.status, f.status) refl), (f.frames, f.objects, f.statics))

  by_room : (b : Bool) → room ≡ b → (p : Program) → read_program text ≡ taken p → Answered x (step_done text n m).result m (step_done text n m).memory
  by_room true many p e = ran_answered p e many
  by_room false few p e = short_answered p e few

  by_reading : (z : Reading) → read_program text ≡ z → Answered x (step_done text n m).result m (step_done text n m).memory
  by_reading (refused number line) e = refused_answered number line e
  by_reading (taken p) e = by_room room refl p e

  pub answered : Answered x (step_done text n m).result m (step_done text n m).memory
  answered = by_reading (read_program text) refl
