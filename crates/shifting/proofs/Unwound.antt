-- A step with an object pending: the next state lies in the slices, or the top frame is at no address of its method and nothing is
-- written. Assumes nothing.
use mathlib.Core.Path.{◌≡◌, refl, sym, ap, subst, ◌∙◌}
use mathlib.Core.List.{List, [], ◌∷◌}
use mathlib.Core.Option.{none, some}
use Prim.Native.Nat.{ℕ, ◌≤◌, ◌<◌}
use native.Mathlib.Omega.{arith}
use lib.Dec.{ltb}
use lib.ListN.{length}
use borrow.Author.Tests.{ltb-true, ltb-false, lt-leb, le-leb}
use Rattle.std.specs.Prelude.{Option, Some, None}
use Rattle.text.proofs.Cases.{by_test, never}
use Rattle.program.specs.Program.{Program, code_length}
use Rattle.program.specs.Tables.{program_in}
use Rattle.reader.specs.Formed.{Formed}
use Rattle.machine.specs.State.{Frame, State, raised, object_at}
use Rattle.machine.specs.Run as run
use Rattle.machine.specs.Run.{step}
use Rattle.machine.specs.Shaped.{KnownStatus, Shaped}
use Rattle.machine.proofs.Continues as continues
use Rattle.machine.proofs.Continues.{handling_at, step_raised}
use Rattle.turn.specs.declared.Halt.TheVariants as halt
use Rattle.turn.specs.declared.Status.{Status}
use Rattle.turn.specs.declared.Status.TheVariants.{Running, Raised, Done, Uncaught, Failed}
use Rattle.turn.specs.Stop.{stop_of}
use Rattle.turn.proofs.Stops.{raised_stop}
use Rattle.shift.specs.declared.Run.{Run}
use Rattle.shift.specs.declared.Stop.TheVariants as stop
use Rattle.shift.specs.Kinds.{unwind_shifting}
use Rattle.shift.specs.Shift.{unwound_by, pending_of, unwound}
use Rattle.shift.specs.Stay.{raised_at}
use Rattle.drive.specs.Models as drive
use Rattle.drive.specs.Models.{Lent}
use Rattle.turns.specs.Turns.{method_in, address_in, class_in, unwind_done}
use Rattle.lies.specs.Lies.{status_of, Roomy, Lies}
use Rattle.shifting.specs.Shifting.{Shifted, written, Topped}
use Rattle.shifting.proofs.Looked.{method_in_lem, address_in_lem, address_none, class_raised}
use Rattle.shifting.proofs.Written.{done_written}
use Rattle.shifting.proofs.Ways.{stops}
use Rattle.shifting.proofs.Left.{caught_lies, drop_lies}
use Rattle.lies.proofs.Registers.{registers_few}

raised_status : (x : Status) (o : ℕ) → status_of x ≡ raised o → x ≡ Raised o
raised_status Running o e = never (cc)
raised_status (Raised q) o e = let same : q ≡ o = cc in ap Raised same
raised_status Done o e = never (cc)
raised_status (Uncaught q) o e = never (cc)
raised_status (Failed f) o e = never (cc)

module _ (t : List ℕ) (formed : Formed (program_in t)) (s : State) (before : Lent) (roomy : Roomy before) (now : Lent) (shaped : Shaped (program_in t) s)
    (o : ℕ) (status : s.status ≡ raised o) (k : Run) (going : k.stop ≡ None) (lies : Lies s before k.tally now) where
  pending : k.tally.status ≡ Raised o
  pending = raised_status k.tally.status o (lies.status ∙ status)

  known : o < length s.objects
  known = subst (KnownStatus (length s.objects)) status shaped.status

  -- the address is outside
  outside_lies : (m a c : ℕ) → code_length (program_in t) m ≤ a → stop_of (program_in t) s ≡ some halt.Outside
      → Shifted (program_in t) s before now k (written t now (unwound (program_in t) (raised_at k) m a c))
  outside_lies m a c out is = rw (le-leb (code_length (program_in t) m) a out) (stops t (program_in t) s before now k stop.Outside roomy lies (is, refl))

  -- inside, by what handles the object
  handled_lies : (f : Frame) (rest : List Frame) → Topped s before now k f rest → (g : Option ℕ) → step (program_in t) s ≡ run.unwound (program_in t) s f rest o g
      → stop_of (program_in t) s ≡ none → Shifted (program_in t) s before now k (written t now (unwound_by (program_in t) (raised_at k) o f.method g))
  handled_lies f rest c (Some j) next free =
      caught_lies t (program_in t) s before now (raised_at k) f rest c o f.method j known next free
  handled_lies f rest c None next free = drop_lies t (program_in t) s before now (raised_at k) f rest c o f.method next free

  inside_lies : (f : Frame) (rest : List Frame) → continues.At (program_in t) s (raised o) f rest
      → Shifted (program_in t) s before now k (written t now (unwound (program_in t) (raised_at k) f.method f.address (object_at s o).class))
  inside_lies f rest at =
      let p : Program = program_in t in
      rw (lt-leb (code_length p f.method) f.address at.inside)
      (subst (λ (q : ℕ). Shifted p s before now k (written t now (unwound_by p (raised_at k) q f.method (handling_at p s f o)))) (sym (ap pending_of pending))
      (handled_lies f rest
      (record {
        roomy = roomy;
        lies = lies;
        going = going;
        frames = at.frames;
        small = registers_few p formed s shaped f rest at.frames at.inside;
      })
      (handling_at p s f o)
      (step_raised p s f rest o at)
      (raised_stop p s f rest o at)))

  -- by the frames
  framed_lies : (fs : List Frame) → s.frames ≡ fs
      → Shifted (program_in t) s before now k (written t now (unwound (program_in t) (raised_at k) (method_in now (raised_at k)) (address_in now (raised_at k)) (class_in now (raised_at k))))
  unfolding stop_of
  framed_lies [] e =
      let m : ℕ = method_in now (raised_at k) in
      outside_lies m (address_in now (raised_at k)) (class_in now (raised_at k))
      (omega (arith, address_none s before now roomy (raised_at k) lies e, formed.limited.code m))
      (rw (status, e) refl)
  framed_lies (f ∷ rest) e =
      let p : Program = program_in t in
      rw (
        method_in_lem s before now roomy (raised_at k) lies f rest e,
        address_in_lem s before now roomy (raised_at k) lies f rest e,
        class_raised s before now roomy (raised_at k) lies o pending known,
      )
      (by_test (ltb f.address (code_length p f.method))
      (λ q. inside_lies f rest (record { status = status; frames = e; inside = ltb-true f.address (code_length p f.method) q }))
      (λ q.
      outside_lies f.method f.address (object_at s o).class (ltb-false f.address (code_length p f.method) q)
      (rw (status, e, q) refl)))

  pub unwound_lies : Shifted (program_in t) s before now k (unwind_done t now (raised_at k))
  unwound_lies =
      subst (λ (r : drive.Done Run). Shifted (program_in t) s before now k r) (sym (done_written unwind_shifting t now (raised_at k)))
      (framed_lies s.frames refl)
