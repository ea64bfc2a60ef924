-- The steps that are left: one more is made, or the run is over. Assumes nothing.
use mathlib.Core.Path.{◌≡◌, refl, sym, ap, ◌∙◌}
use mathlib.Core.Bool.{false}
use mathlib.Core.Option.{none, some}
use Prim.Native.Nat.{ℕ, suc, ◌-◌, ◌<◌}
use native.Mathlib.Omega.{arith}
use Rattle.std.specs.Prelude.{None}
use Rattle.text.proofs.Cases.{never}
use Rattle.program.specs.Program.{Program}
use Rattle.reader.specs.Formed.{Formed}
use Rattle.machine.specs.State.{State}
use Rattle.machine.specs.Run.{step}
use Rattle.machine.specs.Shaped.{Shaped}
use Rattle.machine.proofs.Continues.{Ended}
use Rattle.machine.proofs.ShapedRun.{step_shaped}
use Rattle.turn.specs.declared.Halt.{Halt}
use Rattle.turn.specs.declared.Status.{Status}
use Rattle.turn.specs.declared.Status.TheVariants.{Running, Raised, Done, Uncaught, Failed}
use Rattle.turn.specs.declared.Tally.{Tally}
use Rattle.turn.specs.Stop.{stop_of}
use Rattle.bounded.specs.Bounded.{at_limit, continued, steps}
use Rattle.bounded.proofs.Stops.{ended_stops}
use Rattle.shift.specs.declared.Run.{Run}
use Rattle.shift.specs.Stay.{is_open}
use Rattle.drive.specs.Models.{Lent}
use Rattle.lies.specs.Lies.{status_of, Lies}
use Rattle.begun.specs.Begun.{limit_halt, halt_of}
use Rattle.ran.specs.Ran.{Going, Finished}

-- at the start all are left
pub begins : (p : Program) (n : ℕ) (s : State) (before : Lent) (t : Tally) (now : Lent) → Shaped p s → Lies s before t now → Going p n n s before t now
begins p n s before t now h l =
    record {
      few = omega arith;
      state = s;
      same = ap (λ (k : ℕ). steps p n k s) (omega arith);
      shaped = h;
      lies = l;
    }

module _ (p : Program) (n left : ℕ) (s : State) (before : Lent) (t : Tally) (now : Lent) (g : Going p n left s before t now) where
  -- an equal number of them
  abbrev pub as_many : (i : ℕ) → i ≡ left → Going p n i s before t now
  as_many i e =
      record { few = rw e g.few; state = g.state; same = rw e g.same; shaped = g.shaped; lies = g.lies }

  -- they begin with the state's own
  pub unfolded : 0 < left
      → steps p left (n - left) g.state
      ≡ continued (stop_of p g.state) (n - left) g.state (steps p (left - 1) (n - (left - 1)) (step p g.state))
  unfolding steps
  unfolded l =
      let more : left ≡ suc (left - 1) = omega arith in
      let one : n - (left - 1) ≡ suc (n - left) = omega (arith, g.few) in
      rw one (ap (λ (k : ℕ). steps p k (n - left) g.state) more)

  -- one more step, where nothing stops it
  abbrev pub goes_on : Formed p → 0 < left → (u : Tally) (after : Lent) → stop_of p g.state ≡ none → Lies (step p g.state) before u after
      → Going p n (left - 1) s before u after
  goes_on formed l u after free lies =
      record {
        few = omega (arith, g.few);
        state = step p g.state;
        same = g.same ∙ unfolded l ∙ rw free refl;
        shaped = step_shaped p formed g.state g.shaped;
        lies = lies;
      }

  stops : 0 < left → (h : Halt) → stop_of p g.state ≡ some h → steps p n 0 s ≡ record { halt = h; count = n - left; state = g.state }
  stops l h e = g.same ∙ unfolded l ∙ rw e refl

  ends : left ≡ 0 → steps p n 0 s ≡ record { halt = at_limit g.state.status; count = n - left; state = g.state }
  unfolding steps
  ends l = g.same ∙ ap (λ (k : ℕ). steps p k (n - left) g.state) l

end_same : (e : Status) → limit_halt e ≡ at_limit (status_of e)
end_same Running = refl
end_same (Raised o) = refl
end_same Done = refl
end_same (Uncaught o) = refl
end_same (Failed e) = refl

end_closed : (e : Status) → is_open e ≡ false → Ended (status_of e)
end_closed Running c = never (cc)
end_closed (Raised o) c = never (cc)
end_closed Done c = tt
end_closed (Uncaught o) c = tt
end_closed (Failed e) c = tt

module _ (p : Program) (n : ℕ) (s : State) (before : Lent) (k : Run) (now : Lent) (g : Going p n k.left s before k.tally now) where
  -- a stop at a state that lies in the lent slices is told as it is
  finished : (h : Halt) → halt_of k ≡ h → steps p n 0 s ≡ record { halt = h; count = n - k.left; state = g.state }
      → Finished (steps p n 0 s) before n k now
  finished h e all =
      rw all
      (record {
        halt = e;
        count = refl;
        depth = g.lies.depth;
        made = g.lies.made;
        status = g.lies.status;
        frames = g.lies.frames;
        objects = g.lies.objects;
        statics = g.lies.statics;
      })

  -- something stops the next step
  pub at_stop : 0 < k.left → stop_of p g.state ≡ some (halt_of k) → Finished (steps p n 0 s) before n k now
  at_stop l e = finished (halt_of k) refl (stops p n k.left s before k.tally now g l (halt_of k) e)

  limit : k.stop ≡ None → halt_of k ≡ at_limit g.state.status
  limit free = rw free (end_same k.tally.status ∙ ap at_limit g.lies.status)

  -- n steps are made
  pub at_limit_lem : k.stop ≡ None → k.left ≡ 0 → Finished (steps p n 0 s) before n k now
  at_limit_lem free l = finished (at_limit g.state.status) (limit free) (ends p n k.left s before k.tally now g l)

  -- the run has ended
  pub at_end : k.stop ≡ None → 0 < k.left → is_open k.tally.status ≡ false → Finished (steps p n 0 s) before n k now
  at_end free l closed =
      at_stop l (ended_stops p g.state (rw (sym g.lies.status) (end_closed k.tally.status closed)) ∙ ap some (sym (limit free)))
