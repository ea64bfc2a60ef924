-- A round of the stepper's run, by what stopped it, and where the run is over. Assumes nothing.
use mathlib.Core.Path.{◌≡◌, refl}
use mathlib.Core.Bool.{Bool, true, false}
use Prim.Native.Nat.{ℕ, suc, ◌≤◌, ◌<◌}
use native.Mathlib.Omega.{arith}
use lib.Dec.{ltb}
use borrow.Author.Tests.{ltb-true, ltb-false, lt-ltb}
use Rattle.std.specs.Prelude.{Option, Some, None, is_none}
use Rattle.text.proofs.Cases.{by_test, never}
use Rattle.instruction.specs.Word.{pick}
use Rattle.program.specs.Program.{Program}
use Rattle.reader.specs.Formed.{Formed}
use Rattle.machine.specs.State.{State}
use Rattle.turn.specs.declared.Status.{Status}
use Rattle.turn.specs.declared.Status.TheVariants as status
use Rattle.bounded.specs.Bounded.{steps}
use Rattle.site.specs.declared.How.TheVariants.{Leaves}
use Rattle.shift.specs.declared.Run.{Run}
use Rattle.shift.specs.declared.Stop.TheVariants as stop
use Rattle.shift.specs.declared.Stop.{Stop}
use Rattle.shift.specs.Stay.{is_open, again_left, is_running, runs_on}
use Rattle.drive.specs.Models.{Lent, Done, done}
use Rattle.shifting.specs.Shifting.{ShiftedBy, Shifted}
use Rattle.rounds.specs.Rounds.{turns_of}
use Rattle.ran.specs.Ran.{Going, Finished}
use Rattle.ran.specs.Rounding.{Rounded}
use Rattle.ran.proofs.Steps.{as_many, goes_on, at_stop, at_limit_lem, at_end}
use Rattle.ran.proofs.Begins.{last}

-- ---- tests

-- what is known of a run by a test
pub no_stop : (e : Option Stop) → is_none e ≡ true → e ≡ None
no_stop None h = refl
no_stop (Some e) h = never (cc)

pub is_running_lem : (e : Status) → is_running e ≡ true → e ≡ status.Running
is_running_lem status.Running h = refl
is_running_lem (status.Raised o) h = never (cc)
is_running_lem status.Done h = never (cc)
is_running_lem (status.Uncaught o) h = never (cc)
is_running_lem (status.Failed e) h = never (cc)

pub is_raised : (e : Status) → is_open e ≡ true → is_running e ≡ false → (o : ℕ) × (e ≡ status.Raised o)
is_raised status.Running h r = never (cc)
is_raised (status.Raised o) h r = (o, refl)
is_raised status.Done h r = never (cc)
is_raised (status.Uncaught o) h r = never (cc)
is_raised (status.Failed e) h r = never (cc)

-- a step is given back
pub again_is : (left : ℕ) → suc left < 18446744073709551615 → again_left left Leaves ≡ suc left
again_is left l = rw (lt-ltb left 18446744073709551615 (omega arith)) (omega arith)

-- ---- a run that goes on

module _ (p : Program) (formed : Formed p) (n : ℕ) (s : State) (before : Lent) where
  -- nothing stopped a run
  free : {P : Type 0} (k : Run) → k.stop ≡ None → is_none k.stop ≡ false → P
  free k e q = never (cc)

  pub goes : (k : Run) (now : Lent) → k.stop ≡ None → Going p n k.left s before k.tally now → Rounded p n s before (done k now)
  goes k now e g = record { going = g; stops = free k e }

  -- a step that does not stay in its frame
  by_stop : (k : Run) (now : Lent) (g : Going p n k.left s before k.tally now) → 0 < k.left → (r : Done Run) (e : Option Stop) → r.result.stop ≡ e
      → ShiftedBy p g.state before now k r e → Rounded p n s before r
  by_stop k now g more r None e h =
      goes r.result r.memory e
      (as_many p n _ s before r.result.tally r.memory
      (goes_on p n k.left s before k.tally now g formed more r.result.tally r.memory h.0 h.1.0) r.result.left h.1.1)
  by_stop k now g more r (Some stop.Store) e h = rw h.1 (record { going = g; stops = λ _. (more, h.0) })
  by_stop k now g more r (Some stop.Stack) e h = rw h.1 (record { going = g; stops = λ _. (more, h.0) })
  by_stop k now g more r (Some stop.Outside) e h = rw h.1 (record { going = g; stops = λ _. (more, h.0) })

  pub shifted_on_lem : (k : Run) (now : Lent) (g : Going p n k.left s before k.tally now) → 0 < k.left → (r : Done Run)
      → Shifted p g.state before now k r → Rounded p n s before r
  shifted_on_lem k now g more r h = by_stop k now g more r r.result.stop refl h

-- ---- a run that does not

module _ (p : Program) (n : ℕ) (s : State) (before : Lent) (k : Run) (now : Lent) (r : Rounded p n s before (done k now)) where
  unstopped : runs_on k ≡ false → is_none k.stop ≡ true → Finished (steps p n 0 s) before n k now
  unstopped e free =
      by_test (ltb 0 k.left)
      (λ l.
      at_end p n s before k now r.going (no_stop k.stop free) (ltb-true 0 k.left l)
      (last (is_none k.stop) (ltb 0 k.left) (is_open k.tally.status) free l e))
      (λ l. at_limit_lem p n s before k now r.going (no_stop k.stop free) (omega (arith, ltb-false 0 k.left l)))

  pub over : runs_on k ≡ false → Finished (steps p n 0 s) before n k now
  over e =
      by_test (is_none k.stop) (unstopped e)
      (λ stopped. at_stop p n s before k now r.going (r.stops stopped).0 (r.stops stopped).1)

pub no_turn : (k : Run) → turns_of k ≤ 0 → runs_on k ≡ false
no_turn k l = by (runs_on k) l
  where
    by : (b : Bool) → pick b (suc k.left) 0 ≤ 0 → b ≡ false
    by true h = absurd (omega arith)
    by false h = refl
