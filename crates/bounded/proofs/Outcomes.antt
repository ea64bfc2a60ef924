-- A number and values are those of one outcome only. Assumes nothing.
use mathlib.Core.Path.{◌≡◌, refl, sym, ap, ◌∙◌}
use mathlib.Core.List.{◌∷◌}
use Rattle.std.specs.Prelude.{Option, Some, None}
use Prim.Native.Nat.{ℕ}
use lib.Dec.{eqb, ltb}
use lib.ListN.{length}
use Rattle.text.proofs.Cases.{never}
use Rattle.instruction.specs.Word.{pick}
use Rattle.machine.specs.declared.Fault.{Fault}
use Rattle.machine.specs.declared.Fault.TheVariants.{NumberAsObject, ObjectAsNumber, FieldNotHad, NoMethod, NotThrowable}
use Rattle.machine.specs.State.{Status, running, raised, done, uncaught, failed}
use Rattle.turn.specs.declared.Halt.{Halt}
use Rattle.turn.specs.declared.Halt.TheVariants.{Done, Uncaught, Faulted, FullStore, FullStack, StepsMade, Outside}
use Rattle.turn.specs.Stop.{halt_number}
use Rattle.bounded.specs.declared.Outcome.{Outcome}
use Rattle.bounded.specs.declared.Outcome.TheVariants.{Refused, Short, Ran}
use Rattle.bounded.specs.Bounded.{Stopped}
use Rattle.bounded.specs.Step.{Stepping, turned_down, short, ran, stepping_number, stepping_values, pending_in, pending_values, number_of, values_of}

-- the pending object of a status, and the outcome of each answer
abbrev pub pending_for : Status → Option ℕ
pending_for running = None
pending_for (raised o) = Some o
pending_for done = None
pending_for (uncaught o) = Some o
pending_for (failed e) = None

abbrev pub outcome_for : Stepping → Outcome
outcome_for (turned_down number line) = Refused number line
outcome_for short = Short
outcome_for (ran x) =
    Ran x.halt x.count (length x.state.frames) (length x.state.objects) (pending_for x.state.status)

-- ---- a halt from its number
fault_from : ℕ → Fault
fault_from n =
    pick (eqb n 42) NumberAsObject
    (pick (eqb n 43) ObjectAsNumber
    (pick (eqb n 45) FieldNotHad (pick (eqb n 46) NoMethod NotThrowable)))

halt_from : ℕ → Halt
halt_from n =
    pick (ltb 40 n) (Faulted (fault_from n))
    (pick (eqb n 32) Done
    (pick (eqb n 33) Uncaught
    (pick (eqb n 20) FullStore (pick (eqb n 21) FullStack (pick (eqb n 22) StepsMade Outside)))))

halt_back : (h : Halt) → halt_from (halt_number h) ≡ h
unfolding halt_from fault_from
halt_back Done = refl
halt_back Uncaught = refl
halt_back (Faulted NumberAsObject) = refl
halt_back (Faulted ObjectAsNumber) = refl
halt_back (Faulted FieldNotHad) = refl
halt_back (Faulted NoMethod) = refl
halt_back (Faulted NotThrowable) = refl
halt_back FullStore = refl
halt_back FullStack = refl
halt_back StepsMade = refl
halt_back Outside = refl

same_halt : (h k : Halt) → halt_number h ≡ halt_number k → h ≡ k
same_halt h k e = sym (halt_back h) ∙ ap halt_from e ∙ halt_back k

-- ---- a pending object from its values
same_pending : (p : Option ℕ) (e : Status) → pending_values p ≡ pending_in e → p ≡ pending_for e
same_pending None running v = refl
same_pending None (raised o) v = never (cc)
same_pending None done v = refl
same_pending None (uncaught o) v = never (cc)
same_pending None (failed e) v = refl
same_pending (Some o) running v = never (cc)
same_pending (Some o) (raised k) v = cc
same_pending (Some o) done v = never (cc)
same_pending (Some o) (uncaught k) v = cc
same_pending (Some o) (failed e) v = never (cc)

-- ---- the outcome
ran_is : (x : Stopped) (h : Halt) (k f o : ℕ) (p : Option ℕ) → halt_number h ≡ halt_number x.halt
    → k ∷ f ∷ o ∷ pending_values p ≡ x.count ∷ length x.state.frames ∷ length x.state.objects ∷ pending_in x.state.status
    → Ran h k f o p ≡ outcome_for (ran x)
ran_is x h k f o p e v =
    let halt : h ≡ x.halt = same_halt h x.halt e in
    let rest : pending_values p ≡ pending_in x.state.status = cc in
    let pending : p ≡ pending_for x.state.status = same_pending p x.state.status rest in
    cc

pub outcome_is : (x : Stepping) (r : Outcome) → number_of r ≡ stepping_number x → values_of r ≡ stepping_values x → r ≡ outcome_for x
outcome_is (turned_down number line) (Refused n l) e v = cc
outcome_is (turned_down number line) Short e v = never (cc)
outcome_is (turned_down number line) (Ran h k f o p) e v = never (cc)
outcome_is short (Refused n l) e v = never (cc)
outcome_is short Short e v = refl
outcome_is short (Ran h k f o p) e v = never (cc)
outcome_is (ran x) (Refused n l) e v = never (cc)
outcome_is (ran x) Short e v = never (cc)
outcome_is (ran x) (Ran h k f o p) e v = ran_is x h k f o p e v
