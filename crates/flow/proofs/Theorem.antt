-- The coverage theorem: for every well-formed program, every claim whose verdict is accepted and every n, the run of n steps stays
-- inside the masks and inside the call list. Assumes nothing.
use mathlib.Core.Path.{◌≡◌, refl}
use mathlib.Core.List.{List, [], ◌∷◌}
use Prim.Native.Nat.{ℕ, zero, suc, ◌<◌}
use native.Mathlib.Omega.{arith}
use lib.ListN.{length, get_or}
use borrow.Author.Tests.{eq-eqb}
use Rattle.program.specs.Lists.{Every}
use Rattle.program.specs.Program.{Program, code_length}
use Rattle.reader.specs.Formed.{Formed}
use Rattle.machine.specs.State.{Frame, Object, no_object}
use Rattle.machine.specs.Run.{run}
use Rattle.machine.proofs.Fitting.{method_exists}
use Rattle.flow.specs.Claim.{Claim}
use Rattle.flow.specs.Flows.{Holds}
use Rattle.flow.specs.Rules.{rules_at}
use Rattle.flow.specs.Verdict.{accepted, verdict}
use Rattle.flow.specs.Calls.{call_list}
use Rattle.flow.specs.Covered.{FrameCovered, ObjectCovered, Covered}
use Rattle.flow.specs.Inside.{Asked, FramesIn, ObjectsIn, Inside}
use Rattle.flow.proofs.Verdicts.{accepted_holds, rules_at_lem}
use Rattle.flow.proofs.Run.{run_inside}
use Rattle.flow.proofs.History.{calls_in_lem, leavings_in_lem}

-- what holds of each element by index holds of every element
every_getD : {A : Type 0} (P : A → Type 0) (d : A) (xs : List A) → ((i : ℕ) → i < length xs → P (get_or xs i d)) → Every P xs
every_getD P d [] h = tt
every_getD P d (x ∷ xs) h = (h zero (omega arith), every_getD P d xs (λ i l. h (suc i) (omega arith)))

module _ (p : Program) (c : Claim) where
  frames_covered : (os : List Object) (fs : List Frame) → FramesIn p c os fs → Every (FrameCovered p c os) fs
  frames_covered os [] h = tt
  frames_covered os (f ∷ rest) h =
      (h.0.masks, frames_covered os rest h.2)

  objects_covered : (os : List Object) → ObjectsIn p c os → Every (ObjectCovered p c os) os
  objects_covered os h = every_getD (ObjectCovered p c os) no_object os (λ o l. (h o l).masks)

  -- an accepted verdict asks all rules at every address
  asked : Formed p → verdict p c ≡ accepted → Asked p c
  asked formed e =
      let all : (m pc : ℕ) → pc < code_length p m → Every (λ r. Holds c r.flows) (rules_at p m pc) =
      λ m pc l. rules_at_lem p c (accepted_holds p c e) m pc (method_exists p m pc l) l in
      record {
        memory = (all 0 0 (formed.methods 0 formed.methods_from).code_from).0 refl;
        at = λ m pc l. record { entering = λ z. (all m pc l).1.0 (eq-eqb pc 0 z); rules = (all m pc l).1.1 };
      }

  pub covered : Formed p → verdict p c ≡ accepted → (n : ℕ) → Covered p c (call_list p c) n
  covered formed e n =
      let inside : Inside p c (run p n) = run_inside p c formed (asked formed e) n in
      record {
        frames_in = frames_covered (run p n).objects (run p n).frames inside.frames;
        objects_in = objects_covered (run p n).objects inside.objects;
        statics_in = inside.statics;
        calls_in = calls_in_lem p c formed (asked formed e) n;
        leavings_in = leavings_in_lem p c formed (asked formed e) n;
      }
