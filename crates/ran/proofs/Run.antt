-- The stepper's run reaches what it must answer. Assumes nothing.
use mathlib.Core.Path.{◌≡◌, refl, sym, ap, ◌∙◌}
use mathlib.Core.Bool.{true, false, ◌&&◌}
use mathlib.Core.List.{List}
use Prim.Native.Nat.{ℕ, zero, suc, ◌≤◌, ◌<◌}
use native.Mathlib.Omega.{arith}
use lib.Dec.{ltb}
use borrow.Author.Tests.{ltb-true}
use Rattle.std.specs.Prelude.{None, is_none}
use Rattle.text.proofs.Cases.{both_true}
use Rattle.program.specs.Tables.{program_in}
use Rattle.reader.specs.Formed.{Formed}
use Rattle.machine.specs.State.{State}
use Rattle.machine.specs.Shaped.{Shaped}
use Rattle.instruction.proofs.Flags.{pick_cases}
use Rattle.turn.specs.declared.Status.TheVariants as status
use Rattle.bounded.specs.Bounded.{steps}
use Rattle.site.specs.declared.How.{How}
use Rattle.site.specs.declared.How.TheVariants.{Went, Leaves, Raises, Failed}
use Rattle.shift.specs.declared.Run.{Run}
use Rattle.shift.specs.declared.Stop.TheVariants as stop
use Rattle.shift.specs.declared.Stay.{Stay}
use Rattle.shift.specs.declared.At as shift
use Rattle.shift.specs.Stay.{is_went, is_open, again_left, at_of, is_running, runs_on}
use Rattle.shift.specs.Shift.{stopped}
use Rattle.drive.specs.Models.{Lent, Done, done, looped}
use Rattle.turns.specs.Turns.{new_done, applied, executed}
use Rattle.lies.specs.Lies.{status_of, Lies, Roomy}
use Rattle.lies.proofs.Staying.{failed_lies}
use Rattle.shifting.specs.Shifting.{Come, Shifted}
use Rattle.shifting.proofs.Applied.{applied_lies, raised_lies}
use Rattle.shifting.proofs.Unwound.{unwound_lies}
use Rattle.rounds.specs.Rounds.{stay_in, forth_done, back_done, round_done, runs, turns_of, run_done}
use Rattle.rounds.proofs.Falls.{run_falls}
use Rattle.begun.specs.Begun.{start_run}
use Rattle.ran.specs.Ran.{Going, Finished}
use Rattle.ran.specs.Rounding.{Here, PausedBy, Rounded}
use Rattle.ran.proofs.Steps.{as_many, goes_on, begins}
use Rattle.ran.proofs.Begins.{small}
use Rattle.ran.proofs.Stops.{is_running_lem, is_raised, again_is, no_stop, goes, shifted_on_lem, over, no_turn}
use Rattle.ran.proofs.Within.{paused}

abbrev stay : ℕ → ℕ → ℕ → ℕ → How → Stay
stay left top m pc h = record { left = left; top = top; method = m; pc = pc; how = h }

module _ (t : List ℕ) (formed : Formed (program_in t)) (before : Lent) (roomy : Roomy before) (n : ℕ) (few : n < 18446744073709551615) where
  module _ (s : State) where
    -- ---- a round
    -- an instruction that does not stay in its frame, or raises a new object, by what then lies in the slices
    by_shift : (k : Run) → k.stop ≡ None → (left top m pc : ℕ) (h : How) (now : Lent) → is_went h ≡ false
        → (w : Here (program_in t) n s before k.tally (stay left top m pc h) now h) → (d : List ℕ → Lent → shift.At → Done Run)
        → (Come (program_in t) w.frame (at_of (program_in t) k (stay left top m pc h))
        → Shifted (program_in t) w.going.state before now (at_of (program_in t) k (stay left top m pc h)).run
        (d t now (at_of (program_in t) k (stay left top m pc h))))
        → Rounded (program_in t) n s before (d t now (at_of (program_in t) k (stay left top m pc h)))
    by_shift k e left top m pc x now stays w d lies =
        let h : shift.At = at_of (program_in t) k (stay left top m pc x) in
        let again : h.run.left ≡ suc left = rw stays (again_is left (omega (arith, w.going.few))) in
        let come : Come (program_in t) w.frame h =
        record {
          pc = rw w.pc (small (program_in t) formed w.frame.method w.frame.address w.at.inside);
          word = rw (stays, w.method, w.pc) refl;
          opcode = rw (stays, w.method, w.pc) refl;
        } in
        shifted_on_lem (program_in t) formed n s before h.run now
        (as_many (program_in t) n (suc left) s before k.tally now w.going h.run.left again) (omega (arith, again))
        (d t now h)
        (lies come)

    -- what comes after the steps that stay in the frame, by how the last one ended
    by_how : (k : Run) → k.stop ≡ None → (left top m pc : ℕ) (h : How) (now : Lent)
        → PausedBy (program_in t) n s before k.tally (stay left top m pc h) now h
        → Rounded (program_in t) n s before (executed t now (at_of (program_in t) k (stay left top m pc h)))
    by_how k e left top m pc Went now w =
        let r : Run = record { left = left; tally = k.tally; stop = k.stop } in
        pick_cases (λ (q : Run). Rounded (program_in t) n s before (done q now)) (ltb 0 left) (stopped r stop.Outside) r
        (λ l. record { going = w.0; stops = λ _. (ltb-true 0 left l, w.1 (ltb-true 0 left l)) })
        (λ _. goes (program_in t) formed n s before r now e w.0)
    by_how k e left top m pc Leaves now w =
        by_shift k e left top m pc Leaves now refl w applied
        (λ come.
        applied_lies t formed w.going.state before roomy now w.going.shaped w.frame w.rest w.at _ come e w.going.lies
        w.left)
    by_how k e left top m pc (Raises c) now w =
        by_shift k e left top m pc (Raises c) now refl w new_done
        (λ come.
        raised_lies t formed w.going.state before roomy now w.going.shaped w.frame w.rest w.at _ come e w.going.lies
        c refl w.left)
    by_how k e left top m pc (Failed f) now w =
        let again : again_left left (Failed f) ≡ suc left = again_is left (omega (arith, w.going.few)) in
        let fails =
        failed_lies (program_in t) formed w.going.state before roomy k.tally now w.going.shaped w.going.lies w.frame
        w.rest w.at f w.left in
        goes (program_in t) formed n s before _ now e
        (goes_on (program_in t) n _ s before k.tally now
        (as_many (program_in t) n (suc left) s before k.tally now w.going (again_left left (Failed f)) again) formed (omega (arith, again)) _ now fails.0 fails.1)

    module _ (k : Run) (now : Lent) (free : k.stop ≡ None) (more : 0 < k.left) (g : Going (program_in t) n k.left s before k.tally now) where
      forth : k.tally.status ≡ status.Running → Rounded (program_in t) n s before (forth_done t now k)
      unfolding forth_done
      forth run =
          let j : Stay = (stay_in t now k).result in
          by_how k free j.left j.top j.method j.pc j.how (stay_in t now k).memory (paused t formed n s before roomy k now run g)

      back : (o : ℕ) → k.tally.status ≡ status.Raised o → Rounded (program_in t) n s before (back_done t now k)
      back o e =
          shifted_on_lem (program_in t) formed n s before k now g more (back_done t now k)
          (unwound_lies t formed g.state before roomy now g.shaped o (sym g.lies.status ∙ ap status_of e) k free g.lies)

      rounded : is_open k.tally.status ≡ true → Rounded (program_in t) n s before (round_done t now k)
      rounded live =
          pick_cases (Rounded (program_in t) n s before) (is_running k.tally.status) (forth_done t now k) (back_done t now k)
          (λ e. forth (is_running_lem k.tally.status e))
          (λ e. let found = is_raised k.tally.status live e in back found.0 found.1)

    -- ---- the rounds
    abbrev Ends : Done Run → Type 0
    Ends d = Finished (steps (program_in t) n 0 s) before n d.result d.memory

    -- a round of a run that goes on
    on : (k : Run) (now : Lent) → Rounded (program_in t) n s before (done k now) → runs_on k ≡ true → Rounded (program_in t) n s before (round_done t now k)
    on k now r e =
        let live = both_true (is_none k.stop && ltb 0 k.left) (is_open k.tally.status) e in
        let free = both_true (is_none k.stop) (ltb 0 k.left) live.0 in
        rounded k now (no_stop k.stop free.0)
        (ltb-true 0 k.left free.1)
        r.going
        live.1

    loop : (i : ℕ) (k : Run) (now : Lent) → turns_of k ≤ i → Rounded (program_in t) n s before (done k now) → Ends (looped runs round_done t i now k)
    unfolding looped
    loop zero k now l r = over (program_in t) n s before k now r (no_turn k l)
    loop (suc i) k now l r =
        pick_cases Ends (runs t k) (looped runs round_done t i (round_done t now k).memory (round_done t now k).result) (done k now)
        (λ e.
        loop i (round_done t now k).result (round_done t now k).memory (omega (arith, l, run_falls t now k (rw e tt))) (on k now r e))
        (over (program_in t) n s before k now r)

  pub ran : (now : Lent) → (s : State) → Shaped (program_in t) s → Lies s before (start_run n).tally now
      → Finished (steps (program_in t) n 0 s) before n (run_done t now (start_run n)).result (run_done t now (start_run n)).memory
  ran now s shaped lies =
      loop s (turns_of (start_run n)) (start_run n) now (omega arith)
      (goes (program_in t) formed n s before (start_run n) now refl (begins (program_in t) n s before (start_run n).tally now shaped lies))
