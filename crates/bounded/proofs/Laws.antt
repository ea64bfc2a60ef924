-- Laws that tell the stepper's answers apart, for every program and every n: the count belongs to the state left, each answer
-- says what it must of that state, and no other answer has all of this. Assumes nothing.
use mathlib.Core.Path.{◌≡◌, refl, sym, ap, ◌∙◌}
use mathlib.Core.Bool.{false}
use mathlib.Core.List.{List, [], ◌∷◌}
use mathlib.Core.Option.{none, some, some-ne-none}
use Prim.Native.Nat.{ℕ, ◌-◌, min, ◌≤◌, ◌<◌}
use native.Mathlib.Nat.{min-eq_right}
use native.Mathlib.Omega.{arith}
use lib.Dec.{ltb}
use lib.ListN.{length}
use borrow.Author.Tests.{ltb-true, ltb-false, le-leb}
use Rattle.text.proofs.Cases.{by_test}
use Rattle.program.specs.Program.{Program, code_length}
use Rattle.reader.specs.Read.{refused, taken, read_program}
use Rattle.machine.specs.declared.Fault.{Fault}
use Rattle.machine.specs.State.{Frame, Status, running, raised, done, uncaught, failed}
use Rattle.machine.specs.Run.{run}
use Rattle.machine.proofs.Continues.{Ended, run_ended}
use Rattle.machine.proofs.History.{Calling}
use Rattle.turn.specs.declared.Halt.{Halt}
use Rattle.turn.specs.declared.Halt.TheVariants.{Done, Uncaught, Faulted, FullStore, FullStack, StepsMade, Outside}
use Rattle.turn.specs.Stop.{stop_of}
use Rattle.bounded.specs.Bounded.{Stopped, at_limit, bounded}
use Rattle.bounded.specs.Step.{Stepping, turned_down, short, ran, enough, stepping, frames_after, objects_after, statics_after}
use Rattle.bounded.proofs.Stops.{Making, Beyond, Says, Framed, full_stops, ended_stops}
use Rattle.bounded.proofs.Left.{Left, bounded_left, left_says, left_kept, left_ended, more_left, only}

-- what goes on and is beyond every address has a top frame that is outside
module _ (p : Program) where
  beyond_top : (e : Status) (fs : List Frame) → Framed e fs → Beyond p fs → ¬ Ended e → (f : Frame) × (rest : List Frame) × (fs ≡ f ∷ rest) × (code_length p f.method ≤ f.address)
  beyond_top running [] h b goes = absurd h
  beyond_top (raised o) [] h b goes = absurd h
  beyond_top done [] h b goes = absurd (goes tt)
  beyond_top (uncaught o) [] h b goes = absurd (goes tt)
  beyond_top (failed e) [] h b goes = absurd h
  beyond_top e (f ∷ rest) h b goes = (f, rest, refl, b)

module _ (p : Program) (n : ℕ) where
  -- ---- the count
  -- "the count belongs to the state left"
  pub state_left : (bounded p n).state ≡ run p (bounded p n).count
  state_left = (bounded_left p n).state

  pub count_limit : (bounded p n).count ≤ min n 1000000
  count_limit = (bounded_left p n).most

  -- no step before was stopped
  pub not_stopped : (k : ℕ) → k < (bounded p n).count → stop_of p (run p k) ≡ none
  not_stopped = (bounded_left p n).free

  -- before n steps the answer is what stops the next step; at n steps it is by the status alone, and nothing more is tried
  pub before_limit : (bounded p n).count < min n 1000000 → stop_of p (bounded p n).state ≡ some (bounded p n).halt
  before_limit = (bounded_left p n).stop

  pub at_limit_lem : (bounded p n).count ≡ min n 1000000 → (bounded p n).halt ≡ at_limit (bounded p n).state.status
  at_limit_lem = (bounded_left p n).limit

  -- no other answer has these five laws
  pub no_other : (x : Stopped) → Left p (min n 1000000) x → x ≡ bounded p n
  no_other x l = only p (min n 1000000) x (bounded p n) l (bounded_left p n)

  -- so the first step that something stops is where the stepper stops
  pub first_stop : (k : ℕ) (h : Halt) → k < min n 1000000 → ((i : ℕ) → i < k → stop_of p (run p i) ≡ none) → stop_of p (run p k) ≡ some h → bounded p n ≡ record { halt = h; count = k; state = run p k }
  first_stop k h l free e =
      sym (no_other (record { halt = h; count = k; state = run p k })
      (record { state = refl; most = omega arith; free = free; limit = λ c. absurd (omega arith); stop = λ _. e }))

  -- ---- what each answer says of the state left
  pub says : Says p (min n 1000000) (bounded p n).count (bounded p n).state (bounded p n).halt
  says = left_says p (min n 1000000) (bounded p n) (bounded_left p n)

  pub frames_most : length (bounded p n).state.frames ≤ 32
  frames_most = (left_kept p (min n 1000000) (bounded p n) (bounded_left p n)).0

  pub objects_most : length (bounded p n).state.objects ≤ 256
  objects_most = (left_kept p (min n 1000000) (bounded p n) (bounded_left p n)).1

  framed : Framed (bounded p n).state.status (bounded p n).state.frames
  framed = (left_kept p (min n 1000000) (bounded p n) (bounded_left p n)).2

  -- "22: n steps made, not ended"
  pub steps_made : (bounded p n).halt ≡ StepsMade → ((bounded p n).count ≡ min n 1000000) × ¬ Ended (bounded p n).state.status
  steps_made h = rw h at says

  -- "20: new-instance at 256 objects", and a step that raises a new object: "a full store gives 20". Never "from a store .. with
  -- space"
  pub full_store : (bounded p n).halt ≡ FullStore → Making p (bounded p n).state × (length (bounded p n).state.objects ≡ 256)
  full_store h =
      let full : Making p (bounded p n).state × (256 ≤ length (bounded p n).state.objects) = rw h at says in
      (full.0, omega (arith, objects_most))

  -- and there always: no such step was made at 256 objects, and where one is next it is 20
  pub store_space : (k : ℕ) → k < (bounded p n).count → Making p (run p k) → length (run p k).objects < 256
  store_space k l m =
      by_test (ltb (length (run p k).objects) 256) (ltb-true (length (run p k).objects) 256)
      (λ q.
      absurd
      (some-ne-none FullStore
      (sym (full_stops p (run p k) m (ltb-false (length (run p k).objects) 256 q)) ∙ not_stopped k l)))

  pub store_full : (bounded p n).count < min n 1000000 → Making p (bounded p n).state → length (bounded p n).state.objects ≡ 256
      → (bounded p n).halt ≡ FullStore
  store_full l m full =
      let stops : stop_of p (bounded p n).state ≡ some FullStore = full_stops p (bounded p n).state m (omega (arith, full)) in
      let told : some (bounded p n).halt ≡ some FullStore = sym (before_limit l) ∙ stops in
      cc

  -- "21: a call without fault at 32 frames"
  pub full_stack : (bounded p n).halt ≡ FullStack → Calling p (bounded p n).state × (length (bounded p n).state.frames ≡ 32)
  full_stack h =
      let full : Calling p (bounded p n).state × (32 ≤ length (bounded p n).state.frames) = rw h at says in
      (full.0, omega (arith, frames_most))

  -- "24: an address outside its method"
  pub outside : (bounded p n).halt ≡ Outside → (f : Frame) × (rest : List Frame) × ((bounded p n).state.frames ≡ f ∷ rest) × (code_length p f.method ≤ f.address)
  outside h =
      let out : Beyond p (bounded p n).state.frames × ¬ Ended (bounded p n).state.status = rw h at says in
      beyond_top p (bounded p n).state.status (bounded p n).state.frames framed out.0 out.1

  -- ---- ends
  -- "done (last frame returns)"
  pub done_left : (bounded p n).halt ≡ Done → ((bounded p n).state.status ≡ done) × ((bounded p n).state.frames ≡ [])
  done_left h =
      let end : (bounded p n).state.status ≡ done = rw h at says in
      (end, rw end at framed)

  -- "uncaught (last frame dropped)", with the object still pending
  pub uncaught_left : (bounded p n).halt ≡ Uncaught → (o : ℕ) × ((bounded p n).state.status ≡ uncaught o) × ((bounded p n).state.frames ≡ [])
  uncaught_left h =
      let end : (o : ℕ) × ((bounded p n).state.status ≡ uncaught o) = rw h at says in
      (end.0, end.1, rw end.1 at framed)

  pub faulted_left : (e : Fault) → (bounded p n).halt ≡ Faulted e → (bounded p n).state.status ≡ failed e
  faulted_left e h = rw h at says

  -- "The ending step counts": none before it ended the run
  pub not_ended : (k : ℕ) → k < (bounded p n).count → ¬ Ended (run p k).status
  not_ended k l end =
      some-ne-none (at_limit (run p k).status) (sym (ended_stops p (run p k) end) ∙ not_stopped k l)

  -- a run that has ended gives its end, and nothing else
  pub end_told : Ended (bounded p n).state.status → (bounded p n).halt ≡ at_limit (bounded p n).state.status
  end_told = left_ended p (min n 1000000) (bounded p n) (bounded_left p n)

  -- it is the run's end
  pub end_stays : Ended (bounded p n).state.status → (k : ℕ) → (bounded p n).count ≤ k → run p k ≡ (bounded p n).state
  end_stays end k h =
      ap (run p) (omega arith)
      ∙ run_ended p (bounded p n).count (k - (bounded p n).count) (rw state_left at end)
      ∙ sym state_left

  -- ---- another n
  -- "n from 0 to 1,000,000 (more counts as that)"
  pub above_limit : 1000000 ≤ n → bounded p n ≡ bounded p 1000000
  above_limit h =
      only p 1000000 (bounded p n) (bounded p 1000000) (rw (min-eq_right h) at (bounded_left p n)) (bounded_left p 1000000)

  -- a stop before n steps, or an end, is the stop for every greater n
  pub more_steps : (m : ℕ) → n ≤ m → ¬ ((bounded p n).halt ≡ StepsMade) → bounded p m ≡ bounded p n
  more_steps m h other =
      only p (min m 1000000) (bounded p m) (bounded p n) (bounded_left p m)
      (more_left p (min n 1000000) (bounded p n) (bounded_left p n) (min m 1000000) (omega arith) other)

-- ---- a text, and lent memory
abbrev pub Untouched : Stepping → List ℕ → List ℕ → List ℕ → Type 0
Untouched x frames objects statics = (frames_after x frames ≡ frames) × (objects_after x objects ≡ objects) × (statics_after x statics ≡ statics)

module _ (text : List ℕ) (n : ℕ) (frames objects statics : List ℕ) where
  -- "Each gives number and line .. and touches no lent memory", however little is lent
  pub text_refused : (number line : ℕ) → read_program text ≡ refused number line → stepping text n frames objects statics ≡ turned_down number line
  unfolding stepping
  text_refused number line h = rw h

  pub refused_untouched : (number line : ℕ) → read_program text ≡ refused number line → Untouched (stepping text n frames objects statics) frames objects statics
  refused_untouched number line h = rw (text_refused number line h) (refl, refl, refl)

  module _ (p : Program) (h : read_program text ≡ taken p) where
    -- "23 .. untouched, after all of the above"
    pub memory_short : enough (length frames) (length objects) (length statics) ≡ false → stepping text n frames objects statics ≡ short
    unfolding stepping
    memory_short e = rw (h, e)

    pub short_untouched : enough (length frames) (length objects) (length statics) ≡ false → Untouched (stepping text n frames objects statics) frames objects statics
    short_untouched e = rw (memory_short e) (refl, refl, refl)

    pub program_ran : 608 ≤ length frames → 4352 ≤ length objects → 16 ≤ length statics → stepping text n frames objects statics ≡ ran (bounded p n)
    unfolding stepping
    program_ran f o s =
        rw (h, le-leb 608 (length frames) f, le-leb 4352 (length objects) o, le-leb 16 (length statics) s)
