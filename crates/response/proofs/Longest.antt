-- What is printed of a run has at most 44,983 bytes: a line of at most 23, and those of the state; and the response to a run.
-- Assumes nothing.
use mathlib.Core.Path.{◌≡◌, refl, sym}
use mathlib.Core.List.{List, ◌++◌}
use Prim.Native.Nat.{ℕ, ◌≤◌}
use native.Mathlib.Omega.{arith}
use lib.ListN.{length, get_or, drop, length-append}
use Rattle.page.specs.Page.{Put}
use Rattle.page.proofs.Puts.{put_as, whole}
use Rattle.program.specs.Tables.{program_in}
use Rattle.reader.specs.Read.{Reading, refused, taken, read_program}
use Rattle.reader.proofs.WellFormed.{well_formed}
use Rattle.machine.specs.State.{Status, running, raised, done, uncaught, failed}
use Rattle.turn.specs.declared.Halt.{Halt}
use Rattle.turn.specs.declared.Halt.TheVariants.{Done, Uncaught, Faulted, FullStore, FullStack, StepsMade, Outside}
use Rattle.memory.specs.Writes.{frame_place}
use Rattle.bounded.specs.declared.Outcome.{Outcome}
use Rattle.bounded.specs.Bounded.{bounded}
use Rattle.bounded.specs.Step.{pending_in}
use Rattle.bounded.proofs.Laws.{frames_most, objects_most}
use Rattle.rows.specs.State.{state_text}
use Rattle.rows.proofs.Longest.{state_longest}
use Rattle.report.specs.Run.{pending_text, halt_text, printed_run}
use Rattle.words.specs.Told.{run_told}
use Rattle.words.proofs.Short.{run_short}
use Rattle.response.specs.Inside.{top_of}
use Rattle.response.specs.Stepped.{run_said_of, run_said, run_told_for}
use Rattle.response.proofs.Runs.{Stepped, registers_few, run_printed, run_told_lem}

pending_short : (e : Status) → length (pending_text (pending_in e)) ≤ 3
pending_short running = omega arith
pending_short (raised o) = omega arith
pending_short done = omega arith
pending_short (uncaught o) = omega arith
pending_short (failed e) = omega arith

halt_short : (h : Halt) (k : ℕ) (e : Status) → length (halt_text h k (pending_in e)) ≤ 23
halt_short Done k e = simp length-append (omega (arith, pending_short e))
halt_short Uncaught k e = simp length-append (omega (arith, pending_short e))
halt_short (Faulted f) k e = simp length-append (omega (arith, pending_short e))
halt_short FullStore k e = simp length-append (omega (arith, pending_short e))
halt_short FullStack k e = simp length-append (omega (arith, pending_short e))
halt_short StepsMade k e = simp length-append (omega (arith, pending_short e))
halt_short Outside k e = simp length-append (omega (arith, pending_short e))

said_short : (panel : List ℕ) (n : ℕ) (r : Reading) → read_program panel ≡ r → length (run_said_of r n) ≤ 44983
said_short panel n (refused number line) e = omega arith
said_short panel n (taken p) e =
    let formed = well_formed panel p e in
    let x = bounded p n in
    omega (
      arith,
      length-append (halt_text x.halt x.count (pending_in x.state.status)) (state_text p x.state),
      halt_short x.halt x.count x.state.status,
      state_longest p x.state (registers_few p formed) formed.limited.fields formed.limited.statics (frames_most p n) (objects_most p n),
    )

pub run_longest : (panel : List ℕ) (n : ℕ) → length (run_said panel n) ≤ 44983
unfolding run_said
run_longest panel n = said_short panel n (read_program panel) refl

-- ---- the response
-- what is printed, whole where there is room for the longest, and what is told
abbrev pub Responded : List ℕ → ℕ → List ℕ → List ℕ → List ℕ → ℕ → List ℕ → List ℕ → ℕ → Type 0
Responded panel n table before after k line wrote j =
    Put before 0 (run_said panel n) after k
    × ((44983 ≤ length before → (k ≡ length (run_said panel n)) × (after ≡ run_said panel n ++ drop (length (run_said panel n)) before))
    × (Put line 0 (run_told_for table panel n) wrote j × (200 ≤ length line → j ≡ length (run_told_for table panel n))))

pub responded : (panel table : List ℕ) (n : ℕ) (t fs os ss : List ℕ) (o : Outcome) (t₁ fs₁ os₁ ss₁ : List ℕ)
    → Stepped panel n t fs os ss o t₁ fs₁ os₁ ss₁
    → (top method address : ℕ) → top ≡ top_of o → method ≡ get_or fs₁ (frame_place top 0) 0 → address ≡ get_or fs₁ (frame_place top 1) 0
    → {before after : List ℕ} {k : ℕ} → Put before 0 (printed_run o (program_in t₁) fs₁ os₁ ss₁) after k
    → {line wrote : List ℕ} {j : ℕ} → Put line 0 (run_told table o method address) wrote j
    → Responded panel n table before after k line wrote j
responded panel table n t fs os ss o t₁ fs₁ os₁ ss₁ d top method address e m a p q =
    let said = put_as p (run_printed panel n t fs os ss o t₁ fs₁ os₁ ss₁ d) in
    let told : run_told table o method address ≡ run_told_for table panel n =
    rw (m, a, e) (run_told_lem panel n t fs os ss o t₁ fs₁ os₁ ss₁ d table) in
    let short : length (run_told_for table panel n) ≤ 200 = rw (sym told) (run_short table o method address) in
    let told-so = put_as q told in
    (said, (λ h. whole said (omega (arith, run_longest panel n, h)), (told-so, λ h. (whole told-so (omega (arith, short, h))).0)))
