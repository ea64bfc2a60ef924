-- The stepper's loops end, and keep the lent slices' lengths. Assumes nothing.
use mathlib.Core.Path.{◌≡◌, refl}
use mathlib.Core.Bool.{Bool, true, false, ◌&&◌}
use mathlib.Core.List.{List}
use Prim.Native.Nat.{ℕ, zero, suc, ◌+◌, ◌≤◌, ◌<◌}
use native.Mathlib.Omega.{arith}
use lib.Dec.{T as Holds, ltb, ltb→lt}
use Rattle.instruction.specs.Word.{pick}
use Rattle.program.specs.Program.{code_length}
use Rattle.program.specs.Tables.{program_in}
use Rattle.instruction.proofs.Flags.{pick_cases}
use Rattle.site.specs.declared.How.{How}
use Rattle.shift.specs.declared.Run.{Run}
use Rattle.shift.specs.declared.Stay.{Stay}
use Rattle.shift.proofs.Places.{preceding_is}
use Rattle.shift.specs.Stay.{is_went, again_left, site_of, stay_of, at_of, raised_at, is_running, runs_on}
use Rattle.drive.specs.Models.{Lent, Done, done, looped}
use Rattle.drive.proofs.Driver.{Same}
use Rattle.drive.proofs.Keeps.{same_turns, pick_keeps, loop_keeps}
use Rattle.work.proofs.Keeps.{perform_keeps}
use Rattle.turns.proofs.Keeps.{execute_keeps, unwind_keeps}
use Rattle.rounds.specs.Rounds.{one_done, goes, stay_done, method_in, address_in, stay_in, forth_done, back_done, round_done, runs, turns_of, run_done}
use Rattle.rounds.proofs.Fewer.{both, executed_few, unwind_few}

-- ---- lengths

pub one_keeps : (t : List ℕ) (m : Lent) (k : Stay) → Same m (one_done t m k).memory
one_keeps t m k = perform_keeps t m (site_of (program_in t) k)

pub stay_keeps : (t : List ℕ) (m : Lent) (k : Stay) → Same m (stay_done t m k).memory
stay_keeps t m k = loop_keeps goes one_done one_keeps t k.left m k

pub forth_keeps : (t : List ℕ) (m : Lent) (k : Run) → Same m (forth_done t m k).memory
unfolding forth_done
forth_keeps t m k =
    same_turns m (stay_in t m k).memory _ (stay_keeps t m (stay_of k (method_in m k) (address_in m k)))
    (execute_keeps t (stay_in t m k).memory (at_of (program_in t) k (stay_in t m k).result))

pub back_keeps : (t : List ℕ) (m : Lent) (k : Run) → Same m (back_done t m k).memory
back_keeps t m k = unwind_keeps t m (raised_at k)

pub round_keeps : (t : List ℕ) (m : Lent) (k : Run) → Same m (round_done t m k).memory
round_keeps t m k =
    pick_keeps (is_running k.tally.status) m (forth_done t m k) (back_done t m k) (forth_keeps t m k) (back_keeps t m k)

pub run_keeps : (t : List ℕ) (m : Lent) (k : Run) → Same m (run_done t m k).memory
run_keeps t m k = loop_keeps runs round_done round_keeps t (turns_of k) m k

-- ---- the instructions that stay in a frame

more_left : (t : List ℕ) (k : Stay) → Holds (goes t k) → 0 < k.left
more_left t k h =
    ltb→lt 0 k.left
    (both (is_went k.how) (ltb 0 k.left)
    (both (is_went k.how && ltb 0 k.left) (ltb k.pc (code_length (program_in t) k.method)) h).0).1

pub stay_falls : (t : List ℕ) (m : Lent) (k : Stay) → Holds (goes t k) → (one_done t m k).result.left < k.left
stay_falls t m k h = rw (preceding_is k.left (more_left t k h)) (omega (arith, more_left t k h))

-- a step is counted with every turn, so that one that was not made can be given back
again_few : (e : How) (left n : ℕ) → left < n → again_left left e ≤ n
again_few e left n l =
    pick_cases (λ k. k ≤ n) (is_went e) left (pick (ltb left 18446744073709551615) (left + 1) 0) (λ _. omega arith)
    (λ _. pick_cases (λ k. k ≤ n) (ltb left 18446744073709551615) (left + 1) 0 (λ _. omega arith) (λ _. omega arith))

stay_few : (t : List ℕ) (i : ℕ) (m : Lent) (k : Stay) (n : ℕ) → k.left ≤ n → again_left k.left k.how ≤ n
    → again_left (looped goes one_done t i m k).result.left (looped goes one_done t i m k).result.how ≤ n
unfolding looped
stay_few t zero m k n l again = again
stay_few t (suc i) m k n l again =
    by (goes t k) refl
    (λ falls.
    stay_few t i (one_done t m k).memory (one_done t m k).result n (omega arith)
    (again_few (one_done t m k).result.how (one_done t m k).result.left n (omega arith)))
  where
    on : Done Stay
    on = looped goes one_done t i (one_done t m k).memory (one_done t m k).result

    by : (b : Bool) → goes t k ≡ b → ((one_done t m k).result.left < k.left → again_left on.result.left on.result.how ≤ n)
        → again_left (pick b on (done k m)).result.left (pick b on (done k m)).result.how ≤ n
    by true e h = h (stay_falls t m k (rw e tt))
    by false e h = again

-- ---- the rounds

forth_few : (t : List ℕ) (m : Lent) (k : Run) → turns_of (forth_done t m k).result ≤ k.left
unfolding forth_done
forth_few t m k =
    executed_few t (stay_in t m k).memory (at_of (program_in t) k (stay_in t m k).result) k.left
    (stay_few t k.left m (stay_of k (method_in m k) (address_in m k)) k.left (omega arith) (omega arith))

pub run_falls : (t : List ℕ) (m : Lent) (k : Run) → Holds (runs t k) → turns_of (round_done t m k).result < turns_of k
run_falls t m k h =
    let round : turns_of (round_done t m k).result ≤ k.left =
    pick_cases (λ (d : Done Run). turns_of d.result ≤ k.left) (is_running k.tally.status) (forth_done t m k) (back_done t m k)
    (λ _. forth_few t m k) (λ _. unwind_few t m (raised_at k) k.left (omega arith)) in
    goes_on_lem (runs_on k) h round
  where
    goes_on_lem : (b : Bool) → Holds b → turns_of (round_done t m k).result ≤ k.left → turns_of (round_done t m k).result < pick b (suc k.left) 0
    goes_on_lem true h round = omega arith
    goes_on_lem false h round = absurd h
