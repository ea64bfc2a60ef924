-- A step that does not stay in its frame leaves a run that makes no further turn, or one with a step fewer left. Assumes nothing.
use mathlib.Core.Path.{◌≡◌}
use mathlib.Core.Bool.{Bool, true, false, ◌&&◌}
use mathlib.Core.List.{List}
use Prim.Native.Nat.{ℕ, suc, ◌+◌, ◌≤◌, ◌<◌}
use native.Mathlib.Omega.{arith}
use lib.Dec.{T as Holds, eqb, ltb, leb, ltb→lt, lt→ltb}
use Rattle.std.specs.Prelude.{Option, Some, None, is_none}
use Rattle.instruction.specs.Word.{pick}
use Rattle.arithmetic.specs.Arithmetic.{is_zero}
use Rattle.program.specs.Program.{Program, code_length, null_class}
use Rattle.program.specs.Tables.{program_in}
use Rattle.search.specs.Search.{below, virtual_callee, handler_for}
use Rattle.machine.specs.declared.Effect.{Effect}
use Rattle.machine.specs.declared.Effect.TheVariants.{Make, Call, Raise, RaiseNew, Fail}
use Rattle.machine.specs.declared.Fault.TheVariants.{NumberAsObject, NoMethod, NotThrowable}
use Rattle.machine.specs.declared.Value as machine
use Rattle.machine.specs.declared.Value.TheVariants.{Number, Reference}
use Rattle.machine.specs.Decide.{call_of, virtual_call, throw}
use Rattle.instruction.proofs.Flags.{pick_cases}
use Rattle.cells.specs.Cells.{value_of}
use Rattle.site.specs.declared.How.{How}
use Rattle.site.specs.declared.How.TheVariants as how
use Rattle.site.specs.Site.{a_of, b_of, c_of}
use Rattle.site.specs.Work.{nowhere}
use Rattle.turn.specs.declared.Status.{Status}
use Rattle.turn.specs.declared.Status.TheVariants as status
use Rattle.turn.specs.declared.Status.TheVariants.{Running, Raised, Uncaught, Failed}
use Rattle.turn.specs.declared.Tally.{Tally}
use Rattle.shift.specs.declared.At.{At}
use Rattle.shift.specs.declared.Run.{Run}
use Rattle.shift.specs.declared.Shift.{Shift}
use Rattle.shift.specs.declared.Stop.TheVariants as stop
use Rattle.shift.specs.Kinds.{Shifting, make_shifting, new_shifting, static_shifting, virtual_shifting, leave_shifting, throw_shifting, unwind_shifting}
use Rattle.shift.specs.Places.{top_of}
use Rattle.shift.specs.Shift.{tallied, counted, stopped, with_status, leaving, only, grown_by, shifted, pending_of, unwound_by, handled}
use Rattle.shift.specs.Shift.{unwound}
use Rattle.shift.specs.Stay.{is_leaves, is_raises, raised_class, is_open, runs_on, exits_of, others_by}
use Rattle.drive.specs.Models.{Lent, Done}
use Rattle.turns.specs.Turns as turns
use Rattle.turns.specs.Turns.{shift_in, shift_done, unwind_done, applied, executed}
use Rattle.rounds.specs.Rounds.{turns_of}

-- both of two tests that pass together
pub both : (a b : Bool) → Holds (a && b) → Holds a × Holds b
both true b t = (tt, t)
both false b t = absurd t

-- a run makes no turn, or has fewer steps left
few : (k : Run) (n : ℕ) → (0 < k.left → k.left < n) → turns_of k ≤ n
few k n h =
    pick_cases (λ i. i ≤ n) (runs_on k) (suc k.left) 0
    (λ e.
    h (ltb→lt 0 k.left (both (is_none k.stop) (ltb 0 k.left) (both (is_none k.stop && ltb 0 k.left) (is_open k.tally.status) (rw e tt)).0).1))
    (λ _. omega arith)

module _ (p : Program) (h : At) (b n : ℕ) (l : h.run.left ≤ n) where
  abbrev Few : Effect → Type 0
  Few e = turns_of (shifted p h b e).run ≤ n

  one_fewer : (u : Tally) → turns_of (counted h.run u) ≤ n
  one_fewer u = few (counted h.run u) n (λ more. omega arith)

  status_few : (e : Status) → turns_of (with_status h.run e) ≤ n
  status_few e = one_fewer (tallied h.run.tally.depth h.run.tally.made e)

  leaving_few : (last other : Status) → turns_of (leaving h.run last other) ≤ n
  leaving_few last other = few (leaving h.run last other) n (λ more. omega arith)

  grown_few : (k place to : ℕ) (e : Status) → turns_of (grown_by h k place to e).run ≤ n
  grown_few k place to e =
      pick_cases (λ (e : Shift). turns_of e.run ≤ n) (ltb h.run.tally.made 256) _ (only (stopped h.run stop.Store))
      (λ _. one_fewer (tallied h.run.tally.depth (h.run.tally.made + 1) e)) (λ _. omega arith)

  make_few : (a k : ℕ) → Few (Make a k)
  make_few a k = grown_few k (top_of h.run.tally.depth) a h.run.tally.status

  raise_few : (k : ℕ) → Few (RaiseNew k)
  raise_few k = grown_few k nowhere 16 (Raised h.run.tally.made)

  call_few : (m c : ℕ) → Few (Call m c)
  call_few m c =
      pick_cases (λ (e : Shift). turns_of e.run ≤ n) (ltb h.run.tally.depth 32) _ (only (stopped h.run stop.Stack))
      (λ _. one_fewer (tallied (h.run.tally.depth + 1) h.run.tally.made h.run.tally.status)) (λ _. omega arith)

  no_object_few : (c : Bool) → Few (pick c (RaiseNew null_class) (Fail NumberAsObject))
  no_object_few true = raise_few null_class
  no_object_few false = status_few (Failed NumberAsObject)

  callee_few : (q : Option ℕ) (c : ℕ) → Few (call_of q c)
  callee_few (Some m) c = call_few m c
  callee_few None c = status_few (Failed NoMethod)

  virtual_few : (k name count c : ℕ) (v : machine.Value) → Few (virtual_call p k name count c v)
  virtual_few k name count c (Number z) = no_object_few (is_zero z)
  virtual_few k name count c (Reference o) = callee_few (virtual_callee p k name count) c

  throw_few : (k : ℕ) (v : machine.Value) → Few (throw p k v)
  throw_few k (Number z) = no_object_few (is_zero z)
  throw_few k (Reference o) =
      pick_cases Few (below p k 1) (Raise o) (Fail NotThrowable) (λ _. status_few (Raised o)) (λ _. status_few (Failed NotThrowable))

  handled_few : (o m : ℕ) (e : Option ℕ) → turns_of (unwound_by p h o m e).run ≤ n
  handled_few o m (Some j) = status_few Running
  handled_few o m None = leaving_few (Uncaught o) (Raised o)

  unwound_few : (m a c : ℕ) → turns_of (unwound p h m a c).run ≤ n
  unwound_few m a c =
      pick_cases (λ (e : Shift). turns_of e.run ≤ n) (leb (code_length p m) a) (only (stopped h.run stop.Outside)) (handled p h m a c)
      (λ _. omega arith) (λ _. handled_few (pending_of h.run.tally.status) m (handler_for p m a c))

  others_few : turns_of (pick (ltb 0 h.run.left) (stopped h.run stop.Outside) h.run) ≤ n
  others_few =
      pick_cases (λ (k : Run). turns_of k ≤ n) (ltb 0 h.run.left) (stopped h.run stop.Outside) h.run (λ _. omega arith)
      (λ e. few h.run n (λ more. absurd (nothing e more)))
    where
      nothing : ltb 0 h.run.left ≡ false → 0 < h.run.left → ⊥
      nothing e more = rw e at (lt→ltb 0 h.run.left more)

  failed_few : (e : How) → turns_of (others_by h.run e) ≤ n
  failed_few how.Went = others_few
  failed_few how.Leaves = others_few
  failed_few (how.Raises c) = others_few
  failed_few (how.Failed e) = status_few (Failed e)

module _ (t : List ℕ) (m : Lent) (h : At) (n : ℕ) (l : h.run.left ≤ n) where
  abbrev Ends : Done Run → Type 0
  Ends d = turns_of d.result ≤ n

  shift_few : (w : Shifting) → turns_of (shift_in w t m h).run ≤ n → Ends (shift_done w t m h)
  unfolding shift_done
  shift_few w e = e

  applied_few : Ends (applied t m h)
  applied_few =
      pick_cases Ends (eqb h.opcode 13) _ _
      (λ _. shift_few static_shifting (call_few (program_in t) h (turns.below_in m h) n l (a_of h.word) (c_of h.word)))
      (λ _.
      pick_cases Ends (eqb h.opcode 12) _ _
      (λ _.
      shift_few virtual_shifting
      (virtual_few (program_in t) h (turns.below_in m h) n l (turns.class_in m h) (a_of h.word) (b_of h.word) (c_of h.word)
      (value_of (turns.value_in m h))))
      (λ _.
      pick_cases Ends (exits_of h) _ _
      (λ _. shift_few leave_shifting (leaving_few (program_in t) h 0 n l status.Done Running))
      (λ _.
      pick_cases Ends (eqb h.opcode 18) _ _
      (λ _. shift_few throw_shifting (throw_few (program_in t) h (turns.below_in m h) n l (turns.class_in m h) (value_of (turns.value_in m h))))
      (λ _. shift_few make_shifting (make_few (program_in t) h (turns.below_in m h) n l (a_of h.word) (b_of h.word))))))

  pub executed_few : turns_of (executed t m h).result ≤ n
  executed_few =
      pick_cases Ends (is_leaves h.how) _ _ (λ _. applied_few)
      (λ _.
      pick_cases Ends (is_raises h.how) _ _
      (λ _. shift_few new_shifting (raise_few (program_in t) h (turns.below_in m h) n l (raised_class h.how)))
      (λ _. failed_few (program_in t) h 0 n l h.how))

  pub unwind_few : turns_of (unwind_done t m h).result ≤ n
  unwind_few = shift_few unwind_shifting (unwound_few (program_in t) h 0 n l (turns.method_in m h) (turns.address_in m h) (turns.class_in m h))
