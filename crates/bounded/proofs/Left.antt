-- What holds of the answer of at most n steps, by one induction; no other answer has it. Assumes nothing.
use mathlib.Core.Path.{◌≡◌, refl, sym, ap, subst, ◌∙◌}
use mathlib.Core.Logic.{◌⊎◌, inl, inr}
use mathlib.Core.Option.{Option, none, some, some-injective, some-ne-none}
use Prim.Native.Nat.{ℕ, zero, suc, ◌+◌, min, ◌≤◌, ◌<◌}
use native.Mathlib.Nat.{eq-or-lt_of_le, zero-add}
use native.Mathlib.Omega.{arith}
use Rattle.program.specs.Program.{Program}
use Rattle.machine.specs.Run.{step, run}
use Rattle.machine.proofs.Continues.{Ended}
use Rattle.turn.specs.declared.Halt.{Halt}
use Rattle.turn.specs.declared.Halt.TheVariants.{StepsMade}
use Rattle.turn.specs.Stop.{stop_of}
use Rattle.bounded.specs.Bounded.{Stopped, at_limit, continued, steps, bounded}
use Rattle.bounded.proofs.Stops.{Says, Kept, stop_says, step_kept, limit_says, ended_stops, limit_open}

-- no step of the first k is stopped
abbrev Free : Program → ℕ → Type 0
Free p k = (i : ℕ) → i < k → stop_of p (run p i) ≡ none

-- what holds of the answer of at most n steps from the start
pub record Left (p : Program) (n : ℕ) (x : Stopped) : Type 0 where
  -- "the count belongs to the state left"
  pub state : x.state ≡ run p x.count
  pub most : x.count ≤ n
  pub free : (i : ℕ) → i < x.count → stop_of p (run p i) ≡ none
  -- at n steps the answer is by the status alone; before, it is what stops the next step
  pub limit : x.count ≡ n → x.halt ≡ at_limit x.state.status
  pub stop : x.count < n → stop_of p x.state ≡ some x.halt

module _ (p : Program) where
  free_more : (k : ℕ) → Free p k → stop_of p (run p k) ≡ none → Free p (suc k)
  free_more k free e i l = by (eq-or-lt_of_le {n = i} {m = k} (omega arith))
    where
      by : (i ≡ k) ⊎ (i < k) → stop_of p (run p i) ≡ none
      by (inl h) = rw h e
      by (inr h) = free i h

  left_turn : (n k : ℕ) (o : Option Halt) (onward : Stopped) → Free p k → stop_of p (run p k) ≡ o → (Free p (suc k) → Left p (suc k + n) onward) → Left p (k + suc n) (continued o k (run p k) onward)
  left_turn n k none onward free e more = subst (λ m. Left p m onward) (omega arith) (more (free_more k free e))
  left_turn n k (some h) onward free e more =
      record { state = refl; most = omega arith; free = free; limit = λ l. absurd (omega arith); stop = λ _. e }

  left : (n k : ℕ) → Free p k → Left p (k + n) (steps p n k (run p k))
  unfolding steps run
  left zero k free =
      record { state = refl; most = omega arith; free = free; limit = λ _. refl; stop = λ l. absurd (omega arith) }
  left (suc n) k free = left_turn n k (stop_of p (run p k)) (steps p n (suc k) (step p (run p k))) free refl (left n (suc k))

  kept : (k : ℕ) → Free p k → Kept (run p k)
  unfolding run
  kept zero free = omega arith
  kept (suc k) free = step_kept p 0 0 (run p k) (free k (omega arith)) (kept k (λ i l. free i (omega arith)))

  module _ (n : ℕ) (x : Stopped) (l : Left p n x) where
    says_by : (x.count ≡ n) ⊎ (x.count < n) → Says p n x.count x.state x.halt
    says_by (inl e) = rw (l.limit e, e) (limit_says p n x.state)
    says_by (inr e) = stop_says p n x.count x.state x.halt (l.stop e)

    pub left_says : Says p n x.count x.state x.halt
    left_says = says_by (eq-or-lt_of_le l.most)

    pub left_kept : Kept x.state
    left_kept = rw l.state (kept x.count l.free)

    ended_by_lem : Ended x.state.status → (x.count ≡ n) ⊎ (x.count < n) → x.halt ≡ at_limit x.state.status
    ended_by_lem end (inl e) = l.limit e
    ended_by_lem end (inr e) =
        some-injective x.halt (at_limit x.state.status) (sym (l.stop e) ∙ ended_stops p x.state end)

    -- an end is told
    pub left_ended : Ended x.state.status → x.halt ≡ at_limit x.state.status
    left_ended end = ended_by_lem end (eq-or-lt_of_le l.most)

    -- an answer other than 22 is one of more steps too
    pub more_left : (m : ℕ) → n ≤ m → ¬ (x.halt ≡ StepsMade) → Left p m x
    more_left m h other =
        record {
          state = l.state;
          most = omega (arith, l.most);
          free = l.free;
          limit = λ e. l.limit (omega (arith, l.most));
          stop = λ e. go e (eq-or-lt_of_le l.most);
        }
      where
        go : x.count < m → (x.count ≡ n) ⊎ (x.count < n) → stop_of p x.state ≡ some x.halt
        go e (inl c) =
            ended_stops p x.state (limit_open x.state.status (λ d. other (l.limit c ∙ d))) ∙ ap some (sym (l.limit c))
        go e (inr c) = l.stop c

    -- two answers: neither stops earlier
    not_earlier : (y : Stopped) → Left p n y → ¬ (x.count < y.count)
    not_earlier y m c =
        some-ne-none x.halt
        (sym (l.stop (omega (arith, m.most))) ∙ ap (stop_of p) l.state ∙ m.free x.count c)

  module _ (n : ℕ) (x y : Stopped) (l : Left p n x) (m : Left p n y) where
    same_count : x.count ≡ y.count
    same_count = omega (arith, not_earlier n x l y m, not_earlier n y m x l)

    same_state : x.state ≡ y.state
    same_state = l.state ∙ ap (run p) same_count ∙ sym m.state

    same_halt : (x.count ≡ n) ⊎ (x.count < n) → x.halt ≡ y.halt
    same_halt (inl e) = l.limit e ∙ ap (λ s. at_limit s.status) same_state ∙ sym (m.limit (sym same_count ∙ e))
    same_halt (inr e) =
        some-injective x.halt y.halt
        (sym (l.stop e) ∙ ap (stop_of p) same_state ∙ m.stop (rw same_count at e))

    -- only one answer keeps the laws
    pub only : x ≡ y
    only = λ i. record { halt = same_halt (eq-or-lt_of_le l.most) i; count = same_count i; state = same_state i }

-- the stepper's answer
pub bounded_left : (p : Program) (n : ℕ) → Left p (min n 1000000) (bounded p n)
unfolding bounded run
bounded_left p n = rw zero-add at (left p (min n 1000000) 0 (λ i l. absurd (omega arith)))
