-- A callee of the instruction at an address stands in the call list. Assumes nothing.
use mathlib.Core.Path.{refl}
use mathlib.Core.List.Memᴰ
use mathlib.Core.List.{List, Memᴰ}
use Prim.Native.Nat.{ℕ, zero, suc, ◌<◌}
use native.Mathlib.Nat.{not-suc-le-zero, le_of_suc-le-suc}
use Rattle.program.specs.Program.{Program, method_count, code_length}
use Rattle.program.specs.Lists.{joined}
use Rattle.machine.specs.History.{Made}
use Rattle.flow.specs.Claim.{Claim}
use Rattle.flow.specs.Calls.{call_list, CalledIn, CallAt}
use Rattle.flow.proofs.Callees.{call_called}

-- an element of one of the lists that are put together
joined_has : {A : Type 0} {x : A} (n : ℕ) (g : ℕ → List A) (i : ℕ) → i < n → Memᴰ x (g i) → Memᴰ x (joined n g)
joined_has zero g i l m = absurd (not-suc-le-zero l)
joined_has (suc n) g zero l m = Memᴰ.append_left (joined n (λ k. g (suc k))) m
joined_has (suc n) g (suc i) l m = Memᴰ.append_right (g zero) (joined_has n (λ k. g (suc k)) i (le_of_suc-le-suc l) m)

module _ (p : Program) (c : Claim) where
  -- every callee of rule 6 stands in the list
  pub in_list : (made : Made) → CalledIn p c made → Memᴰ made (call_list p c)
  unfolding call_list
  in_list made h =
      joined_has (method_count p) _ made.caller h.caller_in
      (joined_has (code_length p made.caller) _ made.address h.address_in
      (joined_has (method_count p) _ made.callee h.callee_in (rw (call_called p c made.caller made.address made.callee h.called) (Memᴰ.head refl))))

  pub listed : (m pc q : ℕ) → m < method_count p → pc < code_length p m → q < method_count p → CallAt p c m pc q
      → Memᴰ (record { caller = m; address = pc; callee = q }) (call_list p c)
  listed m pc q l k j at =
      in_list (record { caller = m; address = pc; callee = q })
      (record { caller_in = l; address_in = k; callee_in = j; called = at })
