-- The call list is in rising order, so that each call stands in it once, and it holds only callees of rule 6. Assumes nothing.
use mathlib.Core.Path.{◌≡◌, refl}
use mathlib.Core.Bool.{true}
use mathlib.Core.List.{List, [], ◌∷◌, ◌++◌}
use Prim.Native.Nat.{ℕ, zero, suc, ◌<◌}
use native.Mathlib.Omega.{arith}
use Rattle.instruction.specs.Word.{pick}
use Rattle.program.specs.Program.{Program, method_count, code_length}
use Rattle.program.specs.Lists.{Every, joined}
use Rattle.program.proofs.Every.{every_append, every_joined, every_map, every_swap}
use Rattle.machine.specs.History.{Made}
use Rattle.instruction.proofs.Flags.{pick_cases}
use Rattle.flow.specs.Claim.{Claim}
use Rattle.flow.specs.Rules.{rules_at}
use Rattle.flow.specs.Verdict.{by_first, by_second, by_third}
use Rattle.flow.specs.Calls.{called_by, call_list, Earlier, Ordered, CalledIn}
use Rattle.flow.proofs.Callees.{called_call}

-- every call of one list comes before every call of the other
abbrev Apart : List Made → List Made → Type 0
Apart xs ys = Every (λ x. Every (Earlier x) ys) xs

apart : (P Q : Made → Type 0) → ((x y : Made) → P x → Q y → Earlier x y) → (xs ys : List Made) → Every P xs → Every Q ys → Apart xs ys
apart P Q before xs ys h k =
    every_map P (λ x. Every (Earlier x) ys) (λ x hx. every_map Q (Earlier x) (λ y. before x y hx) ys k) xs h

ordered_append : (xs ys : List Made) → Ordered xs → Ordered ys → Apart xs ys → Ordered (xs ++ ys)
ordered_append [] ys h k a = k
ordered_append (x ∷ xs) ys h k a = (every_append (Earlier x) xs ys h.0 a.0, ordered_append xs ys h.1 k a.1)

ordered_joined : (n : ℕ) (g : ℕ → List Made) → ((i : ℕ) → i < n → Ordered (g i)) → ((i j : ℕ) → i < j → Apart (g i) (g j)) → Ordered (joined n g)
ordered_joined zero g h a = tt
ordered_joined (suc n) g h a =
    ordered_append (g zero) (joined n (λ i. g (suc i))) (h zero (omega arith))
    (ordered_joined n (λ i. g (suc i)) (λ i l. h (suc i) (omega arith)) (λ i j l. a (suc i) (suc j) (omega arith)))
    (every_map _ (λ x. Every (Earlier x) (joined n (λ i. g (suc i))))
    (λ x later. every_joined (Earlier x) n (λ i. g (suc i)) later) (g zero)
    (every_swap (λ i x. Every (Earlier x) (g (suc i))) n (g zero) (λ i l. a zero (suc i) (omega arith))))

module _ (p : Program) (c : Claim) where
  -- the calls of one callee at an address, of an address, of a method
  abbrev called_at : ℕ → ℕ → ℕ → List Made
  called_at m pc q = pick (called_by c (rules_at p m pc) q) (record { caller = m; address = pc; callee = q } ∷ []) []

  abbrev at_address : ℕ → ℕ → List Made
  at_address m pc = joined (method_count p) (called_at m pc)

  abbrev in_method : ℕ → List Made
  in_method m = joined (code_length p m) (at_address m)

  called_every : (m pc q : ℕ) (P : Made → Type 0)
      → (called_by c (rules_at p m pc) q ≡ true → P (record { caller = m; address = pc; callee = q })) → Every P (called_at m pc q)
  called_every m pc q P h =
      pick_cases (Every P) (called_by c (rules_at p m pc) q) (record { caller = m; address = pc; callee = q } ∷ []) []
      (λ t. (h t, tt)) (λ _. tt)

  -- the calls of a method have it as their caller, those of an address have that address
  method_every : (m : ℕ) → Every (λ x. x.caller ≡ m) (in_method m)
  method_every m =
      every_joined _ (code_length p m) (at_address m)
      (λ pc _. every_joined _ (method_count p) (called_at m pc) (λ q _. called_every m pc q _ (λ _. refl)))

  address_every : (m pc : ℕ) → Every (λ x. (x.caller ≡ m) × (x.address ≡ pc)) (at_address m pc)
  address_every m pc =
      every_joined _ (method_count p) (called_at m pc) (λ q _. called_every m pc q _ (λ _. (refl, refl)))

  called_ordered : (m pc q : ℕ) → Ordered (called_at m pc q)
  called_ordered m pc q = pick_cases Ordered (called_by c (rules_at p m pc) q) _ _ (λ _. (tt, tt)) (λ _. tt)

  address_ordered : (m pc : ℕ) → Ordered (at_address m pc)
  address_ordered m pc =
      ordered_joined (method_count p) (called_at m pc) (λ q _. called_ordered m pc q)
      (λ q q' l.
      called_every m pc q _
      (λ _. called_every m pc q' _ (λ _. by_third refl refl l)))

  method_ordered : (m : ℕ) → Ordered (in_method m)
  method_ordered m =
      ordered_joined (code_length p m) (at_address m) (λ pc _. address_ordered m pc)
      (λ pc pc' l.
      apart _ _ (λ x y h k. by_second (cc) (omega (arith, h.1, k.1))) (at_address m pc) (at_address m pc') (address_every m pc) (address_every m pc'))

  -- "in rising order, once each"
  pub list_ordered : Ordered (call_list p c)
  unfolding call_list
  list_ordered =
      ordered_joined (method_count p) in_method (λ m _. method_ordered m)
      (λ m m' l. apart _ _ (λ x y h k. by_first (omega (arith, h, k))) (in_method m) (in_method m') (method_every m) (method_every m'))

  -- callees, and nothing else
  pub list_called : Every (CalledIn p c) (call_list p c)
  unfolding call_list
  list_called =
      every_joined (CalledIn p c) (method_count p) in_method
      (λ m l.
      every_joined (CalledIn p c) (code_length p m) (at_address m)
      (λ pc k.
      every_joined (CalledIn p c) (method_count p) (called_at m pc)
      (λ q j. called_every m pc q (CalledIn p c) (λ t. record { caller_in = l; address_in = k; callee_in = j; called = called_call p c m pc q t }))))
