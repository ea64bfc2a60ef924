-- The callees that the rules numbered 6 name at an address are those of the instruction there. Assumes nothing.
use mathlib.Core.Path.{◌≡◌, refl, sym, subst}
use mathlib.Core.Bool.{Bool, true, false, false≢true, ◌&&◌, ◌||◌}
use Prim.Native.Nat.{ℕ, zero, suc, ◌<◌}
use native.Mathlib.Nat.{not-suc-le-zero, le_of_suc-le-suc}
use native.Mathlib.Omega.{arith}
use lib.Dec.{eqb}
use borrow.Author.Tests.{eqb-true, eq-eqb}
use Rattle.std.specs.Prelude.{Option, Some, None}
use Rattle.instruction.specs.declared.Instruction.{Instruction}
use Rattle.instruction.specs.declared.Instruction.TheVariants.{Nop, Move, Const, Goto, If, IfZero, Binop, Unop, NewInstance, Iget, Iput, Sget, Sput, InvokeVirtual, InvokeStatic, MoveResult, MoveException, Return, ReturnVoid, Throw, InstanceOf, CheckCast}
use Rattle.instruction.proofs.Flags.{both_true, or_right}
use Rattle.mask.specs.Mask.{has}
use Rattle.program.specs.Program.{Program, class_count, instruction_at}
use Rattle.search.specs.Search.{virtual_callee}
use Rattle.flow.specs.Claim.{register_at, Claim}
use Rattle.flow.specs.Flows.{some, is_found}
use Rattle.flow.specs.Rules.{rules_of, rules_at}
use Rattle.flow.specs.Calls.{called_by, CallAt, by_static, by_virtual}

-- ---- a test that passes at one of 0, 1, .., n - 1
pub some_at : (n : ℕ) (test : ℕ → Bool) (i : ℕ) → i < n → test i ≡ true → some n test ≡ true
some_at zero test i l e = absurd (not-suc-le-zero l)
some_at (suc n) test zero l e = rw e
some_at (suc n) test (suc i) l e = or_right (test zero) _ (some_at n (λ k. test (suc k)) i (le_of_suc-le-suc l) e)

pub or_cases : {P : Type 0} (a b : Bool) → (a ≡ true → P) → (b ≡ true → P) → a || b ≡ true → P
or_cases true b h k e = h refl
or_cases false b h k e = k e

pub some_one : (n : ℕ) (test : ℕ → Bool) → some n test ≡ true → (i : ℕ) × (i < n) × (test i ≡ true)
some_one zero test e = absurd (false≢true e)
some_one (suc n) test e =
    or_cases (test zero) (some n (λ k. test (suc k))) (λ h. (zero, omega arith, h))
    (λ h.
    let (i, l, t) = some_one n (λ k. test (suc k)) h in
    (suc i, omega arith, t))
    e

pub found_is : (r : Option ℕ) (q : ℕ) → is_found r q ≡ true → r ≡ Some q
found_is (Some m) q e = rw (eqb-true m q e)
found_is None q e = absurd (false≢true e)

pub is_found_lem : (r : Option ℕ) (q : ℕ) → r ≡ Some q → is_found r q ≡ true
is_found_lem r q f = rw (f, eq-eqb q q refl)

module _ (p : Program) (c : Claim) (m pc q : ℕ) where
  -- class k in the receiver leads to q
  abbrev leads : ℕ → ℕ → ℕ → ℕ → Bool
  leads n b r k = has (c (register_at m pc r)) k && is_found (virtual_callee p k n b) q

  pub call_called : CallAt p c m pc q → called_by c (rules_at p m pc) q ≡ true
  call_called (by_static b r e) =
      subst (λ (i : Instruction). called_by c (rules_of p m pc i) q ≡ true) (sym e) (rw (eq-eqb q q refl))
  call_called (by_virtual n b r k e l h found) =
      let one : leads n b r k ≡ true = rw (h, found, eq-eqb q q refl) in
      subst (λ (i : Instruction). called_by c (rules_of p m pc i) q ≡ true) (sym e) (rw (some_at (class_count p) (leads n b r) k l one))

  virtual_call_lem : (n b r : ℕ) → instruction_at p m pc ≡ InvokeVirtual n b r → some (class_count p) (leads n b r) ≡ true → CallAt p c m pc q
  virtual_call_lem n b r i e =
      let (k, l, t) = some_one (class_count p) (leads n b r) e in
      let h = both_true (has (c (register_at m pc r)) k) (is_found (virtual_callee p k n b) q) t in
      by_virtual n b r k i l h.0 (found_is (virtual_callee p k n b) q h.1)

  named_call : (i : Instruction) → instruction_at p m pc ≡ i → called_by c (rules_of p m pc i) q ≡ true → CallAt p c m pc q
  named_call Nop i e = absurd (false≢true e)
  named_call (Move a b) i e = absurd (false≢true e)
  named_call (Const a d) i e = absurd (false≢true e)
  named_call (Goto d) i e = absurd (false≢true e)
  named_call (If o a b d) i e = absurd (false≢true e)
  named_call (IfZero o a d) i e = absurd (false≢true e)
  named_call (Binop o a b d) i e = absurd (false≢true e)
  named_call (Unop o a b) i e = absurd (false≢true e)
  named_call (NewInstance a k) i e = absurd (false≢true e)
  named_call (Iget a b x) i e = absurd (false≢true e)
  named_call (Iput a b x) i e = absurd (false≢true e)
  named_call (Sget a x) i e = absurd (false≢true e)
  named_call (Sput a x) i e = absurd (false≢true e)
  named_call (InvokeVirtual n b r) i e =
      or_cases (some (class_count p) (leads n b r)) false (virtual_call_lem n b r i) (λ f. absurd (false≢true f)) e
  named_call (InvokeStatic a b r) i e =
      or_cases (eqb a q) false (λ t. by_static b r (rw (← (eqb-true a q t)) i)) (λ f. absurd (false≢true f)) e
  named_call (MoveResult a) i e = absurd (false≢true e)
  named_call (MoveException a) i e = absurd (false≢true e)
  named_call (Return a) i e = absurd (false≢true e)
  named_call ReturnVoid i e = absurd (false≢true e)
  named_call (Throw a) i e = absurd (false≢true e)
  named_call (InstanceOf a b k) i e = absurd (false≢true e)
  named_call (CheckCast a k) i e = absurd (false≢true e)

  pub called_call : called_by c (rules_at p m pc) q ≡ true → CallAt p c m pc q
  called_call = named_call (instruction_at p m pc) refl
