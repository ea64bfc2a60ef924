-- How long the parts of the call list are at most. Assumes nothing.
use mathlib.Core.Bool.{Bool, true, false}
use Prim.Native.Nat.{ℕ, ◌*◌, ◌≤◌}
use native.Mathlib.Omega.{arith}
use lib.ListN.{length}
use Rattle.program.specs.Lists.{joined}
use Rattle.program.specs.Program.{Program, method_count, code_length}
use Rattle.program.proofs.Joined.{joined_short}
use Rattle.flow.specs.Claim.{Claim}
use Rattle.flow.specs.Rules.{rules_at}
use Rattle.flow.specs.Calls.{called_by}
use Rattle.calls.specs.Inside.{call_if, calls_to, address_calls, method_calls}

-- ---- the parts of the call list
call_short : (called : Bool) (m pc q : ℕ) → length (call_if called m pc q) ≤ 1
call_short true m pc q = omega arith
call_short false m pc q = omega arith

-- the calls to the first k methods
pub callees_short : (p : Program) (c : Claim) (m pc k : ℕ) → length (joined k (calls_to p c m pc)) ≤ k * 1
callees_short p c m pc k = joined_short k 1 (calls_to p c m pc) (λ q l. call_short (called_by c (rules_at p m pc) q) m pc q)

module _ (p : Program) (c : Claim) (methods : method_count p ≤ 16) where
  address_short : (m pc : ℕ) → length (address_calls p c m pc) ≤ 16
  address_short m pc = omega (arith, callees_short p c m pc (method_count p))

  -- the calls at the first k addresses of a method
  pub addresses_short : (m k : ℕ) → length (joined k (address_calls p c m)) ≤ k * 16
  addresses_short m k = joined_short k 16 (address_calls p c m) (λ pc l. address_short m pc)

  module _ (code : (m : ℕ) → code_length p m ≤ 32) where
    method_short : (m : ℕ) → length (method_calls p c m) ≤ 512
    method_short m = omega (arith, addresses_short m (code_length p m), code m)

    -- the calls of the first k methods
    pub methods_short : (k : ℕ) → length (joined k (method_calls p c)) ≤ k * 512
    methods_short k = joined_short k 512 (method_calls p c) (λ m l. method_short m)
