-- The parts of the call list, for inner functions. Definitions only.
use Rattle.std.specs.Prelude.{Bool, List, [], ◌∷◌, ℕ}
use Rattle.instruction.specs.Word.{pick}
use Rattle.program.specs.Program.{Program, method_count, code_length}
use Rattle.program.specs.Lists.{joined}
use Rattle.machine.specs.History.{Made}
use Rattle.flow.specs.Claim.{Claim}
use Rattle.flow.specs.Rules.{rules_at}
use Rattle.flow.specs.Calls.{called_by}

-- the call to method q at an address, if q is called there
abbrev pub call_if : Bool → ℕ → ℕ → ℕ → List Made
call_if called m pc q = pick called (record { caller = m; address = pc; callee = q } ∷ []) []

-- by the rules there
abbrev pub calls_to : Program → Claim → ℕ → ℕ → ℕ → List Made
calls_to p c m pc q = call_if (called_by c (rules_at p m pc) q) m pc q

-- the calls at an address; those of a method
abbrev pub address_calls : Program → Claim → ℕ → ℕ → List Made
address_calls p c m pc = joined (method_count p) (calls_to p c m pc)

abbrev pub method_calls : Program → Claim → ℕ → List Made
method_calls p c m = joined (code_length p m) (address_calls p c m)
