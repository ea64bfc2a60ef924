-- A program that stands in tables keeps to the limits, whatever their words. Assumes nothing.
use mathlib.Core.List.{List}
use Prim.Native.Nat.{ℕ, ◌≤◌, ◌<◌}
use native.Mathlib.Omega.{arith}
use lib.Dec.{ltb}
use borrow.Author.Tests.{ltb-true, ltb-false}
use Rattle.text.proofs.Cases.{by_test}
use Rattle.program.specs.Program.{code_length, handler_count}
use Rattle.program.specs.Tables.{Limited, program_in}
use Rattle.program.proofs.Read.{classes_limit, fields_limit, statics_are, methods_limit, in_code, in_handlers}

-- a count past its limit would have an element there
at_most : (n limit : ℕ) → ((i : ℕ) → i < n → i < limit) → n ≤ limit
at_most n limit in-limit =
    by_test (ltb limit n) (λ t. absurd (omega (arith, in-limit limit (ltb-true limit n t)))) (λ f. ltb-false limit n f)

pub in_limits : (ws : List ℕ) → Limited (program_in ws)
in_limits ws =
    record {
      classes = classes_limit ws;
      fields = fields_limit ws;
      statics = omega (arith, statics_are ws);
      methods = methods_limit ws;
      code = λ m. at_most (code_length (program_in ws) m) 32 (λ pc l. (in_code ws m pc l).1);
      handlers = λ m. at_most (handler_count (program_in ws) m) 8 (λ h l. (in_handlers ws m h l).1);
    }
