-- The call list of a program under a claim. Definitions only.
use Rattle.std.specs.Prelude.{◌≡◌, Bool, true, false, ◌&&◌, ◌||◌, List, [], ◌∷◌, ℕ, ◌<◌, eqb, Some}
use Rattle.instruction.specs.Word.{pick}
use Rattle.instruction.specs.declared.Instruction.TheVariants.{InvokeVirtual, InvokeStatic}
use Rattle.mask.specs.Mask.{has}
use Rattle.program.specs.Program.{Program, class_count, method_count, code_length, instruction_at}
use Rattle.program.specs.Lists.{joined, Every}
use Rattle.search.specs.Search.{virtual_callee}
use Rattle.machine.specs.History.{Made}
use Rattle.flow.specs.Claim.{register_at, Claim}
use Rattle.flow.specs.Flows.{names}
use Rattle.flow.specs.Rules.{Rule, rules_at}
use Rattle.flow.specs.Verdict.{Before}

-- "the callees of rule 6, arguments or not": method q is one of them
abbrev pub called_by : Claim → List Rule → ℕ → Bool
called_by c [] q = false
called_by c (r ∷ rs) q = (eqb r.number 6 && names c r.flows q) || called_by c rs q

-- "(caller, address, callee) in rising order, once each"
unfoldable pub call_list : Program → Claim → List Made
call_list p c =
    joined (method_count p)
    (λ m. joined (code_length p m)
    (λ pc. joined (method_count p)
    (λ q. pick (called_by c (rules_at p m pc) q) (record { caller = m; address = pc; callee = q } ∷ []) [])))

-- one call comes before another: by caller, address, callee
abbrev pub Earlier : Made → Made → Type 0
Earlier x y = Before x.caller x.address x.callee y.caller y.address y.callee

-- a list in rising order: no call stands in it twice
abbrev pub Ordered : List Made → Type 0
Ordered [] = Unit {0}
Ordered (x ∷ xs) = Every (Earlier x) xs × Ordered xs

-- method q is a callee of the instruction at address pc of method m: a static call's method, or the one that a class in the
-- receiver's mask leads to
pub data CallAt (p : Program) (c : Claim) (m pc q : ℕ) : Type 0 where
  by_static : (b r : ℕ) → instruction_at p m pc ≡ InvokeStatic q b r → CallAt p c m pc q
  by_virtual : (n b r k : ℕ) → instruction_at p m pc ≡ InvokeVirtual n b r → k < class_count p
      → has (c (register_at m pc r)) k ≡ true → virtual_callee p k n b ≡ Some q → CallAt p c m pc q

-- a call at an address of the program to a callee there
pub record CalledIn (p : Program) (c : Claim) (made : Made) : Type 0 where
  pub caller_in : made.caller < method_count p
  pub address_in : made.address < code_length p made.caller
  pub callee_in : made.callee < method_count p
  pub called : CallAt p c made.caller made.address made.callee
