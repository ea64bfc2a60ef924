-- What transfer functions promise one another: what is written, and what a call does to one callee. Definitions only, and none that a
-- reader of the public promise has to believe.
use Rattle.std.specs.Prelude.{◌≡◌, Bool, true, ◌&&◌, ℕ, suc, ◌<◌, ltb}
use Rattle.instruction.specs.declared.Instruction.{Instruction}
use Rattle.instruction.specs.Test.{Holds as TestHolds}
use Rattle.instruction.specs.Word.{falls_through}
use Rattle.operands.specs.Names.{named}
use Rattle.mask.specs.declared.Mask.{Mask}
use Rattle.mask.specs.Mask.{has}
use Rattle.program.specs.Program.{Program, class_count, method_count, registers, code_length}
use Rattle.search.specs.Search.{virtual_callee}
use Rattle.values.specs.Values.{limits_of, call_test}
use Rattle.reader.specs.Formed.{Formed}
use Rattle.flow.specs.Claim.{Slot, Claim}
use Rattle.flow.specs.Flows.{Flows, ◌&◌, each, when, is_found, Holds}
use Rattle.flow.specs.Rules.{writes, receiver_into, returned_into, leaving_classes, into_handler, into_leaving}
use Rattle.carry.specs.Carried.{arguments_from}
use Rattle.order.specs.Order.{Below}
use Rattle.order.specs.Raised.{Goes, Raised, nothing, all_of}

-- an instruction that may stand at address pc of method m of a well-formed program
pub record Ready (p : Program) (m pc : ℕ) (i : Instruction) : Type 0 where
  pub formed : Formed p
  pub method : m < method_count p
  pub names : TestHolds (named (limits_of p m) i)
  pub calls : TestHolds (call_test p i)
  pub next : falls_through i ≡ true → suc pc < code_length p m

-- of claim c, flows ask for the bits of a mask in one slot, and for no others
pub record Gives (c : Claim) (f : Flows) (s : Slot) (m : Mask) : Type 0 where
  pub asked : (d : Claim) → ((k : ℕ) → has m k ≡ true → has (d s) k ≡ true) → Goes c d f
  pub least : (e : Claim) → Holds e f → Below c e → (k : ℕ) → has m k ≡ true → has (e s) k ≡ true

-- rules 2 and 4 of an instruction that writes register a are met
abbrev pub Writes : Program → ℕ → ℕ → ℕ → Flows → Claim → Claim → Type 0
Writes p m pc a f c d =
    Formed p → m < method_count p → suc pc < code_length p m → a < registers p m → Raised (all_of (writes p m pc a f)) c d

-- rules 9 and 10 of what is raised, by what is asked of each class
abbrev pub raised_rules : Program → ℕ → ℕ → ((ℕ → Flows) → Flows) → Flows
raised_rules p m pc asks = asks (into_handler p m pc) & asks (into_leaving p m pc) & nothing

-- rules 7, 9 and 10 of a callee
abbrev pub from_callee : Program → ℕ → ℕ → ℕ → Flows
from_callee p m pc q = returned_into p m pc q & leaving_classes p m pc q (into_handler p m pc) & leaving_classes p m pc q (into_leaving p m pc)

-- rules 6, 7, 9 and 10 of a virtual call of method q by class k; by the classes that pass a test
abbrev pub called_as : Program → ℕ → ℕ → ℕ → ℕ → ℕ → ℕ → Flows
called_as p m pc count register q k =
    receiver_into p m pc k q & arguments_from p m pc q 1 count register & from_callee p m pc q

abbrev pub called_by : Program → ℕ → ℕ → (ℕ → Bool) → ℕ → ℕ → ℕ → Flows
called_by p m pc test count register q = each 64 (λ k. when (test k) (called_as p m pc count register q k))

-- class k of the program is in a mask and leads to method q; the call of q by those classes
abbrev pub leading_class : Program → Mask → ℕ → ℕ → ℕ → ℕ → Bool
leading_class p mask name count q k = ltb k (class_count p) && (has mask k && is_found (virtual_callee p k name count) q)

abbrev pub called_from : Program → ℕ → ℕ → Mask → ℕ → ℕ → ℕ → ℕ → Flows
called_from p m pc mask name count register q = called_by p m pc (leading_class p mask name count q) count register q
