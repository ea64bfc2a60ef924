-- The number of the first broken rule of a list. Definitions only, and none that a reader of the public promise has to believe.
use Rattle.std.specs.Prelude.{Bool, not, ◌&&◌, ◌||◌, List, [], ◌∷◌, ℕ, suc, eqb, Option, None, Some}
use Rattle.instruction.specs.Word.{pick}
use Rattle.mask.specs.declared.Mask.{Mask}
use Rattle.mask.specs.Mask.{has, every}
use Rattle.program.specs.Program.{Program, class_count, code_length}
use Rattle.search.specs.Search.{virtual_callee}
use Rattle.flow.specs.Claim.{leaving, Claim}
use Rattle.flow.specs.Flows.{is_found, kept}
use Rattle.flow.specs.Rules.{Rule, initial_memory, entry, onward_except, receiver_into, returned_into, own, into_handler, into_leaving, rules_at}
use Rattle.flow.specs.Verdict.{Verdict, accepted, violated, first_of, verdict_of}
use Rattle.sets.specs.Sets.{leads_to}
use Rattle.carry.specs.Carried.{arguments_from}
use Rattle.rules.specs.declared.Broken.{Broken}

abbrev pub broken_in : Claim → List Rule → Option ℕ
broken_in c [] = None
broken_in c (r ∷ rs) = pick (kept c r.flows) (broken_in c rs) (Some r.number)

-- the rules of an instruction that writes register a, where rule 4's test and the later rules came out so
abbrev pub written : Program → Claim → ℕ → ℕ → ℕ → Bool → Option ℕ → Option ℕ
written p c m pc a ok later = pick (kept c (onward_except p m pc a (suc pc))) (pick ok later (Some 4)) (Some 2)

-- rules 0 and 1 at address 0 of a method, where the later ones came out so
abbrev pub at_entry : Program → Claim → ℕ → Option ℕ → Option ℕ
at_entry p c m later =
    pick (not (eqb m 0) || kept c (initial_memory p)) (pick (kept c (entry p m)) later (Some 1)) (Some 0)

-- a test of each class in the mask
abbrev pub each_in : Program → Mask → (ℕ → Bool) → Bool
each_in p mask test = every (class_count p) (λ k. not (has mask k) || test k)

-- rules 9 and 10 of the classes in the mask
unfoldable pub raised_rule : Program → Claim → ℕ → ℕ → Mask → Option ℕ
raised_rule p c m pc mask =
    pick (each_in p mask (λ k. kept c (into_handler p m pc k)))
    (pick (each_in p mask (λ k. kept c (into_leaving p m pc k))) None (Some 10))
    (Some 9)

-- rules 9 and 10 of a class that an instruction raises itself, where it may
abbrev pub own_rule : Program → Claim → ℕ → ℕ → Bool → ℕ → Option ℕ
own_rule p c m pc may k =
    pick (not may || kept c (own p m pc k (into_handler p m pc)))
    (pick (not may || kept c (own p m pc k (into_leaving p m pc))) None (Some 10))
    (Some 9)

-- rule 6 of method q, if a class in the receiver's mask leads to it: each class that does is in its first parameter, and the other
-- arguments flow
unfoldable pub callee_given : Program → Claim → ℕ → ℕ → Mask → ℕ → ℕ → ℕ → ℕ → Bool
callee_given p c m pc mask name count r q =
    not (leads_to p mask name count q)
    || (every (class_count p) (λ k. not (has mask k && is_found (virtual_callee p k name count) q) || kept c (receiver_into p m pc k q))
    && kept c (arguments_from p m pc q 1 count r))

-- rule 7
unfoldable pub callee_returned : Program → Claim → ℕ → ℕ → Mask → ℕ → ℕ → ℕ → Bool
callee_returned p c m pc mask name count q = not (leads_to p mask name count q) || kept c (returned_into p m pc q)

-- class k leaves method q, if a class in the receiver's mask leads there
unfoldable pub leaves_callee : Program → Claim → Mask → ℕ → ℕ → ℕ → ℕ → Bool
leaves_callee p c mask name count k q = leads_to p mask name count q && has (c (leaving q)) k

-- the verdict at an address, and of a method
abbrev pub address_verdict : Program → Claim → ℕ → ℕ → Verdict
address_verdict p c m pc = verdict_of c m pc (rules_at p m pc)

abbrev pub method_verdict : Program → Claim → ℕ → Verdict
method_verdict p c m = first_of (code_length p m) (address_verdict p c m)

-- the rule and place of a verdict, where a rule is broken
abbrev pub broken_of : Verdict → Option Broken
broken_of accepted = None
broken_of (violated rule method address) = Some (record { rule = rule; method = method; address = address })
