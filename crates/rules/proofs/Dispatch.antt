-- One method of a virtual call, by the classes in the receiver's mask that lead to it. Assumes nothing.
use mathlib.Core.Path.{◌≡◌, sym, ap, ◌∙◌}
use mathlib.Core.Bool.{Bool, true, false, not, ◌&&◌, ◌||◌}
use Prim.Native.Nat.{ℕ}
use lib.Dec.{ltb}
use Rattle.mask.specs.declared.Mask.{Mask}
use Rattle.mask.specs.Mask.{has, is_empty, subset}
use Rattle.mask.proofs.Laws.{every_same}
use Rattle.mask.proofs.Sets.{and_end, or_end}
use Rattle.program.specs.Program.{Program, class_count}
use Rattle.flow.specs.Claim.{leaving, Claim}
use Rattle.flow.specs.Flows.{kept}
use Rattle.flow.specs.Rules.{receiver_into, returned_into}
use Rattle.sets.specs.Sets.{leads_to}
use Rattle.sets.proofs.Receivers.{to, set_within, not_empty_leads}
use Rattle.carry.specs.Carried.{arguments_from}
use Rattle.rules.specs.Broken.{callee_given, callee_returned, leaves_callee}

module _ (p : Program) (c : Claim) (m pc : ℕ) (mask : Mask) (name count q : ℕ) (r : Mask)
    (bits : (k : ℕ) → has r k ≡ ltb k (class_count p) && to p mask name count q k) where
  -- no class leads there
  module _ (none : is_empty r ≡ true) where
    no_lead : leads_to p mask name count q ≡ false
    no_lead = sym (not_empty_leads p mask name count q r bits) ∙ ap not none

    pub none_given : (register : ℕ) (t : Bool) → t ≡ t && callee_given p c m pc mask name count register q
    unfolding callee_given
    none_given register t = rw no_lead (sym (and_end t))

    pub none_returned : (t : Bool) → t ≡ t && callee_returned p c m pc mask name count q
    unfolding callee_returned
    none_returned t = rw no_lead (sym (and_end t))

    pub none_leaves : (k : ℕ) (t : Bool) → t ≡ t || leaves_callee p c mask name count k q
    unfolding leaves_callee
    none_leaves k t = rw no_lead (sym (or_end t))

  -- a class does
  module _ (one : is_empty r ≡ false) where
    a_lead : leads_to p mask name count q ≡ true
    a_lead = sym (not_empty_leads p mask name count q r bits) ∙ ap not one

    pub one_given : (register : ℕ) (into : Mask) → ((k : ℕ) → has into k ≡ kept c (receiver_into p m pc k q)) → (a b : Bool) → a ≡ subset r into
        → b ≡ kept c (arguments_from p m pc q 1 count register) → a && b ≡ callee_given p c m pc mask name count register q
    unfolding callee_given
    one_given register into same a b e f =
        rw (a_lead, e, f)
        (ap (λ (t : Bool). t && kept c (arguments_from p m pc q 1 count register))
        (set_within (class_count p) r (to p mask name count q) bits into
        ∙ every_same (class_count p) (λ k. not (to p mask name count q k) || has into k) (λ k. not (to p mask name count q k) || kept c (receiver_into p m pc k q))
        (λ k l. ap (◌||◌ (not (to p mask name count q k))) (same k))))

    pub one_returned : kept c (returned_into p m pc q) ≡ callee_returned p c m pc mask name count q
    unfolding callee_returned
    one_returned = rw a_lead

    pub one_leaves : (k : ℕ) → has (c (leaving q)) k ≡ leaves_callee p c mask name count k q
    unfolding leaves_callee
    one_leaves k = rw a_lead
