-- The rules of a virtual call, asked of each callee that a class in the receiver leads to, as the code asks them. Assumes nothing.
use Rattle.std.specs.Prelude.{Some}
use mathlib.Core.Path.{◌≡◌, refl, sym, ap, ◌∙◌}
use mathlib.Core.Bool.{Bool, not, ◌&&◌, ◌||◌}
use Prim.Native.Nat.{ℕ, suc, ◌-◌, ◌≤◌}
use lib.Dec.{eqb, ltb}
use Rattle.instruction.specs.declared.Instruction.TheVariants.{InvokeVirtual}
use Rattle.instruction.specs.Word.{pick}
use Rattle.mask.specs.declared.Mask.{Mask}
use Rattle.mask.specs.Mask.{zero_bit, has, every}
use Rattle.mask.proofs.Laws.{every_same}
use Rattle.program.specs.Program.{Program, null_class, class_count, method_count}
use Rattle.search.specs.Search.{virtual_callee}
use Rattle.machine.proofs.Found.{callee_fits}
use Rattle.flow.specs.Claim.{register_at, leaving, Claim}
use Rattle.flow.specs.Flows.{Flows, ◌&◌, some, each, is_found, kept}
use Rattle.flow.specs.Rules.{carried, argument_into, receiver_into, receivers, returned_into, leaving_classes, raising, rules_of}
use Rattle.sets.specs.Sets.{leads_to}
use Rattle.carry.specs.Carried.{arguments_from}
use Rattle.rules.specs.Broken.{broken_in, each_in, raised_rule, callee_given, callee_returned, leaves_callee}
use Rattle.rules.proofs.Arguments.{from_second}
use Rattle.rules.proofs.Own.{raised_by_lem, with_null}
use Rattle.rules.proofs.Callees.{by_callee, by_receiver, by_leaving}

module _ (p : Program) (c : Claim) (m pc n b r : ℕ) where
  abbrev mask : Mask
  mask = c (register_at m pc r)

  lead : (q : ℕ) → leads_to p mask n b q ≡ some (class_count p) (λ k. has mask k && is_found (virtual_callee p k n b) q)
  unfolding leads_to
  lead q = refl

  pub returned_kept : every (method_count p) (callee_returned p c m pc mask n b) ≡ kept c (receivers p m pc n b r (λ k. returned_into p m pc))
  unfolding callee_returned
  returned_kept =
      sym
      (by_callee (class_count p) (method_count p) (has mask) (λ k. virtual_callee p k n b) (leads_to p mask n b) lead
      (λ k q e. (callee_fits p n b q k e).0) (λ q. kept c (returned_into p m pc q)))

  -- the receiver and the other arguments
  pub given_kept : every (method_count p) (callee_given p c m pc mask n b r)
      ≡ kept c (receivers p m pc n b r (λ k q. receiver_into p m pc k q & each (b - 1) (λ i. argument_into p m pc r q (suc i))))
  unfolding callee_given
  given_kept =
      let first : ℕ → Bool = λ q. every (class_count p) (λ k. not (has mask k && is_found (virtual_callee p k n b) q) || kept c (receiver_into p m pc k q)) in
      every_same (method_count p) (λ q. not (leads_to p mask n b q) || (first q && kept c (arguments_from p m pc q 1 b r)))
      (λ q. not (leads_to p mask n b q) || (first q && kept c (each (b - 1) (λ i. argument_into p m pc r q (suc i)))))
      (λ q l. ap (λ (t : Bool). not (leads_to p mask n b q) || (first q && t)) (from_second p c m pc q b r))
      ∙ sym
      (by_receiver (class_count p) (method_count p) (has mask) (λ k. virtual_callee p k n b) (leads_to p mask n b) lead
      (λ k q e. (callee_fits p n b q k e).0)
      (λ k q. kept c (receiver_into p m pc k q)) (λ q. kept c (each (b - 1) (λ i. argument_into p m pc r q (suc i)))))

  -- the rules of the call
  pub call_rules : broken_in c (rules_of p m pc (InvokeVirtual n b r))
      ≡ pick (kept c (carried p m pc (suc pc)))
      (pick (every (method_count p) (callee_given p c m pc mask n b r))
      (pick (every (method_count p) (callee_returned p c m pc mask n b)) (broken_in c (raising p m pc (InvokeVirtual n b r))) (Some 7))
      (Some 6))
      (Some 2)
  call_rules = rw (given_kept, returned_kept)

  -- what leaves the callees
  module _ (raised : Mask) (are : (k : ℕ) → has raised k ≡ some (method_count p) (leaves_callee p c mask n b k)) where
    leaving_are : (k : ℕ) → has raised k ≡ some (method_count p) (λ q. leads_to p mask n b q && has (c (leaving q)) k)
    unfolding leaves_callee
    leaving_are k = are k

    by_class : (f : ℕ → Flows) → each_in p raised (λ k. kept c (f k)) ≡ kept c (receivers p m pc n b r (λ k q. leaving_classes p m pc q f))
    by_class f =
        by_leaving (class_count p) (method_count p) (leads_to p mask n b) (λ q. has (c (leaving q))) (has raised) leaving_are (λ k. kept c (f k))
        ∙ sym
        (by_callee (class_count p) (method_count p) (has mask) (λ k. virtual_callee p k n b) (leads_to p mask n b) lead
        (λ k q e. (callee_fits p n b q k e).0) (λ q. kept c (leaving_classes p m pc q f)))

    pub raised_kept : class_count p ≤ 64 → (all : Mask)
        → ((k : ℕ) → has all k ≡ has raised k || (eqb k null_class && (ltb k 64 && has mask zero_bit)))
        → raised_rule p c m pc all ≡ broken_in c (raising p m pc (InvokeVirtual n b r))
    raised_kept few all more =
        raised_by_lem p c m pc (InvokeVirtual n b r) all
        (with_null p c m pc few r raised all more (λ f. receivers p m pc n b r (λ k q. leaving_classes p m pc q f)) by_class)
