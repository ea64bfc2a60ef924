-- Calls: what a static call asks, and what a virtual call asks of the callee that a class leads to, callee by callee. Assumes nothing.
use mathlib.Core.Path.{◌≡◌, refl, sym, ◌∙◌}
use mathlib.Core.Bool.{Bool, true, false, ◌&&◌}
use Prim.Native.Nat.{ℕ, suc, ◌+◌, ◌-◌, ◌<◌}
use native.Mathlib.Omega.{arith}
use lib.Dec.{ltb}
use borrow.Author.Tests.{ltb-true, lt-ltb}
use Rattle.std.specs.Prelude.{Some}
use Rattle.text.proofs.Cases.{never}
use Rattle.instruction.proofs.Flags.{both_true}
use Rattle.mask.specs.declared.Mask.{Mask}
use Rattle.mask.specs.Mask.{has, is_empty}
use Rattle.mask.proofs.Laws.{has_less, empty_none}
use Rattle.program.specs.Program.{Program, class_count, method_count, arguments}
use Rattle.search.specs.Search.{virtual_callee}
use Rattle.machine.proofs.Found.{callee_fits}
use Rattle.flow.specs.Claim.{Slot, register_at, Claim}
use Rattle.flow.specs.Flows.{Flows, ◌&◌, each, found, is_found, Holds}
use Rattle.flow.specs.Rules.{argument_into, parameter, receiver_into, receivers, returned_into, leaving_classes, into_handler, into_leaving}
use Rattle.flow.proofs.Callees.{found_is, is_found_lem}
use Rattle.carry.specs.Carried.{arguments_from}
use Rattle.order.specs.Order.{Below}
use Rattle.order.specs.Raised.{Goes, Raised, Joined, nothing}
use Rattle.order.proofs.Flowing.{goes_more}
use Rattle.order.proofs.Raising.{below_same, below_then}
use Rattle.raise.proofs.AtOnce.{not_empty}
use Rattle.transfer.specs.Transfer.{from_callee, called_as, called_by, leading_class, called_from}

-- five rules of a list
pub raised_five : (f g h i j : Flows) (c d : Claim) → Raised (f & g & h & i & j) c d → Raised (f & g & h & i & j & nothing) c d
raised_five f g h i j c d r =
    record {
      grows = r.grows;
      asked =
          let s = r.asked.1.1 in
          (r.asked.0, (r.asked.1.0, (s.0, (s.1.0, (s.1.1, λ n l. absurd (omega arith))))));
      least = λ e t low. r.least e (t.0, (t.1.0, (t.1.1.0, (t.1.1.1.0, t.1.1.1.1.0)))) low;
    }

-- ---- the arguments of a static call, its callee named
module _ (p : Program) (m pc q b r : ℕ) where
  pub all_arguments : (c d : Claim) → Raised (arguments_from p m pc q 0 b r) c d
      → Raised (found (Some q) (λ callee. each b (argument_into p m pc r callee))) c d
  all_arguments c d a =
      record {
        grows = a.grows;
        asked = λ n e i l.
            let same : q ≡ n = cc in
            let number : 0 + i ≡ i = omega arith in
            rw (← same) (rw number at (a.asked i (omega arith)));
        least = λ e h low. a.least e (λ i l. let number : 0 + i ≡ i = omega arith in rw number (h q refl i (omega arith))) low;
      }

  -- and of a virtual call, without its receiver
  one_goes : (c d : Claim) → Goes c d (arguments_from p m pc q 1 b r) → Goes c d (each (b - 1) (λ i. argument_into p m pc r q (suc i)))
  one_goes c d a i l = let number : 1 + i ≡ suc i = omega arith in rw number at (a i l)

  one_holds : (e : Claim) → Holds e (each (b - 1) (λ i. argument_into p m pc r q (suc i))) → Holds e (arguments_from p m pc q 1 b r)
  one_holds e h i l = let number : 1 + i ≡ suc i = omega arith in rw number (h i l)

-- ---- one callee
module _ (p : Program) (m pc count register q : ℕ) (rs : Mask) where
  pub called_none : (c : Claim) → is_empty rs ≡ true → Raised (called_by p m pc (has rs) count register q) c c
  called_none c none =
      record {
        grows = below_same c;
        asked = λ k l t. let no = empty_none rs none k in never (cc);
        least = λ e h b. b;
      }

  pub called_some : (c d e : Claim) → is_empty rs ≡ false → Joined (register_at q 0 (parameter p q 0)) rs c d
      → Raised (arguments_from p m pc q 1 count register & from_callee p m pc q) d e → Raised (called_by p m pc (has rs) count register q) c e
  called_some c d e one j a =
      let (i, t) = not_empty rs one in
      record {
        grows = below_then c d e j.grows a.grows;
        asked = λ k l s. (
          a.grows (register_at q 0 (parameter p q 0)) k (j.has_it k s),
          goes_more d c e e j.grows (below_same e) (arguments_from p m pc q 1 count register & from_callee p m pc q) a.asked,
        );
        least = λ x h low. a.least x (h i (has_less rs i t) t).1 (j.least x (λ k u. (h k (has_less rs k u) u).0) low);
      }

  -- by a test that says which classes those are
  pub called_test : (test : ℕ → Bool) → ((k : ℕ) → has rs k ≡ test k) → (c d : Claim)
      → Raised (called_by p m pc (has rs) count register q) c d
      → Raised (called_by p m pc test count register q) c d
  called_test test same c d r =
      record {
        grows = r.grows;
        asked = λ k l t. r.asked k l (same k ∙ t);
        least = λ e h low. r.least e (λ k l t. h k l (sym (same k) ∙ t)) low;
      }

-- ---- all callees of a virtual call
-- a class in the mask and what it leads to
leading_class_lem : (p : Program) (mask : Mask) (n b q k : ℕ) → leading_class p mask n b q k ≡ true
    → (k < class_count p) × (has mask k ≡ true) × (virtual_callee p k n b ≡ Some q)
leading_class_lem p mask n b q k t =
    let (l, rest) = both_true (ltb k (class_count p)) (has mask k && is_found (virtual_callee p k n b) q) t in
    let (g, f) = both_true (has mask k) (is_found (virtual_callee p k n b) q) rest in
    (ltb-true k (class_count p) l, g, found_is (virtual_callee p k n b) q f)

pub leading_fits : (p : Program) (mask : Mask) (n b q k : ℕ) → leading_class p mask n b q k ≡ true
    → (q < method_count p) × (arguments p q ≡ b)
leading_fits p mask n b q k t = callee_fits p n b q k (leading_class_lem p mask n b q k t).2

module _ (p : Program) (m pc n b r : ℕ) (c d : Claim)
    (a : Raised (each (method_count p) (called_from p m pc (c (register_at m pc r)) n b r)) c d) where
  abbrev here : Slot
  here = register_at m pc r

  -- what is met for class k and the callee that it leads to
  met : (k : ℕ) → k < class_count p → has (c here) k ≡ true → (q : ℕ) → virtual_callee p k n b ≡ Some q → Goes c d (called_as p m pc b r q k)
  met k l g q f =
      a.asked q (callee_fits p n b q k f).0 k (has_less (c here) k g)
      (rw (lt-ltb k (class_count p) l, g, is_found_lem (virtual_callee p k n b) q f))

  -- and that it is asked
  module _ (e : Claim) (low : Below c e)
      (six : Holds e (receivers p m pc n b r (λ k q. receiver_into p m pc k q & each (b - 1) (λ i. argument_into p m pc r q (suc i)))))
      (seven : Holds e (receivers p m pc n b r (λ k. returned_into p m pc)))
      (nine : Holds e (receivers p m pc n b r (λ k q. leaving_classes p m pc q (into_handler p m pc))))
      (ten : Holds e (receivers p m pc n b r (λ k q. leaving_classes p m pc q (into_leaving p m pc)))) where
    is_asked : Holds e (each (method_count p) (called_from p m pc (c here) n b r))
    is_asked q lq k lk t =
        let (less, g, leads) = leading_class_lem p (c here) n b q k t in
        let in_e = low here k g in
        let one = six k less in_e q leads in
        (one.0, (one_holds p m pc q b r e one.1, (seven k less in_e q leads, (nine k less in_e q leads, ten k less in_e q leads))))

  pub virtual_raised : Raised
      (receivers p m pc n b r (λ k q. receiver_into p m pc k q & each (b - 1) (λ i. argument_into p m pc r q (suc i)))
      & receivers p m pc n b r (λ k. returned_into p m pc)
      & receivers p m pc n b r (λ k q. leaving_classes p m pc q (into_handler p m pc))
      & receivers p m pc n b r (λ k q. leaving_classes p m pc q (into_leaving p m pc))) c d
  virtual_raised =
      record {
        grows = a.grows;
        asked = (
          λ k l g q f. let x = met k l g q f in (x.0, one_goes p m pc q b r c d x.1.0),
          (
            λ k l g q f. (met k l g q f).1.1.0,
            (
              λ k l g q f. (met k l g q f).1.1.1.0,
              λ k l g q f. (met k l g q f).1.1.1.1,
            ),
          ),
        );
        least = λ e h low. a.least e (is_asked e low h.0 h.1.0 h.1.1.0 h.1.1.1) low;
      }
