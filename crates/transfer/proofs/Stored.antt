-- What is stored into fields and what is thrown, as rules 5, 9 and 10 ask it. Assumes nothing.
use mathlib.Core.Path.{◌≡◌, sym, ◌∙◌}
use mathlib.Core.Bool.{true, ◌&&◌}
use Prim.Native.Nat.{ℕ, ◌<◌, ◌≤◌}
use native.Mathlib.Omega.{arith}
use lib.Dec.{ltb}
use borrow.Author.Tests.{ltb-true, lt-ltb}
use Rattle.instruction.proofs.Flags.{both_true}
use Rattle.mask.specs.declared.Mask.{Mask}
use Rattle.mask.specs.Mask.{has}
use Rattle.mask.proofs.Laws.{has_less}
use Rattle.program.specs.Program.{Program, class_count}
use Rattle.search.specs.Search.{below, has_field}
use Rattle.flow.specs.Claim.{register_at, field_of, leaving, Claim}
use Rattle.flow.specs.Flows.{Flows, ◌⊆◌, ◌&◌}
use Rattle.flow.specs.Rules.{classes_with_field, thrown_classes, leaving_classes, into_handler, into_leaving}
use Rattle.order.specs.Raised.{Raised, nothing}
use Rattle.order.proofs.Raising.{raised_both, raised_nothing}
use Rattle.raise.specs.Inside.{into_fields, raised_flows}

-- the last of a list of rules
pub raised_last : (f : Flows) (c d : Claim) → Raised f c d → Raised (f & nothing) c d
raised_last f c d r = raised_both f nothing c d d r (raised_nothing d)

-- ---- a register's mask into a field of each class in another register
module _ (p : Program) (m pc a b x : ℕ) (few : class_count p ≤ 60) (set : Mask) (c d : Claim)
    (bits : (k : ℕ) → has set k ≡ has (c (register_at m pc b)) k && (ltb k (class_count p) && has_field p k x)) where
  pub in_set : (k : ℕ) → has set k ≡ true → (has (c (register_at m pc b)) k ≡ true) × (k < class_count p) × (has_field p k x ≡ true)
  in_set k s =
      let (g, rest) = both_true (has (c (register_at m pc b)) k) (ltb k (class_count p) && has_field p k x) (sym (bits k) ∙ s) in
      let (l, own) = both_true (ltb k (class_count p)) (has_field p k x) rest in
      (g, ltb-true k (class_count p) l, own)

  pub stored : Raised (into_fields set x (c (register_at m pc a))) c d
      → Raised (classes_with_field p m pc b x (λ k. register_at m pc a ⊆ field_of k x)) c d
  stored r =
      record {
        grows = r.grows;
        asked = λ k l g own j e.
            r.asked k (omega arith) (bits k ∙ rw (g, lt-ltb k (class_count p) l, own)) j (has_less (c (register_at m pc a)) j e) e;
        least = λ e h low.
            r.least e
            (λ k l s j _ v.
            let (g, less, own) = in_set k s in
            h k less (low (register_at m pc b) k g) own j (low (register_at m pc a) j v))
            low;
      }

-- ---- the classes in a register that are thrown
module _ (p : Program) (m pc a : ℕ) (mask : Mask) (c d : Claim)
    (bits : (k : ℕ) → has mask k ≡ has (c (register_at m pc a)) k && (ltb k (class_count p) && below p k 1)) where
  is_thrown : (k : ℕ) → k < class_count p → has (c (register_at m pc a)) k ≡ true → below p k 1 ≡ true → has mask k ≡ true
  is_thrown k l g t = bits k ∙ rw (g, lt-ltb k (class_count p) l, t)

  thrown_is : (k : ℕ) → has mask k ≡ true → (has (c (register_at m pc a)) k ≡ true) × (below p k 1 ≡ true)
  thrown_is k s =
      let (g, rest) = both_true (has (c (register_at m pc a)) k) (ltb k (class_count p) && below p k 1) (sym (bits k) ∙ s) in
      (g, (both_true (ltb k (class_count p)) (below p k 1) rest).1)

  pub thrown_raised : Raised (raised_flows p m pc mask) c d
      → Raised (thrown_classes p m pc a (into_handler p m pc) & thrown_classes p m pc a (into_leaving p m pc) & nothing) c d
  thrown_raised r =
      record {
        grows = r.grows;
        asked = (
          λ k l g t. r.asked.0 k l (is_thrown k l g t),
          (λ k l g t. r.asked.1 k l (is_thrown k l g t), λ i l. absurd (omega arith)),
        );
        least = λ e h low.
            r.least e (
              λ k l s. let (g, t) = thrown_is k s in h.0 k l (low (register_at m pc a) k g) t,
              λ k l s. let (g, t) = thrown_is k s in h.1.0 k l (low (register_at m pc a) k g) t,
            )
            low;
      }

-- ---- the classes that leave a callee
pub leaving_raised : (p : Program) (m pc q : ℕ) (c d : Claim) → Raised (raised_flows p m pc (c (leaving q))) c d
    → Raised (leaving_classes p m pc q (into_handler p m pc) & leaving_classes p m pc q (into_leaving p m pc)) c d
leaving_raised p m pc q c d r =
    record {
      grows = r.grows;
      asked = (λ k l g. r.asked.0 k l g, λ k l g. r.asked.1 k l g);
      least = λ e h low. r.least e (λ k l g. h.0 k l (low (leaving q) k g), λ k l g. h.1 k l (low (leaving q) k g)) low;
    }
