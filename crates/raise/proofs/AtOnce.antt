-- One mask joined for several flows at once. Assumes nothing.
use mathlib.Core.Path.{◌≡◌, refl, sym, ◌∙◌}
use mathlib.Core.Bool.{Bool, true, false, ◌&&◌}
use Prim.Native.Nat.{ℕ, ◌<◌}
use native.Mathlib.Omega.{arith}
use lib.Dec.{eqb, ltb}
use borrow.Author.Tests.{eqb-true, eq-eqb, ltb-true, lt-ltb}
use Rattle.text.proofs.Cases.{never}
use Rattle.mask.specs.declared.Mask.{Mask}
use Rattle.mask.specs.Mask.{has, is_empty}
use Rattle.mask.proofs.Laws.{has_less, empty_none, empty_subset}
use Rattle.mask.proofs.Sets.{no_bit, subset_fails}
use Rattle.program.specs.Program.{Program, class_count}
use Rattle.flow.specs.Claim.{Slot, result_at, Claim}
use Rattle.flow.specs.Flows.{◌∈◌}
use Rattle.flow.specs.Rules.{carried}
use Rattle.slots.specs.Layout.{mask_of}
use Rattle.order.specs.Raised.{Raised, Joined}
use Rattle.order.proofs.Flowing.{goes_more}
use Rattle.order.proofs.Raising.{below_same, below_then, raised_bit, raised_as, raised_both, left_when}
use Rattle.raise.proofs.MaskBits.{one_bit}
use Rattle.raise.specs.Inside.{mask_into, taken_into, raised_flows, own_flows}

-- ---- a mask into a slot's
pub raised_mask : (m : Mask) (s : Slot) (c d : Claim) → Joined s m c d → Raised (mask_into m s) c d
raised_mask m s c d j =
    record { grows = j.grows; asked = λ i l t. j.has_it i t; least = λ e h b. j.least e (λ k x. h k (has_less m k x) x) b }

-- ---- the mask of one bit
pub raised_one : (k : ℕ) (m : Mask) (s : Slot) (c d : Claim) → k < 64 → ((i : ℕ) → has m i ≡ eqb i k && ltb i 64) → Joined s m c d
    → Raised (k ∈ s) c d
raised_one k m s c d l bits j =
    let is = one_bit m k l bits in
    raised_bit k m s c d (is k ∙ eq-eqb k k refl) (λ i e. eqb-true i k (sym (is i) ∙ e)) j

-- ---- a mask with no bit, or with one
pub not_empty : (m : Mask) → is_empty m ≡ false → (k : ℕ) × (has m k ≡ true)
not_empty m e =
    let (k, t, out) = subset_fails m (mask_of 0) (sym (empty_subset m (mask_of 0) no_bit) ∙ e) in
    (k, t)

not_in : (m : Mask) (k : ℕ) → is_empty m ≡ true → has m k ≡ true → ⊥
not_in m k none t =
    let no = empty_none m none k in
    never (cc)

pub none_raised : (p : Program) (m pc : ℕ) (mask : Mask) (c : Claim) → is_empty mask ≡ true → Raised (raised_flows p m pc mask) c c
none_raised p m pc mask c none =
    record {
      grows = below_same c;
      asked = (λ k l t. absurd (not_in mask k none t), λ k l t. absurd (not_in mask k none t));
      least = λ e h b. b;
    }

-- ---- a class that an instruction raises itself, as the only one in a mask
module _ (p : Program) (m pc k : ℕ) (may : Bool) where
  pub own_raised : (mask : Mask) → ((j : ℕ) → has mask j ≡ eqb j k) → may ≡ true → (c d : Claim)
      → Raised (raised_flows p m pc mask) c d → Raised (own_flows p m pc may k) c d
  own_raised mask bits raises c d =
      raised_as (raised_flows p m pc mask) (own_flows p m pc may k) c d
      (λ g. (
        λ _ l. g.0 k (ltb-true k (class_count p) l) (bits k ∙ eq-eqb k k refl),
        λ _ l. g.1 k (ltb-true k (class_count p) l) (bits k ∙ eq-eqb k k refl),
      ))
      (λ e _ h. (
        λ j l t. let same = eqb-true j k (sym (bits j) ∙ t) in rw same (h.0 raises (lt-ltb k (class_count p) (omega (arith, same, l)))),
        λ j l t. let same = eqb-true j k (sym (bits j) ∙ t) in rw same (h.1 raises (lt-ltb k (class_count p) (omega (arith, same, l)))),
      ))

  pub own_none : may ≡ false → (c : Claim) → Raised (own_flows p m pc may k) c c
  own_none quiet c = raised_both _ _ c c c (left_when may _ c quiet) (left_when may _ c quiet)

-- ---- registers and a set of classes into one address
module _ (p : Program) (m pc to : ℕ) (taken : Mask) where
  pub taken_none : (c : Claim) → is_empty taken ≡ true → Raised (taken_into p m pc to taken) c c
  taken_none c none =
      record {
        grows = below_same c;
        asked = λ k l t. absurd (not_in taken k none t);
        least = λ e h b. b;
      }

  pub taken_some : (c d e : Claim) → is_empty taken ≡ false → Raised (carried p m pc to) c d → Joined (result_at m to) taken d e
      → Raised (taken_into p m pc to taken) c e
  taken_some c d e one all j =
      let (i, t) = not_empty taken one in
      record {
        grows = below_then c d e all.grows j.grows;
        asked = λ k l t. (goes_more c c d e (below_same c) j.grows (carried p m pc to) all.asked, j.has_it k t);
        least = λ x h b. j.least x (λ k u. (h k (has_less taken k u) u).1) (all.least x (h i (has_less taken i t) t).0 b);
      }
