-- What flows of rule 4 ask for, as one mask, instruction by instruction. Assumes nothing.
use mathlib.Core.Path.{◌≡◌, refl, sym, ◌∙◌}
use mathlib.Core.Bool.{true, ◌&&◌}
use Prim.Native.Nat.{ℕ, suc, ◌<◌, ◌≤◌}
use native.Mathlib.Omega.{arith}
use lib.Dec.{eqb, ltb}
use borrow.Author.Tests.{eqb-true, eq-eqb, ltb-true, lt-ltb}
use Rattle.instruction.specs.declared.Instruction.{Instruction}
use Rattle.instruction.specs.Word.{falls_through}
use Rattle.instruction.proofs.Flags.{both_true, or_right}
use Rattle.mask.specs.declared.Mask.{Mask}
use Rattle.mask.specs.Mask.{has, has_number, zero_bit, other_bit}
use Rattle.program.specs.Program.{Program, class_count, method_count, code_length}
use Rattle.search.specs.Search.{below, has_field}
use Rattle.reader.specs.Formed.{Formed}
use Rattle.flow.specs.Claim.{Slot, register_at, field_of, Claim}
use Rattle.flow.specs.Flows.{Flows, ◌∈◌, ◌⊆◌, ◌&◌, numeric, some, Holds}
use Rattle.flow.specs.Rules.{classes_with_field, cast_into}
use Rattle.flow.proofs.Callees.{some_at, or_cases, some_one}
use Rattle.order.specs.Order.{Below}
use Rattle.order.specs.Raised.{Raised, nothing}
use Rattle.order.proofs.Flowing.{number_kept}
use Rattle.raise.specs.Inside.{is_number, from_numbers, passes_cast, field_has}
use Rattle.transfer.specs.Transfer.{Ready, Gives}

-- ---- what is promised where an instruction goes on to the next address
pub goes_on_lem : {P : Type 0} {p : Program} {m pc : ℕ} {i : Instruction} → Ready p m pc i → falls_through i ≡ true
    → (Formed p → m < method_count p → suc pc < code_length p m → P) → P
goes_on_lem r falls h = h r.formed r.method (r.next falls)

-- ---- the mask of a slot; a bit; both numbers' bits
pub gives_mask : (s t : Slot) (c : Claim) → Gives c (s ⊆ t) t (c s)
gives_mask s t c = record { asked = λ d h. h; least = λ e h b k x. h k (b s k x) }

pub gives_bit : (k : ℕ) (m : Mask) (t : Slot) (c : Claim) → ((i : ℕ) → has m i ≡ eqb i k) → Gives c (k ∈ t) t m
gives_bit k m t c bits =
    record {
      asked = λ d h. h k (bits k ∙ eq-eqb k k refl);
      least = λ e h b i x. rw (eqb-true i k (sym (bits i) ∙ x)) h;
    }

pub gives_numbers : (m : Mask) (t : Slot) (c : Claim) → ((i : ℕ) → has m i ≡ is_number i) → Gives c (zero_bit ∈ t & other_bit ∈ t) t m
gives_numbers m t c bits =
    record {
      asked = λ d h. (h zero_bit (bits zero_bit), h other_bit (bits other_bit));
      least = λ e h b i x.
          or_cases (eqb i zero_bit) (eqb i other_bit)
          (λ q. rw (eqb-true i zero_bit q) h.0)
          (λ q. rw (eqb-true i other_bit q) h.1)
          (sym (bits i) ∙ x);
    }

-- ---- what comes of numbers
module _ (b r t : Slot) (m : Mask) (c : Claim) (bits : (k : ℕ) → has m k ≡ from_numbers (c b) (c r) k) where
  has_number_lem : (k : ℕ) → has_number (c b) ≡ true → has_number (c r) ≡ true → is_number k ≡ true → has m k ≡ true
  has_number_lem k x y z = bits k ∙ rw (x, y, z)

  into_both : (e : Claim) → Holds e (numeric b (numeric r (zero_bit ∈ t & other_bit ∈ t))) → Below c e
      → (k : ℕ) → has m k ≡ true → has (e t) k ≡ true
  into_both e h low k x =
      let (left, rest) = both_true (has_number (c b)) (has_number (c r) && is_number k) (sym (bits k) ∙ x) in
      let (right, number) = both_true (has_number (c r)) (is_number k) rest in
      let asked = h (number_kept (c b) (e b) (low b) left) (number_kept (c r) (e r) (low r) right) in
      or_cases (eqb k zero_bit) (eqb k other_bit)
      (λ q. rw (eqb-true k zero_bit q) asked.0)
      (λ q. rw (eqb-true k other_bit q) asked.1)
      number

  pub gives_numeric : Gives c (numeric b (numeric r (zero_bit ∈ t & other_bit ∈ t))) t m
  gives_numeric =
      record {
        asked = λ d h x y. (h zero_bit (has_number_lem zero_bit x y refl), h other_bit (has_number_lem other_bit x y refl));
        least = into_both;
      }

-- ---- what a field holds of the classes in a register
module _ (p : Program) (m pc b x : ℕ) (few : class_count p ≤ 60) (set v : Mask) (c : Claim)
    (bits : (k : ℕ) → has set k ≡ has (c (register_at m pc b)) k && (ltb k (class_count p) && has_field p k x))
    (all : (j : ℕ) → has v j ≡ some 60 (field_has c set x j)) where
  pub gives_fields : (t : Slot) → Gives c (classes_with_field p m pc b x (λ k. field_of k x ⊆ t)) t v
  gives_fields t =
      record {
        asked = λ d h k l g own j e.
            let in-set : has set k ≡ true = bits k ∙ rw (g, lt-ltb k (class_count p) l, own) in
            h j (all j ∙ some_at 60 (field_has c set x j) k (omega arith) (rw (in-set, e)));
        least = λ e h low j y.
            let (k, few-k, both) = some_one 60 (field_has c set x j) (sym (all j) ∙ y) in
            let (in-set, held) = both_true (has set k) (has (c (field_of k x)) j) both in
            let (g, rest) = both_true (has (c (register_at m pc b)) k) (ltb k (class_count p) && has_field p k x) (sym (bits k) ∙ in-set) in
            let (l, own) = both_true (ltb k (class_count p)) (has_field p k x) rest in
            h k (ltb-true k (class_count p) l) (low (register_at m pc b) k g) own j (low (field_of k x) j held);
      }

-- ---- what passes a cast
module _ (p : Program) (m pc a class : ℕ) (v : Mask) (c : Claim)
    (bits : (k : ℕ) → has v k ≡ has (c (register_at m pc a)) k && passes_cast p class k) where
  abbrev here : Slot
  here = register_at m pc a

  zero_passes : (k : ℕ) → eqb k zero_bit ≡ true → has (c here) k ≡ true → has v k ≡ true
  zero_passes k z g = bits k ∙ rw g (or_right (ltb k (class_count p) && below p k class) (eqb k zero_bit) z)

  passed : (e : Claim) → Holds e (cast_into p m pc a class) → Below c e
      → (k : ℕ) → has v k ≡ true → has (e (register_at m (suc pc) a)) k ≡ true
  passed e h low k y =
      let (g, passes) = both_true (has (c here) k) (passes_cast p class k) (sym (bits k) ∙ y) in
      or_cases (ltb k (class_count p) && below p k class) (eqb k zero_bit)
      (λ t.
      let (l, under) = both_true (ltb k (class_count p)) (below p k class) t in
      h.1 k (ltb-true k (class_count p) l) (low here k g) under)
      (λ z.
      let same = eqb-true k zero_bit z in
      rw same (h.0 (rw same at (low here k g))))
      passes

  pub gives_cast : Gives c (cast_into p m pc a class) (register_at m (suc pc) a) v
  gives_cast =
      record {
        asked = λ d h. (
          λ g. h zero_bit (zero_passes zero_bit refl g),
          λ k l g under. h k (bits k ∙ rw (g, lt-ltb k (class_count p) l, under)),
        );
        least = passed;
      }

-- ---- an instruction of one operand
pub one_operand : (g : Flows) (b : Slot) (f : Flows) (c d : Claim) → Raised (g & numeric b (numeric b f) & nothing) c d
    → Raised (g & numeric b f & nothing) c d
one_operand g b f c d r =
    record {
      grows = r.grows;
      asked = (r.asked.0, (λ t. r.asked.1.0 t t, r.asked.1.1));
      least = λ e h low. r.least e (h.0, (λ t u. h.1.0 u, h.1.1)) low;
    }
