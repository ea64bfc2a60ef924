-- The classes in a mask by the handlers of an address, by falling number, which is the order of the text: what the handlers before one
-- leave, what it takes of that, and what none takes. Assumes nothing.
use mathlib.Core.Path.{◌≡◌, refl, sym, ap, ◌∙◌}
use mathlib.Core.Bool.{Bool, true, false, not, ◌&&◌}
use Prim.Native.Nat.{ℕ, suc, ◌+◌, ◌-◌, ◌≤◌, ◌<◌}
use native.Mathlib.Nat.{add-zero}
use native.Mathlib.Omega.{arith}
use lib.Dec.{ltb}
use borrow.Author.Tests.{lt-ltb, ltb-true}
use Rattle.std.specs.Prelude.{Some, None}
use Rattle.text.proofs.Cases.{by_test, both_true}
use Rattle.mask.specs.declared.Mask.{Mask}
use Rattle.mask.specs.Mask.{has, every}
use Rattle.mask.proofs.Laws.{every_at, every_same}
use Rattle.mask.proofs.Sets.{and_end}
use Rattle.program.specs.Program.{Program, class_count, handler_count}
use Rattle.search.specs.Search.{catches, handler_for}
use Rattle.search.proofs.Searches.{handler_found, handler_missing}

not_true_false : (a : Bool) → not a ≡ true → a ≡ false
not_true_false true e = sym e
not_true_false false e = refl

first_fails : (a b : Bool) → b ≡ true → not a && b ≡ false → a ≡ true
first_fails true b e f = refl
first_fails false b e f = sym f ∙ e

-- what is taken from the rest leaves it
leaves_rest : (m l b t : Bool) → ((m && l) && b) && not (((m && l) && b) && (l && t)) ≡ (m && l) && (not t && b)
leaves_rest true true true true = refl
leaves_rest true true true false = refl
leaves_rest true true false true = refl
leaves_rest true true false false = refl
leaves_rest true false b t = refl
leaves_rest false l b t = refl

-- ---- the classes of the program in a mask
module _ (p : Program) (mask rest classes : Mask) (bits : (k : ℕ) → has rest k ≡ has mask k && has classes k)
    (all : (k : ℕ) → has classes k ≡ ltb k (class_count p)) where
  pub only_classes : (k : ℕ) → has rest k ≡ true → k < class_count p
  only_classes k e = ltb-true k (class_count p) (sym (all k) ∙ (both_true (has mask k) (has classes k) (sym (bits k) ∙ e)).1)

  pub same_classes : (k : ℕ) → k < class_count p → has rest k ≡ has mask k
  same_classes k l = bits k ∙ rw (all k, lt-ltb k (class_count p) l) (and_end (has mask k))

-- ---- the handlers before one in the text, whose numbers are higher
module _ (p : Program) (m pc : ℕ) where
  -- no handler from number h on catches class k
  abbrev pub passed : ℕ → ℕ → Bool
  passed h k = every (handler_count p m - h) (λ i. not (catches p m pc k (h + i)))

  pub none_yet : (k : ℕ) → passed (handler_count p m) k ≡ true
  none_yet k =
      let none : handler_count p m - handler_count p m ≡ 0 = omega arith in
      rw none

  -- and handler h, the next in the text
  more_passed : (h k : ℕ) → h < handler_count p m → passed h k ≡ not (catches p m pc k h) && passed (h + 1) k
  more_passed h k l = from (handler_count p m - h) (handler_count p m - (h + 1)) (omega arith)
    where
      from : (a b : ℕ) → a ≡ suc b
          → every a (λ i. not (catches p m pc k (h + i))) ≡ not (catches p m pc k h) && every b (λ i. not (catches p m pc k (h + 1 + i)))
      from a b e =
          rw (e, add-zero)
          (ap (◌&&◌ (not (catches p m pc k h)))
          (every_same b (λ i. not (catches p m pc k (h + suc i))) (λ i. not (catches p m pc k (h + 1 + i)))
          (λ i _. ap (λ (j : ℕ). not (catches p m pc k j)) (omega arith))))

  none_after : (h k : ℕ) → passed h k ≡ true → (i : ℕ) → h ≤ i → i < handler_count p m → catches p m pc k i ≡ false
  none_after h k e i l b =
      let number : h + (i - h) ≡ i = omega arith in
      rw number at
      (not_true_false (catches p m pc k (h + (i - h)))
      (every_at (handler_count p m - h) (λ j. not (catches p m pc k (h + j))) e (i - h) (omega arith)))

  -- a class that no handler catches
  pub uncaught : (k : ℕ) → passed 0 k ≡ true → handler_for p m pc k ≡ None
  uncaught k e = handler_missing p m pc k (λ i l. none_after 0 k e i (omega arith) l)

module _ (p : Program) (m pc : ℕ) (mask : Mask) where
  -- what the handlers from number h on leave of the mask
  abbrev pub Rest : ℕ → Mask → Type 0
  Rest h rest = (k : ℕ) → has rest k ≡ (has mask k && ltb k (class_count p)) && passed p m pc h k

  pub rest_start : ((k : ℕ) → has mask k ≡ true → k < class_count p) → Rest (handler_count p m) mask
  rest_start within k =
      by_test (has mask k)
      (λ t. rw (t, lt-ltb k (class_count p) (within k t), none_yet p m pc k))
      (λ t. rw t)

  -- ---- handler h takes what it catches of the rest
  module _ (h : ℕ) (l : h < handler_count p m) (rest taken : Mask) (so_far : Rest (h + 1) rest)
      (bits : (k : ℕ) → has taken k ≡ has rest k && (ltb k (class_count p) && catches p m pc k h)) where
    pub rest_more : (r : Mask) → ((k : ℕ) → has r k ≡ has rest k && not (has taken k)) → Rest h r
    rest_more r left k =
        left k
        ∙ rw (bits k, so_far k, more_passed p m pc h k l)
        (leaves_rest (has mask k) (ltb k (class_count p)) (passed p m pc (h + 1) k) (catches p m pc k h))

    here : (k : ℕ) → passed p m pc (h + 1) k ≡ true → catches p m pc k h ≡ true → handler_for p m pc k ≡ Some h
    here k before e = handler_found p m pc k h l (λ i a b. none_after p m pc (h + 1) k before i (omega arith) b) e

    -- a class that it takes
    pub record Taken (k : ℕ) : Type 0 where
      pub within : k < class_count p
      pub in_mask : has mask k ≡ true
      pub handler : handler_for p m pc k ≡ Some h

    pub is_taken_lem : (k : ℕ) → has taken k ≡ true → Taken k
    is_taken_lem k e =
        let (r, t) = both_true (has rest k) (ltb k (class_count p) && catches p m pc k h) (sym (bits k) ∙ e) in
        let (less, caught) = both_true (ltb k (class_count p)) (catches p m pc k h) t in
        let (a, before) = both_true (has mask k && ltb k (class_count p)) (passed p m pc (h + 1) k) (sym (so_far k) ∙ r) in
        record {
          within = ltb-true k (class_count p) less;
          in_mask = (both_true (has mask k) (ltb k (class_count p)) a).0;
          handler = here k before caught;
        }

    -- a class that a handler from h on catches, and none after h in number, is one that h takes
    pub taken_now : (k : ℕ) → k < class_count p → has mask k ≡ true → passed p m pc (h + 1) k ≡ true → passed p m pc h k ≡ false
        → (has taken k ≡ true) × (handler_for p m pc k ≡ Some h)
    taken_now k less e before f =
        let caught = first_fails (catches p m pc k h) (passed p m pc (h + 1) k) before (sym (more_passed p m pc h k l) ∙ f) in
        (bits k ∙ rw (so_far k, e, before, caught, lt-ltb k (class_count p) less), here k before caught)

  -- ---- the rest after the last line: the classes that no handler catches
  module _ (rest : Mask) (left : Rest 0 rest) where
    pub in_rest : (k : ℕ) → k < class_count p → has mask k ≡ true → passed p m pc 0 k ≡ true → has rest k ≡ true
    in_rest k l e z = left k ∙ rw (e, lt-ltb k (class_count p) l, z)

    pub rest_uncaught : (k : ℕ) → has rest k ≡ true → (k < class_count p) × (has mask k ≡ true) × (handler_for p m pc k ≡ None)
    rest_uncaught k r =
        let (a, z) = both_true (has mask k && ltb k (class_count p)) (passed p m pc 0 k) (sym (left k) ∙ r) in
        let (e, l) = both_true (has mask k) (ltb k (class_count p)) a in
        (ltb-true k (class_count p) l, e, uncaught p m pc k z)
