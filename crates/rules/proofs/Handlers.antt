-- Rules 9 and 10 of the classes in a mask, handler by handler in the order of the text: each takes those that it catches of the rest.
-- Assumes nothing.
use mathlib.Core.Path.{◌≡◌, refl, sym, ap, ◌∙◌}
use Rattle.std.specs.Prelude.{Option, None, Some}
use mathlib.Core.Bool.{Bool, true, false, false≢true, not, ◌&&◌, ◌||◌}
use Prim.Native.Nat.{ℕ, ◌+◌, ◌≤◌, ◌<◌}
use lib.Dec.{eqb, ltb}
use borrow.Author.Tests.{lt-ltb}
use Rattle.std.specs.Prelude.{Option, Some}
use Rattle.text.proofs.Cases.{by_test}
use Rattle.instruction.specs.declared.Instruction.TheVariants.{Throw}
use Rattle.instruction.specs.Word.{pick}
use Rattle.instruction.proofs.Flags.{both_true, if_use, if_true}
use Rattle.mask.specs.declared.Mask.{Mask}
use Rattle.mask.specs.Mask.{zero_bit, has, is_empty, subset}
use Rattle.mask.proofs.Laws.{same_test, and_false, every_at, every_all, every_not, every_same, empty_none, empty_subset, subset_at, subset_all}
use Rattle.mask.proofs.Sets.{no_bit, subset_fails}
use Rattle.program.specs.Program.{Program, null_class, class_count, handler_count, handler_target}
use Rattle.search.specs.Search.{below, catches, handler_for}
use Rattle.flow.specs.Claim.{register_at, result_at, leaving, Claim}
use Rattle.flow.specs.Flows.{Flows, kept, if_caught, if_uncaught}
use Rattle.flow.specs.Rules.{carried, into_handler, into_leaving, thrown_classes, leaving_classes, raising}
use Rattle.slots.specs.Layout.{mask_of}
use Rattle.sets.proofs.Handlers.{same_classes, passed, none_yet, Rest, uncaught, is_taken_lem, taken_now, in_rest, rest_uncaught}
use Rattle.rules.specs.Broken.{broken_in, each_in, raised_rule}
use Rattle.rules.proofs.Own.{asked_if, raised_by_lem, with_null}

not_either : (a b : Bool) → a || b ≡ false → (a ≡ false) × (b ≡ false)
not_either true b e = absurd (false≢true (sym e))
not_either false b e = (refl, e)

not_both : (a b : Bool) → a && b ≡ false → a ≡ true → b ≡ false
not_both true b e h = e
not_both false b e h = absurd (false≢true h)

-- ---- the classes of the program in a mask
module _ (p : Program) (mask rest classes : Mask) (bits : (k : ℕ) → has rest k ≡ has mask k && has classes k)
    (all : (k : ℕ) → has classes k ≡ ltb k (class_count p)) where
  same_each : (test : ℕ → Bool) → each_in p rest test ≡ each_in p mask test
  same_each test =
      every_same (class_count p) (λ k. not (has rest k) || test k) (λ k. not (has mask k) || test k)
      (λ k l. ap (λ (t : Bool). not t || test k) (same_classes p mask rest classes bits all k l))

  pub same_raised : (c : Claim) (m pc : ℕ) → raised_rule p c m pc rest ≡ raised_rule p c m pc mask
  unfolding raised_rule
  same_raised c m pc =
      rw (same_each (λ k. kept c (into_handler p m pc k)), same_each (λ k. kept c (into_leaving p m pc k)))

-- ---- what leaves a method, and what is thrown
-- the first broken of rules 9 and 10, by their tests
abbrev first_of : Bool → Bool → Option ℕ
first_of nine ten = pick nine (pick ten None (Some 10)) (Some 9)

module _ (p : Program) (c : Claim) (m pc : ℕ) where
  pub leaving_raised : (q : ℕ) → raised_rule p c m pc (c (leaving q))
      ≡ first_of (kept c (leaving_classes p m pc q (into_handler p m pc))) (kept c (leaving_classes p m pc q (into_leaving p m pc)))
  unfolding raised_rule
  leaving_raised q = refl

  module _ (r : ℕ) (thrown : Mask)
      (bits : (k : ℕ) → has thrown k ≡ has (c (register_at m pc r)) k && (ltb k (class_count p) && below p k 1)) where
    each_thrown : (f : ℕ → Flows) → each_in p thrown (λ k. kept c (f k)) ≡ kept c (thrown_classes p m pc r f)
    each_thrown f =
        every_same (class_count p) (λ k. not (has thrown k) || kept c (f k))
        (λ k. not (has (c (register_at m pc r)) k) || (not (below p k 1) || kept c (f k)))
        (λ k l.
        let is : has thrown k ≡ has (c (register_at m pc r)) k && below p k 1 = bits k ∙ rw (lt-ltb k (class_count p) l) in
        ap (λ (t : Bool). not t || kept c (f k)) is ∙ asked_if (has (c (register_at m pc r)) k) (below p k 1) (kept c (f k)))

    pub thrown_raised : class_count p ≤ 64 → (all : Mask)
        → ((k : ℕ) → has all k ≡ has thrown k || (eqb k null_class && (ltb k 64 && has (c (register_at m pc r)) zero_bit)))
        → raised_rule p c m pc all ≡ broken_in c (raising p m pc (Throw r))
    thrown_raised few all more =
        raised_by_lem p c m pc (Throw r) all (with_null p c m pc few r thrown all more (thrown_classes p m pc r) each_thrown)

module _ (p : Program) (c : Claim) (m pc : ℕ) (mask : Mask) where
  -- rules 9 and 10 of class k, by the answer to which handler it has
  handled : ℕ → Option ℕ → Bool
  handled k r = if_caught r (λ i. kept c (carried p m pc (handler_target p m i)) && has (c (result_at m (handler_target p m i))) k)

  unhandled : ℕ → Option ℕ → Bool
  unhandled k r = if_uncaught r (has (c (leaving m)) k)

  -- each class that a handler from number h on catches has its handler, for which rule 9 holds
  abbrev pub Held : ℕ → Type 0
  Held h = (k : ℕ) → k < class_count p → has mask k ≡ true → passed p m pc h k ≡ false
      → (i : ℕ) × (handler_for p m pc k ≡ Some i) × (kept c (into_handler p m pc k) ≡ true)

  pub held_start : Held (handler_count p m)
  held_start k l e f = absurd (false≢true (sym f ∙ none_yet p m pc k))

  -- ---- one handler more
  module _ (h : ℕ) (l : h < handler_count p m) (rest taken : Mask) (so_far : Rest p m pc mask (h + 1) rest)
      (bits : (k : ℕ) → has taken k ≡ has rest k && (ltb k (class_count p) && catches p m pc k h)) where
    to : ℕ
    to = handler_target p m h

    -- rule 9 of a class that h catches
    by_handler : (k : ℕ) → handler_for p m pc k ≡ Some h
        → kept c (into_handler p m pc k) ≡ kept c (carried p m pc to) && has (c (result_at m to)) k
    unfolding to handled
    by_handler k e = ap (handled k) e

    abbrev pub goes_into : Bool
    goes_into =
        is_empty taken
        || (kept c (carried p m pc (handler_target p m h)) && subset taken (c (result_at m (handler_target p m h))))

    goes : (k : ℕ) → goes_into ≡ true → has taken k ≡ true → kept c (carried p m pc to) && has (c (result_at m to)) k ≡ true
    unfolding to
    goes k ok e =
        by_test (is_empty taken)
        (λ t. absurd (false≢true (sym (empty_none taken t k) ∙ e)))
        (λ t.
        let (a, b) = both_true (kept c (carried p m pc to)) (subset taken (c (result_at m to))) (rw t at ok) in
        rw (a, subset_at taken (c (result_at m to)) b k e))

    pub held_more : goes_into ≡ true → Held (h + 1) → Held h
    held_more ok held k less e f =
        by_test (passed p m pc (h + 1) k)
        (λ before.
        let (took, handler) = taken_now p m pc mask h l rest taken so_far bits k less e before f in
        (h, handler, by_handler k handler ∙ goes k ok took))
        (λ before. held k less e before)

    fails : (k : ℕ) → has taken k ≡ true → kept c (carried p m pc to) && has (c (result_at m to)) k ≡ false
        → raised_rule p c m pc mask ≡ Some 9
    unfolding raised_rule
    fails k e f =
        let is = is_taken_lem p m pc mask h l rest taken so_far bits k e in
        let broken : kept c (into_handler p m pc k) ≡ false = by_handler k is.handler ∙ f in
        rw
        (every_not (class_count p) (λ j. not (has mask j) || kept c (into_handler p m pc j)) k is.within
        (rw is.in_mask broken))

    pub broken_here : goes_into ≡ false → raised_rule p c m pc mask ≡ Some 9
    unfolding to
    broken_here f =
        let (some, none) = not_either (is_empty taken) (kept c (carried p m pc to) && subset taken (c (result_at m to))) f in
        by_test (kept c (carried p m pc to))
        (λ t.
        let fewer = not_both (kept c (carried p m pc to)) (subset taken (c (result_at m to))) none t in
        let (k, e, out) = subset_fails taken (c (result_at m to)) fewer in
        fails k e (ap (◌&&◌ (kept c (carried p m pc to))) out ∙ and_false (kept c (carried p m pc to))))
        (λ t.
        let (k, e, out) = subset_fails taken (mask_of 0) (sym (empty_subset taken (mask_of 0) no_bit) ∙ some) in
        fails k e (ap (λ (b : Bool). b && has (c (result_at m to)) k) t))

  -- ---- all handlers
  module _ (rest : Mask) (left : Rest p m pc mask 0 rest) (held : Held 0) where
    all_handled : each_in p mask (λ k. kept c (into_handler p m pc k)) ≡ true
    unfolding handled
    all_handled =
        every_all (class_count p) (λ k. not (has mask k) || kept c (into_handler p m pc k))
        (λ k l. if_true (has mask k) (kept c (into_handler p m pc k))
        (λ e. by_test (passed p m pc 0 k)
        (λ t. ap (handled k) (uncaught p m pc k t))
        (λ t. (held k l e t).2)))

    rest_leaves : subset rest (c (leaving m)) ≡ each_in p mask (λ k. kept c (into_leaving p m pc k))
    unfolding unhandled
    rest_leaves =
        same_test (subset rest (c (leaving m))) (each_in p mask (λ k. kept c (into_leaving p m pc k)))
        (λ s. every_all (class_count p) (λ k. not (has mask k) || kept c (into_leaving p m pc k))
        (λ k l. if_true (has mask k) (kept c (into_leaving p m pc k))
        (λ e. by_test (passed p m pc 0 k)
        (λ t.
        ap (unhandled k) (uncaught p m pc k t)
        ∙ subset_at rest (c (leaving m)) s k (in_rest p m pc mask rest left k l e t))
        (λ t. ap (unhandled k) (held k l e t).1))))
        (λ s. subset_all rest (c (leaving m))
        (λ k h.
        let (l, e, none) = rest_uncaught p m pc mask rest left k h in
        sym (ap (unhandled k) none)
        ∙ if_use (has mask k) (kept c (into_leaving p m pc k))
        (every_at (class_count p) (λ k. not (has mask k) || kept c (into_leaving p m pc k)) s k l)
        e))

    pub raised_is : (t : Bool) → t ≡ subset rest (c (leaving m)) → (n : Option ℕ) → n ≡ pick t None (Some 10) → n ≡ raised_rule p c m pc mask
    unfolding raised_rule
    raised_is t e n is = is ∙ rw (all_handled, ← rest_leaves, ← e)
