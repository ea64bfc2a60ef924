-- Rules 9 and 10 of the classes in a mask as those of an instruction, and of a class that it raises itself. Assumes nothing.
use mathlib.Core.Path.{◌≡◌, refl, sym, ap, ◌∙◌}
use Rattle.std.specs.Prelude.{None, Some}
use mathlib.Core.Bool.{Bool, true, false, false≢true, not, ◌&&◌, ◌||◌}
use Prim.Native.Nat.{ℕ, zero, suc, ◌≤◌, ◌<◌}
use native.Mathlib.Omega.{arith}
use lib.Dec.{eqb, ltb}
use borrow.Author.Tests.{lt-ltb, ltb-true, eq-eqb, eqb-true}
use Rattle.instruction.specs.declared.Operation.{Operation}
use Rattle.instruction.specs.declared.Instruction.{Instruction}
use Rattle.instruction.specs.declared.Instruction.TheVariants.{Binop, CheckCast}
use Rattle.instruction.specs.Word.{pick}
use Rattle.instruction.proofs.Flags.{both_true, or_right, if_use, if_true}
use Rattle.mask.specs.declared.Mask.{Mask}
use Rattle.mask.specs.Mask.{zero_bit, has, every}
use Rattle.mask.proofs.Laws.{same_test, every_at, every_all}
use Rattle.mask.proofs.Sets.{and_end, no_bit}
use Rattle.arithmetic.specs.Arithmetic.{divides}
use Rattle.program.specs.Program.{Program, null_class, arithmetic_class, cast_class, class_count}
use Rattle.search.specs.Search.{below}
use Rattle.flow.specs.Claim.{register_at, Claim}
use Rattle.flow.specs.Flows.{Flows, ◌&◌, some, kept}
use Rattle.flow.specs.Rules.{own, null_in, into_handler, into_leaving, raised_by, raising}
use Rattle.sets.specs.Sets.{fails_cast}
use Rattle.slots.specs.Layout.{mask_of}
use Rattle.rules.specs.Broken.{broken_in, each_in, raised_rule, own_rule}

-- ---- tests
or_cases : {P : Type 0} (a b : Bool) → (a ≡ true → P) → (b ≡ true → P) → a || b ≡ true → P
or_cases true b h k e = h refl
or_cases false b h k e = k e

both : (a b : Bool) → a ≡ true → b ≡ true → a && b ≡ true
both a b e f = rw (e, f)

pub asked_if : (a b t : Bool) → not (a && b) || t ≡ not a || (not b || t)
asked_if true b t = refl
asked_if false b t = refl

-- ---- a class more
module _ (n : ℕ) (few : n ≤ 64) (mask r : Mask) (may : Bool) (b : ℕ)
    (bits : (k : ℕ) → has r k ≡ has mask k || (eqb k b && (ltb k 64 && may))) (test : ℕ → Bool) where
  abbrev alone : Bool
  alone = not may || (not (ltb b n) || test b)

  abbrev before : ℕ → Bool
  before k = not (has mask k) || test k

  abbrev after : ℕ → Bool
  after k = not (has r k) || test k

  there : every n after ≡ true → alone && every n before ≡ true
  there e =
      both alone (every n before)
      (if_true may (not (ltb b n) || test b)
      (λ y. if_true (ltb b n) (test b)
      (λ l.
      let less : b < n = ltb-true b n l in
      if_use (has r b) (test b) (every_at n after e b less)
      (bits b ∙ or_right (has mask b) (eqb b b && (ltb b 64 && may)) (rw (y, eq-eqb b b refl, lt-ltb b 64 (omega (arith, less, few))))))))
      (every_all n before
      (λ k l. if_true (has mask k) (test k) (λ h. if_use (has r k) (test k) (every_at n after e k l) (bits k ∙ rw h))))

  back : alone && every n before ≡ true → every n after ≡ true
  back e =
      let (o, all) = both_true alone (every n before) e in
      every_all n after
      (λ k l. if_true (has r k) (test k)
      (λ h. or_cases (has mask k) (eqb k b && (ltb k 64 && may))
      (λ g. if_use (has mask k) (test k) (every_at n before all k l) g)
      (λ g.
      let (z, rest) = both_true (eqb k b) (ltb k 64 && may) g in
      let y = (both_true (ltb k 64) may rest).1 in
      let same : k ≡ b = eqb-true k b z in
      ap test same ∙ if_use (ltb b n) (test b) (if_use may (not (ltb b n) || test b) o y) (lt-ltb b n (omega (arith, same, l))))
      (sym (bits k) ∙ h)))

  pub with_own : every n (λ k. not (has r k) || test k)
      ≡ (not may || (not (ltb b n) || test b)) && every n (λ k. not (has mask k) || test k)
  with_own = same_test (every n after) (alone && every n before) there back

none_each : (n : ℕ) (test : ℕ → Bool) → every n (λ k. not (has (mask_of 0) k) || test k) ≡ true
none_each n test =
    every_all n (λ k. not (has (mask_of 0) k) || test k)
    (λ k l. if_true (has (mask_of 0) k) (test k) (λ h. absurd (false≢true (sym (no_bit k) ∙ h))))

module _ (p : Program) (c : Claim) (m pc : ℕ) where
  -- a mask that has just the classes of an instruction
  pub raised_by_lem : (i : Instruction) (r : Mask) → ((f : ℕ → Flows) → each_in p r (λ k. kept c (f k)) ≡ kept c (raised_by p m pc i f))
      → raised_rule p c m pc r ≡ broken_in c (raising p m pc i)
  unfolding raised_rule
  raised_by_lem i r h =
      ap (λ (t : Bool). pick t (pick (each_in p r (λ k. kept c (into_leaving p m pc k))) None (Some 10)) (Some 9)) (h (into_handler p m pc))
      ∙ ap (λ (t : Bool). pick (kept c (raised_by p m pc i (into_handler p m pc))) (pick t None (Some 10)) (Some 9)) (h (into_leaving p m pc))

  module _ (few : class_count p ≤ 64) where
    -- the class of null besides, where register a may be null
    pub with_null : (a : ℕ) (mask r : Mask)
        → ((k : ℕ) → has r k ≡ has mask k || (eqb k null_class && (ltb k 64 && has (c (register_at m pc a)) zero_bit)))
        → (asks : (ℕ → Flows) → Flows) → ((f : ℕ → Flows) → each_in p mask (λ k. kept c (f k)) ≡ kept c (asks f))
        → (f : ℕ → Flows) → each_in p r (λ k. kept c (f k)) ≡ kept c (null_in p m pc a f & asks f)
    with_null a mask r bits asks h f =
        with_own (class_count p) few mask r (has (c (register_at m pc a)) zero_bit) null_class bits (λ k. kept c (f k))
        ∙ ap (◌&&◌ (kept c (null_in p m pc a f))) (h f)

    module _ (k : ℕ) (may : Bool) (r : Mask) (bits : (j : ℕ) → has r j ≡ has (mask_of 0) j || (eqb j k && (ltb j 64 && may))) where
      only_own : (f : ℕ → Flows) → each_in p r (λ j. kept c (f j)) ≡ not may || kept c (own p m pc k f)
      only_own f =
          with_own (class_count p) few (mask_of 0) r may k bits (λ j. kept c (f j))
          ∙ ap (◌&&◌ (not may || kept c (own p m pc k f))) (none_each (class_count p) (λ j. kept c (f j)))
          ∙ and_end (not may || kept c (own p m pc k f))

      pub own_raised : raised_rule p c m pc r ≡ own_rule p c m pc may k
      unfolding raised_rule
      own_raised =
          ap (λ (t : Bool). pick t (pick (each_in p r (λ j. kept c (into_leaving p m pc j))) None (Some 10)) (Some 9)) (only_own (into_handler p m pc))
          ∙ ap (λ (t : Bool). pick (not may || kept c (own p m pc k (into_handler p m pc))) (pick t None (Some 10)) (Some 9))
          (only_own (into_leaving p m pc))

  -- ---- a division
  pub zero_raised : (o : Operation) (a b r : ℕ) (may : Bool) → may ≡ divides o && has (c (register_at m pc r)) zero_bit
      → own_rule p c m pc may arithmetic_class ≡ broken_in c (raising p m pc (Binop o a b r))
  zero_raised o a b r may e =
      let x = kept c (own p m pc arithmetic_class (into_handler p m pc)) in
      let y = kept c (own p m pc arithmetic_class (into_leaving p m pc)) in
      let h = has (c (register_at m pc r)) zero_bit in
      ap (λ (t : Bool). pick (not t || x) (pick (not t || y) None (Some 10)) (Some 9)) e
      ∙ ap (λ (t : Bool). pick t (pick (not (divides o && h) || y) None (Some 10)) (Some 9)) (asked_if (divides o) h x)
      ∙ ap (λ (t : Bool). pick (not (divides o) || (not h || x)) (pick t None (Some 10)) (Some 9)) (asked_if (divides o) h y)

-- ---- a cast
if_either : (a b s x : Bool) → (not a || (not b || x)) && (not s || x) ≡ not ((a && b) || s) || x
if_either true true true true = refl
if_either true true true false = refl
if_either true true false true = refl
if_either true true false false = refl
if_either true false s x = refl
if_either false b s x = refl

-- a test of each number, the same for all
all_if : (n : ℕ) (a b : ℕ → Bool) (x : Bool) → every n (λ j. not (a j) || (not (b j) || x)) ≡ not (some n (λ j. a j && b j)) || x
all_if zero a b x = refl
all_if (suc n) a b x =
    ap (◌&&◌ (not (a zero) || (not (b zero) || x))) (all_if n (λ j. a (suc j)) (λ j. b (suc j)) x)
    ∙ if_either (a zero) (b zero) (some n (λ j. a (suc j) && b (suc j))) x

pub cast_raised : (p : Program) (c : Claim) (m pc a k : ℕ) (mask : Mask) → mask ≡ c (register_at m pc a)
    → own_rule p c m pc (fails_cast p mask k) cast_class ≡ broken_in c (raising p m pc (CheckCast a k))
unfolding fails_cast
cast_raised p c m pc a k mask e =
    let x = kept c (own p m pc cast_class (into_handler p m pc)) in
    let y = kept c (own p m pc cast_class (into_leaving p m pc)) in
    let in-mask = has (c (register_at m pc a)) in
    let each : Bool → Bool = λ (t : Bool). every (class_count p) (λ j. not (in-mask j) || (not (not (below p j k)) || t)) in
    let fails = some (class_count p) (λ j. in-mask j && not (below p j k)) in
    let same : (t : Bool) → not fails || t ≡ each t = λ t. sym (all_if (class_count p) in-mask (λ j. not (below p j k)) t) in
    rw e
    (ap (λ (t : Bool). pick t (pick (not fails || y) None (Some 10)) (Some 9)) (same x)
    ∙ ap (λ (t : Bool). pick (each x) (pick t None (Some 10)) (Some 9)) (same y))
