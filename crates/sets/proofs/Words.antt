-- The sets of a program in their words, and read from them. Assumes nothing.
use mathlib.Core.Path.{◌≡◌, refl, sym, ap, ◌∙◌}
use mathlib.Core.Bool.{Bool, true, false, ◌&&◌}
use mathlib.Core.List.{List}
use Prim.Native.Nat.{ℕ, ◌+◌, ◌-◌, ◌^◌, ◌≤◌, ◌<◌}
use native.Mathlib.Decide.{ℕ_discrete}
use native.Mathlib.Omega.{arith}
use lib.Dec.{eqb, ltb}
use lib.ListN.{length, get_or, set}
use lib.Seq.{get_or-set_same, get_or-set_other}
use borrow.Author.Tests.{ltb-true, ltb-false, eqb-true, lt-ltb, le-ltb}
use Rattle.text.proofs.Cases.{by_test}
use Rattle.instruction.proofs.Flags.{both_true}
use Rattle.mask.specs.declared.Mask.{Mask}
use Rattle.mask.specs.Mask.{has}
use Rattle.mask.proofs.Laws.{past_has, and_false}
use Rattle.mask.proofs.Sets.{and_end, no_bit, where_has, has_where}
use Rattle.program.specs.Lists.{tab}
use Rattle.program.specs.Program.{Program, class_count, method_count, method_name, method_kind, method_class, arguments}
use Rattle.program.proofs.Lists.{getD_tab, tab_cong, tab_getD}
use Rattle.search.specs.Search.{below, answers, virtual_callee}
use Rattle.machine.proofs.Found.{callee_answers}
use Rattle.flow.specs.Flows.{is_found}
use Rattle.flow.proofs.Callees.{found_is}
use Rattle.slots.specs.Layout.{mask_of, mask_at}
use Rattle.sets.specs.Sets.{leads, is_in, set_word, sets_of}
use Rattle.sets.specs.Inside.{named, below_set, class_set, leading_set}
use Rattle.search.proofs.Upward.{below_less}

module _ (p : Program) where
  -- ---- the sets by their test
  pub below_in_lem : (j k : ℕ) → j < 60 → ltb k (class_count p) && below p k j ≡ is_in p j k
  unfolding is_in
  below_in_lem j k l = rw (lt-ltb j 60 l)

  pub all_in : (j k : ℕ) → 60 ≤ j → j < 64 → ltb k (class_count p) ≡ is_in p j k
  unfolding is_in
  all_in j k l h = rw (le-ltb j 60 l, lt-ltb j 64 h) (sym (and_end (ltb k (class_count p))))

  pub leading_in : (j k : ℕ) → 64 ≤ j → ltb k (class_count p) && leads p (j - 64) k ≡ is_in p j k
  unfolding is_in
  leading_in j k l = rw (le-ltb j 60 (omega arith), le-ltb j 64 l)

  pub word_is : (j : ℕ) (m : Mask) → m.bits < 2 ^ 64 → ((k : ℕ) → has m k ≡ is_in p j k) → m.bits ≡ set_word p j
  unfolding set_word
  word_is j m l bits = has_where m (is_in p j) l (λ k less. bits k)

  -- ---- all words
  pub words_more : (ws : List ℕ) (j w : ℕ) → length ws ≡ 80 → j < 80 → w ≡ set_word p j
      → ((i : ℕ) → i < j → get_or ws i 0 ≡ set_word p i)
      → (i : ℕ) → i < j + 1 → get_or (set ws j w) i 0 ≡ set_word p i
  words_more ws j w size l e so_far i less = by (ℕ_discrete i j)
    where
      by : Dec (i ≡ j) → get_or (set ws j w) i 0 ≡ set_word p i
      by (yes same) = rw (same, get_or-set_same ws j w 0 (omega (arith, size))) e
      by (no other) = rw (get_or-set_other ws j i w 0 other) (so_far i (omega (arith, other)))

  pub words_all : (ws : List ℕ) → length ws ≡ 80 → ((i : ℕ) → i < 80 → get_or ws i 0 ≡ set_word p i) → ws ≡ sets_of p
  unfolding sets_of
  words_all ws size h =
      sym (tab_getD ws 0)
      ∙ ap (λ (n : ℕ). tab n (λ i. get_or ws i 0)) size
      ∙ tab_cong 80 (λ i. get_or ws i 0) (set_word p) h

  -- ---- sets read from them
  read_word : (j : ℕ) → j < 80 → get_or (sets_of p) j 0 ≡ set_word p j
  unfolding sets_of
  read_word j l = getD_tab 80 (set_word p) j 0 l

  module _ (few : class_count p ≤ 60) where
    past_in : (j k : ℕ) → 64 ≤ k → is_in p j k ≡ false
    unfolding is_in
    past_in j k l = rw (le-ltb k (class_count p) (omega arith))

    word_has : (j k : ℕ) → has (mask_of (set_word p j)) k ≡ is_in p j k
    unfolding set_word
    word_has j k =
        by_test (ltb k 64)
        (λ t. where_has (is_in p j) k (ltb-true k 64 t))
        (λ t. past_has _ k (ltb-false k 64 t) ∙ sym (past_in j k (ltb-false k 64 t)))

    read_has : (j k : ℕ) → j < 80 → has (mask_at (sets_of p) j) k ≡ is_in p j k
    read_has j k l = ap (λ (n : ℕ). has (mask_of n) k) (read_word j l) ∙ word_has j k

    -- the set in a word, where the words are the program's
    pub word_bits : (ws : List ℕ) → ws ≡ sets_of p → (j k : ℕ) → j < 80 → has (mask_at ws j) k ≡ is_in p j k
    word_bits ws made j k l = ap (λ (xs : List ℕ). has (mask_at xs j) k) made ∙ read_has j k l

    -- no class is past the first 60
    pub none_below : (c k : ℕ) → 60 ≤ c → ltb k (class_count p) && below p k c ≡ false
    none_below c k l =
        by_test (ltb k (class_count p))
        (λ h. rw (below_less p k c (omega (arith, ltb-true k (class_count p) h))) (and_false (ltb k (class_count p))))
        (λ h. rw h)

    pub below_has : (c k : ℕ) → has (below_set (sets_of p) c) k ≡ ltb k (class_count p) && below p k c
    below_has c k =
        by_test (ltb c 60)
        (λ t. rw t (read_has c k (omega (arith, ltb-true c 60 t)) ∙ sym (below_in_lem c k (ltb-true c 60 t))))
        (λ t. rw t (no_bit k ∙ sym (none_below c k (ltb-false c 60 t))))

    pub classes_has : (k : ℕ) → has (class_set (sets_of p)) k ≡ ltb k (class_count p)
    classes_has k = read_has 60 k (omega arith) ∙ sym (all_in 60 k (omega arith) (omega arith))

    -- a set that is read from the program's words
    pub below_read : (ws : List ℕ) → ws ≡ sets_of p → (m : Mask) (c k : ℕ) → m ≡ below_set ws c → has m k ≡ ltb k (class_count p) && below p k c
    below_read ws made m c k e =
        ap (λ (x : Mask). has x k) e ∙ ap (λ (xs : List ℕ). has (below_set xs c) k) made ∙ below_has c k

    pub classes_read : (ws : List ℕ) → ws ≡ sets_of p → (m : Mask) (k : ℕ) → m ≡ class_set ws → has m k ≡ ltb k (class_count p)
    classes_read ws made m k e =
        ap (λ (x : Mask). has x k) e ∙ ap (λ (xs : List ℕ). has (class_set xs) k) made ∙ classes_has k

    -- a callee has the call's name and argument count
    callee_named : (name count q k : ℕ) (t : Bool) → is_found (virtual_callee p k name count) q ≡ t → named p name count q ≡ false → t ≡ false
    unfolding answers
    callee_named name count q k true f out =
        let (c, l, a) = callee_answers p name count q k (found_is (virtual_callee p k name count) q f) in
        sym (both_true (eqb (method_class p q) c) (named p name count q) a).1 ∙ out
    callee_named name count q k false f out = refl

    callee_few : method_count p ≤ 16 → (name count q k : ℕ) (t : Bool) → is_found (virtual_callee p k name count) q ≡ t → 16 ≤ q → t ≡ false
    callee_few small name count q k true f out =
        let (c, l, a) = callee_answers p name count q k (found_is (virtual_callee p k name count) q f) in
        absurd (omega (arith, l, small, out))
    callee_few small name count q k false f out = refl

    -- a method that is called by its own name and argument count
    pub named_leads : (name count q k : ℕ) → named p name count q ≡ true
        → leads p q k ≡ is_found (virtual_callee p k name count) q
    named_leads name count q k t =
        let (n, rest) = both_true (eqb (method_name p q) name) (eqb (method_kind p q) 0 && eqb (arguments p q) count) t in
        let a = (both_true (eqb (method_kind p q) 0) (eqb (arguments p q) count) rest).1 in
        rw (eqb-true (method_name p q) name n, eqb-true (arguments p q) count a)

    pub unnamed_leads : (name count q k : ℕ) → named p name count q ≡ false → is_found (virtual_callee p k name count) q ≡ false
    unnamed_leads name count q k e = callee_named name count q k (is_found (virtual_callee p k name count) q) refl e

    pub none_leads : method_count p ≤ 16 → (name count q k : ℕ) → 16 ≤ q → is_found (virtual_callee p k name count) q ≡ false
    none_leads small name count q k l = callee_few small name count q k (is_found (virtual_callee p k name count) q) refl l

    own_has : (q k : ℕ) → q < 16 → has (leading_set (sets_of p) q) k ≡ ltb k (class_count p) && leads p q k
    own_has q k l =
        let same : 64 + q - 64 ≡ q = omega arith in
        rw (lt-ltb q 16 l)
        (read_has (64 + q) k (omega arith)
        ∙ sym (leading_in (64 + q) k (omega arith))
        ∙ ap (λ (i : ℕ). ltb k (class_count p) && leads p i k) same)

    pub leading_has : method_count p ≤ 16 → (name count q k : ℕ)
        → named p name count q && has (leading_set (sets_of p) q) k ≡ ltb k (class_count p) && is_found (virtual_callee p k name count) q
    leading_has small name count q k =
        by_test (named p name count q)
        (λ t.
        by_test (ltb q 16)
        (λ h. rw t (own_has q k (ltb-true q 16 h) ∙ ap (λ (b : Bool). ltb k (class_count p) && b) (named_leads name count q k t)))
        (λ h. rw (t, h, no_bit k, none_leads small name count q k (ltb-false q 16 h)) (sym (and_false (ltb k (class_count p))))))
        (λ t. rw (t, unnamed_leads name count q k t) (sym (and_false (ltb k (class_count p)))))
