-- A test of each class in a mask and its callee, as a test of each callee. Assumes nothing.
use mathlib.Core.Path.{◌≡◌, refl, sym, ◌∙◌}
use mathlib.Core.Bool.{Bool, true, not, ◌&&◌, ◌||◌}
use Prim.Native.Nat.{ℕ, ◌<◌}
use Rattle.std.specs.Prelude.{Option, Some, None}
use Rattle.instruction.proofs.Flags.{both_true, if_use, if_true}
use Rattle.mask.specs.Mask.{every}
use Rattle.mask.proofs.Laws.{same_test, every_at, every_all}
use Rattle.flow.specs.Flows.{some, is_found, if_found}
use Rattle.flow.proofs.Callees.{some_at, some_one, found_is, is_found_lem}

-- a test of the callee that was found, by that callee
if_found_lem : (r : Option ℕ) (test : ℕ → Bool) → ((q : ℕ) → r ≡ Some q → test q ≡ true) → if_found r test ≡ true
if_found_lem (Some q) test h = h q refl
if_found_lem None test h = refl

found_if : (r : Option ℕ) (test : ℕ → Bool) (q : ℕ) → if_found r test ≡ true → r ≡ Some q → test q ≡ true
found_if r test q e f = rw f at e

module _ (n methods : ℕ) (mask : ℕ → Bool) (find : ℕ → Option ℕ) (callees : ℕ → Bool)
    (lead : (q : ℕ) → callees q ≡ some n (λ k. mask k && is_found (find k) q))
    (found_in : (k q : ℕ) → find k ≡ Some q → q < methods) where
  -- each class in the mask with its callee passes where each callee does
  pub by_callee : (test : ℕ → Bool)
      → every n (λ k. not (mask k) || if_found (find k) test) ≡ every methods (λ q. not (callees q) || test q)
  by_callee test =
      same_test (every n (λ k. not (mask k) || if_found (find k) test)) (every methods (λ q. not (callees q) || test q))
      (λ e. every_all methods (λ q. not (callees q) || test q)
      (λ q l. if_true (callees q) (test q)
      (λ h.
      let (k, less, t) = some_one n (λ k. mask k && is_found (find k) q) (sym (lead q) ∙ h) in
      let (m, f) = both_true (mask k) (is_found (find k) q) t in
      found_if (find k) test q
      (if_use (mask k) (if_found (find k) test) (every_at n (λ k. not (mask k) || if_found (find k) test) e k less) m)
      (found_is (find k) q f))))
      (λ e. every_all n (λ k. not (mask k) || if_found (find k) test)
      (λ k l. if_true (mask k) (if_found (find k) test)
      (λ h. if_found_lem (find k) test
      (λ q f.
      let c : callees q ≡ true = lead q ∙ some_at n (λ k. mask k && is_found (find k) q) k l (rw (h, is_found_lem (find k) q f)) in
      if_use (callees q) (test q) (every_at methods (λ q. not (callees q) || test q) e q (found_in k q f)) c))))

  -- the same with a test of the class and its callee
  module _ (each : ℕ → ℕ → Bool) (test : ℕ → Bool) where
    abbrev classes : ℕ → Bool
    classes k = not (mask k) || if_found (find k) (λ q. each k q && test q)

    abbrev given : ℕ → ℕ → Bool
    given q k = not (mask k && is_found (find k) q) || each k q

    abbrev called : ℕ → Bool
    called q = not (callees q) || (every n (given q) && test q)

    -- class k leads to q
    one : every n classes ≡ true → (k q : ℕ) → k < n → mask k ≡ true → find k ≡ Some q → (each k q ≡ true) × (test q ≡ true)
    one e k q l h f =
        both_true (each k q) (test q)
        (found_if (find k) (λ q. each k q && test q) q
        (if_use (mask k) (if_found (find k) (λ q. each k q && test q)) (every_at n classes e k l) h)
        f)

    there : every n classes ≡ true → every methods called ≡ true
    there e =
        every_all methods called
        (λ q l. if_true (callees q) (every n (given q) && test q)
        (λ h.
        let (k, less, t) = some_one n (λ k. mask k && is_found (find k) q) (sym (lead q) ∙ h) in
        let (m, f) = both_true (mask k) (is_found (find k) q) t in
        let all : every n (given q) ≡ true =
        every_all n (given q)
        (λ i s. if_true (mask i && is_found (find i) q) (each i q)
        (λ g.
        let (a, b) = both_true (mask i) (is_found (find i) q) g in
        (one e i q s a (found_is (find i) q b)).0)) in
        rw (all, (one e k q less m (found_is (find k) q f)).1)))

    back : every methods called ≡ true → every n classes ≡ true
    back e =
        every_all n classes
        (λ k l. if_true (mask k) (if_found (find k) (λ q. each k q && test q))
        (λ h. if_found_lem (find k) (λ q. each k q && test q)
        (λ q f.
        let leads : mask k && is_found (find k) q ≡ true = rw (h, is_found_lem (find k) q f) in
        let c : callees q ≡ true = lead q ∙ some_at n (λ k. mask k && is_found (find k) q) k l leads in
        let (all, t) = both_true (every n (given q)) (test q) (if_use (callees q) (every n (given q) && test q) (every_at methods called e q (found_in k q f)) c) in
        let a : each k q ≡ true = if_use (mask k && is_found (find k) q) (each k q) (every_at n (given q) all k l) leads in
        rw (a, t))))

    pub by_receiver : every n (λ k. not (mask k) || if_found (find k) (λ q. each k q && test q))
        ≡ every methods (λ q. not (callees q) || (every n (λ k. not (mask k && is_found (find k) q) || each k q) && test q))
    by_receiver = same_test (every n classes) (every methods called) there back

-- a test of each class that leaves a callee, as a test of each class that leaves one of them
pub by_leaving : (n methods : ℕ) (callees : ℕ → Bool) (leaves : ℕ → ℕ → Bool) (raised : ℕ → Bool)
    → ((k : ℕ) → raised k ≡ some methods (λ q. callees q && leaves q k)) → (test : ℕ → Bool)
    → every n (λ k. not (raised k) || test k) ≡ every methods (λ q. not (callees q) || every n (λ k. not (leaves q k) || test k))
by_leaving n methods callees leaves raised are test =
    same_test (every n (λ k. not (raised k) || test k)) (every methods (λ q. not (callees q) || every n (λ k. not (leaves q k) || test k)))
    (λ e. every_all methods (λ q. not (callees q) || every n (λ k. not (leaves q k) || test k))
    (λ q l. if_true (callees q) (every n (λ k. not (leaves q k) || test k))
    (λ h. every_all n (λ k. not (leaves q k) || test k)
    (λ k less. if_true (leaves q k) (test k)
    (λ g.
    let r : raised k ≡ true = are k ∙ some_at methods (λ q. callees q && leaves q k) q l (rw (h, g)) in
    if_use (raised k) (test k) (every_at n (λ k. not (raised k) || test k) e k less) r)))))
    (λ e. every_all n (λ k. not (raised k) || test k)
    (λ k l. if_true (raised k) (test k)
    (λ r.
    let (q, less, t) = some_one methods (λ q. callees q && leaves q k) (sym (are k) ∙ r) in
    let (h, g) = both_true (callees q) (leaves q k) t in
    if_use (leaves q k) (test k)
    (every_at n (λ k. not (leaves q k) || test k)
    (if_use (callees q) (every n (λ k. not (leaves q k) || test k)) (every_at methods (λ q. not (callees q) || every n (λ k. not (leaves q k) || test k)) e q less) h)
    k
    l)
    g)))
