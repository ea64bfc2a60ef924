-- Laws of starts: they rise from place 0, lie before the end, and each entire instruction ends where the next starts; so places and
-- addresses say each other. Assumes nothing.
use mathlib.Core.Path.{◌≡◌, refl, sym, ap, ◌∙◌}
use mathlib.Core.Bool.{true}
use mathlib.Core.List.{List, [], ◌∷◌}
use Prim.Native.Nat.{ℕ, zero, suc, ◌+◌, ◌-◌, ◌%◌, ◌≤◌, ◌<◌}
use native.Mathlib.Nat.{not-suc-le-zero, le_of_suc-le-suc}
use native.Mathlib.Omega.{arith}
use lib.Dec.{eqb, ltb, leb}
use lib.ListN.{length, get_or, get_or-eq_default}
use borrow.Author.Tests.{eqb-true, ltb-true, ltb-false, lt-ltb, le-leb, eq-eqb}
use Rattle.text.proofs.Cases.{by_test}
use Rattle.instruction.proofs.Flags.{pick_cases}
use Rattle.opcodes.specs.Opcodes.{length_of}
use Rattle.units.specs.Units.{unit_at, length_at, entire, starts_from, starts_of, index_of, address_in, place_in}

-- ---- lists that rise
-- each is above the one before it, the first at least `low`
abbrev Rising : ℕ → List ℕ → Type 0
Rising low [] = Unit {0}
Rising low (x ∷ xs) = (low ≤ x) × Rising (suc x) xs

lower : (a b : ℕ) (xs : List ℕ) → a ≤ b → Rising b xs → Rising a xs
lower a b [] l r = tt
lower a b (x ∷ xs) l r = (omega (arith, r.0), r.1)

rising_at : (low : ℕ) (xs : List ℕ) → Rising low xs → (a d : ℕ) → a < length xs → low ≤ get_or xs a d
rising_at low [] r a d l = absurd (not-suc-le-zero l)
rising_at low (x ∷ xs) r zero d l = r.0
rising_at low (x ∷ xs) r (suc a) d l =
    let h : suc x ≤ get_or xs a d = rising_at (suc x) xs r.1 a d (le_of_suc-le-suc l) in
    omega (arith, r.0)

-- the place in such a list of what stands at a place
index_of_lem : (low : ℕ) (xs : List ℕ) → Rising low xs → (a d : ℕ) → a < length xs → index_of xs (get_or xs a d) ≡ a
index_of_lem low [] r a d l = absurd (not-suc-le-zero l)
index_of_lem low (x ∷ xs) r zero d l = rw (eq-eqb x x refl)
index_of_lem low (x ∷ xs) r (suc a) d l =
    let h : suc x ≤ get_or xs a d = rising_at (suc x) xs r.1 a d (le_of_suc-le-suc l) in
    by_test (eqb (get_or xs a d) x) (λ t. let e : get_or xs a d ≡ x = eqb-true (get_or xs a d) x t in absurd (omega arith))
    (λ t. rw t (ap suc (index_of_lem (suc x) xs r.1 a d (le_of_suc-le-suc l))))

-- what stands in a list at the place of a number in it
at_index : (xs : List ℕ) (x d : ℕ) → index_of xs x < length xs → get_or xs (index_of xs x) d ≡ x
at_index [] x d l = absurd (not-suc-le-zero l)
at_index (y ∷ ys) x d l =
    by_test (eqb x y) (λ t. rw t (sym (eqb-true x y t)))
    (λ t. rw t (at_index ys x d (le_of_suc-le-suc (rw t at l))))

-- a number above all of a list is not in it
index_out : (xs : List ℕ) (x : ℕ) → ((a : ℕ) → a < length xs → get_or xs a x < x) → index_of xs x ≡ length xs
index_out [] x h = refl
index_out (y ∷ ys) x h =
    let l : y < x = h 0 (omega arith) in
    by_test (eqb x y) (λ t. let e : x ≡ y = eqb-true x y t in absurd (omega arith))
    (λ t. rw t (ap suc (index_out ys x (λ a k. h (suc a) (omega arith)))))

-- ---- starts
-- us are the units of `all` from a place on
record Rest (all us : List ℕ) (at : ℕ) : Type 0 where
  look : (i : ℕ) → get_or us i 0 ≡ get_or all (at + i) 0
  size : length all ≡ at + length us

module _ (all : List ℕ) where
  tail : (u : ℕ) (us : List ℕ) (at : ℕ) → Rest all (u ∷ us) at → Rest all us (suc at)
  tail u us at r =
      record {
        look = λ i. r.look (suc i) ∙ ap (λ (n : ℕ). get_or all n 0) (omega arith);
        size = omega (arith, r.size);
      }

  head : (u : ℕ) (us : List ℕ) (at : ℕ) → Rest all (u ∷ us) at → u ≡ unit_at all at
  head u us at r = r.look 0 ∙ ap (λ (n : ℕ). get_or all n 0) (omega arith)

  rising : (us : List ℕ) (k at : ℕ) → Rising at (starts_from us k at)
  unfolding starts_from
  rising [] k at = tt
  rising (u ∷ us) zero at = (
    omega arith,
    pick_cases (Rising (suc at)) (entire u (suc (length us))) (starts_from us (length_of (u % 256) - 1) (suc at)) []
        (λ _. rising us (length_of (u % 256) - 1) (suc at)) (λ _. tt),
  )
  rising (u ∷ us) (suc k) at = lower at (suc at) (starts_from us k (suc at)) (omega arith) (rising us k (suc at))

  -- a start lies before the end
  before_end : (us : List ℕ) (k at : ℕ) → Rest all us at → (a d : ℕ) → a < length (starts_from us k at)
      → get_or (starts_from us k at) a d < length all
  unfolding starts_from
  before_end [] k at r a d l = absurd (not-suc-le-zero l)
  before_end (u ∷ us) zero at r zero d l = omega (arith, r.size)
  before_end (u ∷ us) zero at r (suc a) d l =
      pick_cases (λ (xs : List ℕ). a < length xs → get_or xs a d < length all) (entire u (suc (length us)))
      (starts_from us (length_of (u % 256) - 1) (suc at)) []
      (λ _ h. before_end us (length_of (u % 256) - 1) (suc at) (tail u us at r) a d h) (λ _ h. absurd (not-suc-le-zero h))
      (le_of_suc-le-suc l)
  before_end (u ∷ us) (suc k) at r a d l = before_end us k (suc at) (tail u us at r) a d l

  -- the first start, after k units of the instruction before
  first_start : (us : List ℕ) (k at : ℕ) → Rest all us at → k ≤ length us → get_or (starts_from us k at) 0 (length all) ≡ at + k
  unfolding starts_from
  first_start [] k at r l = omega (arith, r.size)
  first_start (u ∷ us) zero at r l = omega arith
  first_start (u ∷ us) (suc k) at r l =
      first_start us k (suc at) (tail u us at r) (le_of_suc-le-suc l) ∙ omega arith

  -- start a of these, or the end of the units
  abbrev start : List ℕ → ℕ → ℕ
  start xs a = get_or xs a (length all)

  -- the place after the instruction at start a
  abbrev after : List ℕ → ℕ → ℕ
  after xs a = start xs a + length_at all (start xs a)

  -- an entire instruction ends where the next one starts, or at the end
  abbrev Following : List ℕ → ℕ → Type 0
  Following xs a = a < length xs → 0 < length_at all (start xs a) → after xs a ≤ length all → start xs (suc a) ≡ after xs a

  next_start : (us : List ℕ) (k at : ℕ) → Rest all us at → (a : ℕ) → Following (starts_from us k at) a
  unfolding starts_from
  next_start [] k at r a l some fits = absurd (not-suc-le-zero l)
  next_start (u ∷ us) zero at r zero l some fits =
      let e : unit_at all at ≡ u = sym (head u us at r) in
      let n : length_at all at ≡ length_of (u % 256) = ap (λ (x : ℕ). length_of (x % 256)) e in
      let t : ltb 0 (length_of (u % 256)) ≡ true = lt-ltb 0 (length_of (u % 256)) (omega arith) in
      let b : leb (length_of (u % 256)) (suc (length us)) ≡ true =
      le-leb (length_of (u % 256)) (suc (length us)) (omega (arith, r.size)) in
      rw (t, b)
      (first_start us (length_of (u % 256) - 1) (suc at) (tail u us at r) (omega (arith, r.size)) ∙ omega arith)
  next_start (u ∷ us) zero at r (suc a) l some fits =
      pick_cases (λ (xs : List ℕ). Following xs a) (entire u (suc (length us)))
      (starts_from us (length_of (u % 256) - 1) (suc at)) []
      (λ _ h. next_start us (length_of (u % 256) - 1) (suc at) (tail u us at r) a h) (λ _ h. absurd (not-suc-le-zero h))
      (le_of_suc-le-suc l) some fits
  next_start (u ∷ us) (suc k) at r a l some fits = next_start us k (suc at) (tail u us at r) a l some fits

  whole : Rest all all 0
  whole = record { look = λ i. ap (λ (n : ℕ). get_or all n 0) (omega arith); size = omega arith }

-- ---- places and addresses
module _ (us : List ℕ) where
  -- address 0 is at place 0; an address of a start is before the end, another at the end
  pub place_start : place_in us 0 ≡ 0
  unfolding place_in starts_of
  place_start = first_start us us 0 0 (whole us) (omega arith) ∙ omega arith

  pub place_inside : (a : ℕ) → a < length (starts_of us) → place_in us a < length us
  unfolding place_in starts_of
  place_inside a l = before_end us us 0 0 (whole us) a (length us) l

  pub place_outside : (a : ℕ) → length (starts_of us) ≤ a → place_in us a ≡ length us
  unfolding place_in
  place_outside a l = get_or-eq_default (starts_of us) (length us) l

  -- "next": the address one on is at the place after the instruction
  pub place_next : (a : ℕ) → a < length (starts_of us) → 0 < length_at us (place_in us a)
      → place_in us a + length_at us (place_in us a) ≤ length us → place_in us (suc a) ≡ place_in us a + length_at us (place_in us a)
  unfolding place_in starts_of
  place_next a l some fits = next_start us us 0 0 (whole us) a l some fits

  -- the address of the place of an address, and the place of the address of a start
  pub address_place : (a : ℕ) → a < length (starts_of us) → address_in us (place_in us a) ≡ a
  unfolding place_in address_in starts_of
  address_place a l = index_of_lem 0 (starts_from us 0 0) (rising us us 0 0) a (length us) l

  pub place_address : (x : ℕ) → address_in us x < length (starts_of us) → place_in us (address_in us x) ≡ x
  unfolding place_in address_in
  place_address x l = at_index (starts_of us) x (length us) l

  -- the end has the address after the last
  pub end_address : address_in us (length us) ≡ length (starts_of us)
  unfolding address_in place_in
  end_address = index_out (starts_of us) (length us) (λ a l. place_inside a l)

  -- so that every address up to that is read back from its place
  pub address_back : (a : ℕ) → a ≤ length (starts_of us) → address_in us (place_in us a) ≡ a
  address_back a l =
      by_test (ltb a (length (starts_of us))) (λ t. address_place a (ltb-true a (length (starts_of us)) t))
      (λ t.
      let out : length (starts_of us) ≤ a = ltb-false a (length (starts_of us)) t in
      let same : length (starts_of us) ≡ a = omega arith in
      ap (address_in us) (place_outside a out) ∙ end_address ∙ same)
