-- The walk from start to start, as code goes it. Assumes nothing.
use mathlib.Core.Path.{◌≡◌, refl, sym, ap, ◌∙◌}
use mathlib.Core.Bool.{Bool, true, false, ◌&&◌}
use mathlib.Core.List.{List, [], ◌∷◌}
use Prim.Native.Nat.{ℕ, zero, suc, ◌+◌, ◌-◌, ◌%◌, ◌≤◌, ◌<◌}
use native.Mathlib.Nat.{not-suc-le-zero, le_of_suc-le-suc, add-zero}
use native.Mathlib.Omega.{arith}
use lib.Dec.{eqb, ltb, leb}
use lib.ListN.{length, drop, length-drop}
use lib.Seq.{drop-cons, drop-drop}
use borrow.Author.Tests.{lt-ltb, le-leb, lt-leb, eq-eqb, ne_eqb, eqb-true, eqb-false, ltb-true, ltb-false}
use Rattle.text.proofs.Cases.{by_test}
use Rattle.instruction.specs.Word.{pick}
use Rattle.instruction.proofs.Flags.{pick_cases}
use Rattle.opcodes.specs.Opcodes.{length_of}
use Rattle.units.specs.declared.Opcode.{Opcode}
use Rattle.units.specs.declared.Opcode.TheVariants.{NotTaken, Plain as plain, Branch as branch}
use Rattle.units.specs.Units.{unit_at, length_at, entire, starts_from, starts_of, index_of, address_in}
use Rattle.translator.specs.declared.walk.Start.{Start}
use Rattle.translator.specs.Inside.{from, nearest_start, Follows, Stands, Sought, SoughtFor}

skip : (xs : List ℕ) (k at : ℕ) → starts_from xs k at ≡ starts_from (drop k xs) 0 (at + k)
unfolding starts_from
skip xs zero at = rw (add-zero at)
skip [] (suc k) at = refl
skip (x ∷ xs) (suc k) at = skip xs k (suc at) ∙ ap (starts_from (drop k xs) 0) (omega arith)

-- a place before all starts is none of them
before_all : (us : List ℕ) (k at x : ℕ) → x < at → index_of (starts_from us k at) x ≡ length (starts_from us k at)
unfolding starts_from
before_all [] k at x l = refl
before_all (u ∷ us) zero at x l =
    rw (ne_eqb x at (λ e. omega arith))
    (ap suc
    (pick_cases (λ (xs : List ℕ). index_of xs x ≡ length xs) (entire u (suc (length us)))
    (starts_from us (length_of (u % 256) - 1) (suc at)) [] (λ _. before_all us (length_of (u % 256) - 1) (suc at) x (omega arith))
    (λ _. refl)))
before_all (u ∷ us) (suc k) at x l = before_all us k (suc at) x (omega arith)

module _ (us : List ℕ) (at : ℕ) (l : at < length us) where
  -- the first of the starts from a place on is the place itself
  pub here : from us at ≡ at ∷ pick (entire (unit_at us at) (length us - at)) (starts_from (drop (suc at) us) (length_at us at - 1) (suc at))
      []
  unfolding starts_from
  here =
      let n : suc (length (drop (suc at) us)) ≡ length us - at = simp length-drop (omega arith) in
      rw (drop-cons us at 0 l, n)

  -- an unused opcode, or an instruction cut short, is the last start
  last_unused : length_at us at ≡ 0 → from us at ≡ at ∷ []
  last_unused e = here ∙ rw e

  last_cut : length us - at < length_at us at → from us at ≡ at ∷ []
  last_cut h = here ∙ go (ltb 0 (length_at us at)) (starts_from (drop (suc at) us) (length_at us at - 1) (suc at))
    where
      go : (t : Bool) (xs : List ℕ) → at ∷ pick (t && leb (length_at us at) (length us - at)) xs [] ≡ at ∷ []
      go true xs = rw (lt-leb (length_at us at) (length us - at) h)
      go false xs = refl

  pub goes_on_lem : 0 < length_at us at → length_at us at ≤ length us - at → from us at ≡ at ∷ from us (at + length_at us at)
  goes_on_lem some fits =
      let n : suc at + (length_at us at - 1) ≡ at + length_at us at = omega arith in
      here
      ∙ rw (lt-ltb 0 (length_at us at) some, le-leb (length_at us at) (length us - at) fits)
      (ap (λ (xs : List ℕ). at ∷ xs)
      (skip (drop (suc at) us) (length_at us at - 1) (suc at)
      ∙ ap (λ (xs : List ℕ). starts_from xs 0 (suc at + (length_at us at - 1))) (drop-drop (length_at us at - 1) (suc at) us)
      ∙ ap (from us) n))

-- past the last unit there is none
pub ended : (us : List ℕ) (at : ℕ) → length us ≤ at → from us at ≡ []
unfolding starts_from
ended us at l = rw (drop_none us at l)
  where
    drop_none : (xs : List ℕ) (n : ℕ) → length xs ≤ n → drop n xs ≡ []
    drop_none [] zero l = refl
    drop_none [] (suc n) l = refl
    drop_none (x ∷ xs) zero l = absurd (not-suc-le-zero l)
    drop_none (x ∷ xs) (suc n) l = drop_none xs n (le_of_suc-le-suc l)

-- the start with this place and address
abbrev pub start : ℕ → ℕ → Start
start at k = record { place = at; address = k }

-- a walk begins at the first start
pub begins : (us : List ℕ) → Stands us (start 0 0)
unfolding address_in starts_of
begins us = record { inside = omega arith; few = omega arith; count = omega arith; follows = λ x l. omega arith }

pub nearest : (us : List ℕ) (found here : Start) (place : ℕ) → Stands us found → Stands us here → here.place ≤ place
    → Stands us (nearest_start found here place)
    × Follows us (nearest_start found here place).place (nearest_start found here place).address place
nearest us found here place f h l =
    by_test (ltb place found.place) (λ t. rw t (h, h.follows place l))
    (λ t. by_test (ltb found.place here.place) (λ u. rw (t, u) (h, h.follows place l))
    (λ u. rw (t, u) (f, f.follows place (ltb-false place found.place t))))

module _ (us : List ℕ) (place at k : ℕ) (stands : Stands us (start at k)) (follows : Follows us at k place) where
  -- a place that is none of the starts from `at` on
  abbrev None : Type 0
  None = index_of (from us at) place ≡ length (from us at)

  sought : ((at ≡ place → ⊥) → None) → Sought us place (start at k)
  sought none =
      record {
        stands = stands;
        found = λ e l. found e (rw (sym e) at l);
        lost = lost;
        past = λ l. by_test (eqb at place) (λ t. past (eqb-true at place t) l) (λ t. lost (eqb-false at place t));
      }
    where
      lost : (at ≡ place → ⊥) → length (starts_of us) ≤ address_in us place
      lost other = let e = none other in omega (arith, stands.count)

      found : at ≡ place → at < length us → (address_in us place ≡ k) × (k < length (starts_of us))
      found e l =
          let first : from us at ≡ at ∷ _ = here us at l in
          let zero : index_of (from us at) place ≡ 0 = rw (first, eq-eqb place at (sym e)) in
          let some : length (from us at) ≡ suc _ = ap length first in
          (omega arith, omega (arith, stands.count))

      past : at ≡ place → length us ≤ place → length (starts_of us) ≤ address_in us place
      past e l =
          let nil = ended us at (rw e l) in
          let zero : length (from us at) ≡ 0 = ap length nil in
          omega (arith, stands.count)

  -- it has come to the place, or past it
  pub arrived : place ≤ at → Sought us place (start at k)
  arrived l = sought (λ other. before_all (drop at us) 0 at place (omega arith))

  -- it stands at the last start, or at the end
  alone : from us at ≡ at ∷ [] → (at ≡ place → ⊥) → None
  alone e other = rw (e, ne_eqb place at (λ q. other (sym q)))

  stopped : ((l : at < length us) → from us at ≡ at ∷ []) → Sought us place (start at k)
  stopped h =
      sought (λ other. by_test (ltb at (length us)) (λ t. alone (h (ltb-true at (length us) t)) other)
      (λ t. rw (ended us at (ltb-false at (length us) t))))

  pub unused : length_at us at ≡ 0 → Sought us place (start at k)
  unused e = stopped (λ l. last_unused us at l e)

  pub cut : length us - at < length_at us at → Sought us place (start at k)
  cut h = stopped (λ l. last_cut us at l h)

-- a walk goes on to the next start
module _ (us : List ℕ) (at k : ℕ) (stands : Stands us (start at k)) (some : 0 < length_at us at)
    (fits : length_at us at ≤ length us - at) where
  next : from us at ≡ at ∷ from us (at + length_at us at)
  next = goes_on_lem us at (omega arith) some fits

  pub follows_on : (x : ℕ) → at < x → Follows us at k x → Follows us (at + length_at us at) (k + 1) x
  follows_on x l h = h ∙ rw (next, ne_eqb x at (λ e. omega arith)) (omega arith)

  pub goes : Stands us (start (at + length_at us at) (k + 1))
  goes =
      let one : length (from us at) ≡ suc (length (from us (at + length_at us at))) = ap length next in
      record {
        inside = omega (arith, stands.inside);
        few = omega (arith, stands.few);
        count = omega (arith, stands.count);
        follows = λ x l. follows_on x (omega arith) (stands.follows x (omega arith));
      }

-- after a walk for any opcode it stands
pub still_stands : (us : List ℕ) (at : ℕ) (o : Opcode) (r : Start) → SoughtFor us at o r → Stands us r
still_stands us at (plain o) r h = h
still_stands us at (branch b) r h = h.stands
still_stands us at NotTaken r h = h
