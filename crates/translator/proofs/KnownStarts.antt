-- Starts that are known, one after another, and the search among them. Assumes nothing.
use mathlib.Core.Path.{◌≡◌, refl, sym, ap, ◌∙◌}
use mathlib.Core.Bool.{Bool, false}
use mathlib.Core.List.{List, [], ◌∷◌, ◌++◌, append_assoc}
use Prim.Native.Nat.{ℕ, suc, ◌+◌, ◌-◌, ◌≤◌, ◌<◌}
use native.Mathlib.Nat.{not-suc-le-zero, zero-add}
use native.Mathlib.Numerals.{add-one}
use native.Mathlib.Omega.{arith}
use lib.Dec.{eqb}
use lib.ListN.{length, get_or, take, set, length-set}
use lib.Seq.{take-suc-set, get_or-take, length-take-le, get_or-set_same, get_or-set_other}
use borrow.Author.Tests.{ne_eqb, eqb-true, eqb-false, ltb-true, ltb-false}
use Rattle.std.specs.Prelude.{Some, None, nat_lt, position}
use Rattle.std.specs.List.{position_or_len}
use Rattle.std.proofs.lemmas.Option.{cond_some}
use Rattle.text.proofs.Cases.{by_test, never}
use Rattle.units.specs.Units.{length_at, starts_of, index_of, address_in}
use Rattle.translator.specs.declared.walk.Start.{Start}
use Rattle.translator.specs.Inside.{from, start_from, known_start, Stands, Known, Sought}
use Rattle.translator.proofs.Walking.{start, begins, goes, goes_on_lem, arrived}

-- ---- the search
module _ (here : Start) (place : ℕ) where
  abbrev pub is_there : ℕ → Bool
  is_there s = eqb s place

  first : (xs : List ℕ) (j : ℕ) → position_or_len is_there xs < length xs
      → record { place = place; address = j + position_or_len is_there xs } ≡ start_from xs j here place
  first [] j l = absurd (omega arith)
  first (x ∷ xs) j l =
      by_test (eqb x place) (λ t. rw t (ap (λ (k : ℕ). record { place = place; address = k }) (omega arith)))
      (λ t.
      rw t
      (ap (λ (k : ℕ). record { place = place; address = k }) (omega arith) ∙ first xs (suc j) (let m = rw t at l in omega arith)))

  nowhere : (xs : List ℕ) (j : ℕ) → length xs ≤ position_or_len is_there xs → here ≡ start_from xs j here place
  nowhere [] j l = refl
  nowhere (x ∷ xs) j l =
      by_test (eqb x place) (λ t. absurd (let m = rw t at l in omega arith))
      (λ t. rw t (nowhere xs (suc j) (let m = rw t at l in omega arith)))

  pub found_start : (xs : List ℕ) (a : ℕ) → position is_there xs ≡ Some a → record { place = place; address = a } ≡ start_from xs 0 here place
  found_start xs a e =
      let (t, q) = cond_some (nat_lt (position_or_len is_there xs) (length xs)) (position_or_len is_there xs) a e in
      ap (λ (k : ℕ). record { place = place; address = k }) (omega arith) ∙ first xs 0 (ltb-true (position_or_len is_there xs) (length xs) t)

  pub no_start : (xs : List ℕ) → position is_there xs ≡ None → here ≡ start_from xs 0 here place
  no_start xs e =
      by_test (nat_lt (position_or_len is_there xs) (length xs)) (λ t. never (let f = rw t at e in cc))
      (λ t. nowhere xs 0 (ltb-false (position_or_len is_there xs) (length xs) t))

module _ (us : List ℕ) (at k place : ℕ) (stands : Stands us (start at k)) (l : place < at) where
  known_from : (xs : List ℕ) (j : ℕ) → j + length xs ≡ k → address_in us place ≡ j + index_of (xs ++ from us at) place
      → ((i : ℕ) → i < length xs → Stands us (start (get_or xs i 0) (j + i))) → Sought us place (start_from xs j (start at k) place)
  known_from [] j n so_far each =
      let same : j ≡ k = omega arith in
      arrived us place at k stands (rw same at so_far) (omega arith)
  known_from (x ∷ xs) j n so_far each =
      by_test (eqb x place)
      (λ t.
      let e : x ≡ place = eqb-true x place t in
      let here : Stands us (start place j) = rw (e, zeroed j) at (each 0 (omega arith)) in
      rw t (arrived us place place j here (here.follows place (omega arith)) (omega arith)))
      (λ t.
      let other : eqb place x ≡ false = ne_eqb place x (λ q. eqb-false x place t (sym q)) in
      rw t
      (known_from xs (suc j) (omega arith) (rw other at so_far ∙ omega arith)
      (λ i m. rw (moved j i) at (each (suc i) (omega arith)))))
    where
      zeroed : (j : ℕ) → j + 0 ≡ j
      zeroed j = omega arith

      moved : (j i : ℕ) → j + suc i ≡ suc j + i
      moved j i = omega arith

pub known_sought : (us starts : List ℕ) (here : Start) (place : ℕ) → Known us starts here → place < here.place
    → Sought us place (known_start starts here place)
unfolding address_in
known_sought us starts here place h l =
    known_from us here.place here.address place h.stands l (take here.address starts) 0
    (zero-add (length (take here.address starts)) ∙ length-take-le here.address starts h.room)
    (ap (λ (xs : List ℕ). index_of xs place) h.all ∙ omega arith)
    (λ i m.
    let inside : i < here.address = rw (length-take-le here.address starts h.room) at m in
    rw (zero-add i, get_or-take here.address starts i 0 inside) (h.each i inside))

-- ---- one start after another
pub none_known : (us starts : List ℕ) → Known us starts (start 0 0)
unfolding starts_of
none_known us starts =
    record { stands = begins us; room = omega arith; all = refl; each = λ j l. absurd (not-suc-le-zero l) }

module _ (us starts : List ℕ) (at k : ℕ) (h : Known us starts (start at k)) (l : k < length starts) (some : 0 < length_at us at)
    (fits : length_at us at ≤ length us - at) where
  pub known_goes : Known us (set starts k at) (start (at + length_at us at) (k + 1))
  known_goes =
      record {
        stands = goes us at k h.stands some fits;
        room = rw (length-set starts k at) (omega arith);
        all =
            h.all
            ∙ rw (goes_on_lem us at (omega arith) some fits, add-one k, take-suc-set starts k at l)
            (sym (append_assoc (take k starts) (at ∷ []) (from us (at + length_at us at))));
        each = λ j m. by_test (eqb j k) (λ t. last j (eqb-true j k t)) (λ t. earlier j (eqb-false j k t) (omega (arith, eqb-false j k t)));
      }
    where
      last : (j : ℕ) → j ≡ k → Stands us (start (get_or (set starts k at) j 0) j)
      last j e = rw (e, get_or-set_same starts k at 0 l) h.stands

      earlier : (j : ℕ) → (j ≡ k → ⊥) → j < k → Stands us (start (get_or (set starts k at) j 0) j)
      earlier j other m = rw (get_or-set_other starts k j at 0 other) (h.each j m)
