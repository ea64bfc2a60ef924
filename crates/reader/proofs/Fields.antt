-- A line's frame, by its kind and fields as they are read where they stand in a text. Assumes nothing.
use mathlib.Core.Path.{◌≡◌, sym, ap, ◌∙◌}
use mathlib.Core.Bool.{true, false}
use mathlib.Core.List.{List, [], ◌∷◌}
use Prim.Native.Nat.{ℕ, zero, suc, ◌+◌, ◌-◌, ◌≤◌, ◌<◌, min}
use native.Mathlib.Nat.{zero-add}
use native.Mathlib.Omega.{arith}
use lib.Dec.{eqb}
use borrow.Author.Tests.{eq-eqb, ne_eqb}
use lib.ListN.{length, take, drop, length-take, length-drop}
use lib.Seq.{take-take, drop-drop, take-nil}
use Rattle.text.specs.Hex.{number_of, digits_at}
use Rattle.frame.specs.declared.Kind.{Kind}
use Rattle.frame.specs.declared.Kind.TheVariants.{Class, Field, Static, Header, Handler, Code, Unknown}
use Rattle.frame.specs.declared.Counts.{Counts}
use Rattle.frame.specs.Frame.{kind_of, digits_of}
use Rattle.reader.specs.Read.{line_kind, line_fields}
use Rattle.frame.specs.Places.{step, step_of, tables_with}
use Rattle.reader.specs.Inside.{line_at, framed, framed_tables}

drop-take : (n m : ℕ) (xs : List ℕ) → drop n (take (n + m) xs) ≡ take m (drop n xs)
drop-take zero m xs = rw (zero-add m)
drop-take (suc n) m [] = rw (take-nil {A = ℕ} (suc n + m), take-nil {A = ℕ} m)
drop-take (suc n) m (x ∷ xs) = ap (λ (k : ℕ). drop (suc n) (take k (x ∷ xs))) (more n m) ∙ drop-take n m xs
  where
    more : (n m : ℕ) → suc n + m ≡ suc (n + m)
    more n m = omega arith

digits_few : (k : Kind) → digits_of k ≤ 18
digits_few Class = omega arith
digits_few Field = omega arith
digits_few Static = omega arith
digits_few Header = omega arith
digits_few Handler = omega arith
digits_few Code = omega arith
digits_few Unknown = omega arith

module _ (s : List ℕ) (at d : ℕ) (two : 2 ≤ d) where
  line_kind_lem : line_kind (line_at s at d) ≡ kind_of (number_of (digits_at s at 2))
  unfolding line_kind
  line_kind_lem = ap (λ (l : List ℕ). kind_of (number_of l)) (take-take 2 d (drop at s) two)

  line_fields_lem : d ≤ 18 → line_fields (line_at s at d) ≡ number_of (digits_at s (at + 2) (d - 2))
  unfolding line_fields
  line_fields_lem few =
      ap number_of
      (ap (λ (k : ℕ). drop 2 (take k (drop at s))) (sum d two)
      ∙ drop-take 2 (d - 2) (drop at s)
      ∙ ap (λ (l : List ℕ). take (d - 2) l) (drop-drop 2 at s)
      ∙ ap (λ (k : ℕ). take k (drop (at + 2) s)) (least d few))
    where
      sum : (d : ℕ) → 2 ≤ d → d ≡ 2 + (d - 2)
      sum d h = omega arith

      least : (d : ℕ) → d ≤ 18 → d - 2 ≡ min (d - 2) 16
      least d h = omega arith

  line_length : at + d < length s → length (line_at s at d).bytes ≡ d
  line_length room = rw (length-take d (drop at s), length-drop at s) (omega arith)

-- what the line brings, where k is the kind that its first two digits say
module _ (s : List ℕ) (at d : ℕ) (two : 2 ≤ d) (room : at + d < length s) (k : Kind)
    (e : k ≡ kind_of (number_of (digits_at s at 2))) (n : Counts) (ws : List ℕ) where
  kind_is : line_kind (line_at s at d) ≡ k
  kind_is = line_kind_lem s at d two ∙ sym e

  pub wrong_length : (d ≡ digits_of k → ⊥)
      → (step 3 n ≡ framed (line_at s at d) n) × (ws ≡ framed_tables (line_at s at d) n ws)
  wrong_length h =
      let f : eqb (length (line_at s at d).bytes) (digits_of (line_kind (line_at s at d))) ≡ false =
      rw (kind_is, line_length s at d two room) (ne_eqb d (digits_of k) h) in
      (rw f, rw f)

  pub right_length : (w : ℕ) → d ≡ digits_of k → w ≡ number_of (digits_at s (at + 2) (d - 2))
      → (step_of n k ≡ framed (line_at s at d) n) × (tables_with n k w ws ≡ framed_tables (line_at s at d) n ws)
  right_length w h v =
      let few : d ≤ 18 = omega (arith, h, digits_few k) in
      let f : eqb (length (line_at s at d).bytes) (digits_of (line_kind (line_at s at d))) ≡ true =
      rw (kind_is, line_length s at d two room) (eq-eqb d (digits_of k) h) in
      (rw (f, kind_is), rw (f, kind_is, v, line_fields_lem s at d two few))
