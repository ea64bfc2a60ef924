-- The entries of a table: one begins here, or none does. Assumes nothing.
use mathlib.Core.Path.{◌≡◌, refl, sym, ◌∙◌}
use mathlib.Core.Bool.{true, false, and-false, and-true}
use mathlib.Core.List.{List, [], ◌∷◌}
use Prim.Native.Nat.{ℕ, ◌+◌, ◌/◌, ◌%◌, ◌≤◌}
use lib.ListN.{length, take, drop, drop_of_length-le}
use lib.Pointwise.{pointwise}
use lib.Seq.{drop-drop}
use Rattle.std.specs.Prelude.{nat_eq}
use Rattle.words.specs.Words.{has_key, after_key}

-- an entry's beginning
abbrev pub key_of : ℕ → ℕ → List ℕ
key_of kind number = 10 ∷ kind ∷ (48 + number / 10 % 10) ∷ (48 + number % 10) ∷ 32 ∷ []

module _ (kind number : ℕ) where
  same_test : (xs : List ℕ) → pointwise nat_eq (take 5 xs) (key_of kind number) ≡ has_key kind number xs
  unfolding has_key
  same_test [] = refl
  same_test (a ∷ []) = simp and-false refl
  same_test (a ∷ b ∷ []) = simp and-false refl
  same_test (a ∷ b ∷ c ∷ []) = simp and-false refl
  same_test (a ∷ b ∷ c ∷ d ∷ []) = simp and-false refl
  same_test (a ∷ b ∷ c ∷ d ∷ e ∷ xs) = simp and-true refl

  pub entry_here : (xs : List ℕ) → pointwise nat_eq (take 5 xs) (key_of kind number) ≡ true → drop 5 xs ≡ after_key kind number xs
  unfolding after_key
  entry_here [] h = refl
  entry_here (x ∷ xs) h = rw (sym (same_test (x ∷ xs)) ∙ h)

  not_here : (xs : List ℕ) → has_key kind number xs ≡ false → after_key kind number (drop 1 xs) ≡ after_key kind number xs
  unfolding after_key
  not_here [] h = refl
  not_here (x ∷ xs) h = rw h

  pub entry_later : (table : List ℕ) (i : ℕ) → pointwise nat_eq (take 5 (drop i table)) (key_of kind number) ≡ false
      → after_key kind number (drop (i + 1) table) ≡ after_key kind number (drop i table)
  entry_later table i h = rw (drop-drop 1 i table) at (not_here (drop i table) (sym (same_test (drop i table)) ∙ h))

  pub entry_none : (table : List ℕ) (i : ℕ) → length table ≤ i → [] ≡ after_key kind number (drop i table)
  unfolding after_key
  entry_none table i h = rw (drop_of_length-le table h)
