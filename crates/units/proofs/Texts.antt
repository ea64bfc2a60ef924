-- The units of a text: each says the four digits that it has, so that it is below 65536; past the last there is none. Assumes nothing.
use mathlib.Core.Path.{◌≡◌}
use mathlib.Core.List.{List}
use Prim.Native.Nat.{ℕ, ◌*◌, ◌/◌, ◌<◌, ◌≤◌}
use native.Mathlib.Omega.{arith}
use lib.Dec.{ltb}
use lib.ListN.{length, take, drop}
use borrow.Author.Tests.{ltb-true, ltb-false}
use Rattle.text.specs.Hex.{number_of}
use Rattle.text.proofs.Cases.{by_test}
use Rattle.text.proofs.Numbers.{number_below}
use Rattle.program.proofs.Lists.{length_tab, getD_tab, getD_tab_out}
use Rattle.units.specs.Units.{units_of, unit_at}

module _ (text : List ℕ) where
  -- the four digits of unit k
  abbrev said : ℕ → ℕ
  said k = number_of (take 4 (drop (4 * k) text))

  pub unit_count : length (units_of text) ≡ length text / 4
  unfolding units_of
  unit_count = length_tab (length text / 4) said

  pub unit_is : (k : ℕ) → k < length text / 4 → unit_at (units_of text) k ≡ number_of (take 4 (drop (4 * k) text))
  unfolding units_of
  unit_is k l = getD_tab (length text / 4) said k 0 l

  pub unit_past : (k : ℕ) → length text / 4 ≤ k → unit_at (units_of text) k ≡ 0
  unfolding units_of
  unit_past k l = getD_tab_out (length text / 4) said k 0 l

  -- four digits say a number below 16 to the fourth
  pub unit_below : (k : ℕ) → unit_at (units_of text) k < 65536
  unit_below k =
      by_test (ltb k (length text / 4))
      (λ t. rw (unit_is k (ltb-true k (length text / 4) t)) (number_below (drop (4 * k) text) 4))
      (λ t. rw (unit_past k (ltb-false k (length text / 4) t)) (omega arith))
