-- A rule of a table, proved at all of its entries by one test that antt computes. Assumes nothing.
use mathlib.Core.Path.{◌≡◌, refl, ◌∙◌, subst, sym}
use mathlib.Core.Bool.{Bool, true, false, cond, ◌&&◌}
use mathlib.Core.List.{List, [], ◌∷◌}
use Prim.Native.Nat.{ℕ, zero, suc, ◌+◌, ◌<◌, ◌≤◌, ◌/◌, ◌%◌}
use native.Mathlib.Nat.{add-zero, zero-add, add-suc, suc-add, le_of_suc-le-suc, not-suc-le-zero}
use lib.Dec.{T, eqb, leb, ltb, eqb→eq, leb→le, ltb→lt}
use lib.ListN.{length, get_or}
use Rattle.opcodes.specs.Opcodes.{group_of, group_number, length_of}

both_left : (a b : Bool) → T (a && b) → T a
both_left true b t = tt
both_left false b t = t

both_right : (a b : Bool) → T (a && b) → T b
both_right true b t = t
both_right false b t = absurd t

-- the test f passes at each entry of the list and its place, counted from i
abbrev pub every : (ℕ → ℕ → Bool) → ℕ → List ℕ → Bool
every f i [] = true
every f i (x ∷ xs) = f i x && every f (suc i) xs

from : (f : ℕ → ℕ → Bool) (xs : List ℕ) (i : ℕ) → T (every f i xs) → (k : ℕ) → k < length xs → T (f (i + k) (get_or xs k 0))
from f [] i t k h = absurd (not-suc-le-zero h)
from f (x ∷ xs) i t zero h = subst (λ (m : ℕ). T (f m x)) (sym (add-zero i)) (both_left (f i x) (every f (suc i) xs) t)
from f (x ∷ xs) i t (suc k) h =
    subst (λ (m : ℕ). T (f m (get_or xs k 0))) (suc-add i k ∙ sym (add-suc i k))
    (from f xs (suc i) (both_right (f i x) (every f (suc i) xs) t) k (le_of_suc-le-suc h))

pub at : (f : ℕ → ℕ → Bool) (xs : List ℕ) → T (every f 0 xs) → (k : ℕ) → k < length xs → T (f k (get_or xs k 0))
at f xs t k h = subst (λ (m : ℕ). T (f m (get_or xs k 0))) (zero-add k) (from f xs 0 t k h)

-- the code's table
abbrev pub table : List ℕ
table =
    0x011 ∷ 0x021 ∷ 0x022 ∷ 0x023 ∷ 0x021 ∷ 0x022 ∷ 0x023 ∷ 0x021 ∷ 0x022 ∷ 0x023 ∷ 0x021 ∷ 0x021 ∷ 0x021 ∷ 0x031 ∷ 0x041 ∷ 0x051
    ∷ 0x051 ∷ 0x051 ∷ 0x061 ∷ 0x062 ∷ 0x063 ∷ 0x062 ∷ 0x062 ∷ 0x063 ∷ 0x065 ∷ 0x062 ∷ 0x062 ∷ 0x063 ∷ 0x072 ∷ 0x081 ∷ 0x091 ∷ 0x0a2
    ∷ 0x0b2 ∷ 0x0c1 ∷ 0x0d2 ∷ 0x0e2 ∷ 0x0f3 ∷ 0x0f3 ∷ 0x103 ∷ 0x111 ∷ 0x121 ∷ 0x122 ∷ 0x123 ∷ 0x133 ∷ 0x143 ∷ 0x152 ∷ 0x152 ∷ 0x152
    ∷ 0x152 ∷ 0x152 ∷ 0x162 ∷ 0x162 ∷ 0x162 ∷ 0x162 ∷ 0x162 ∷ 0x162 ∷ 0x172 ∷ 0x172 ∷ 0x172 ∷ 0x172 ∷ 0x172 ∷ 0x172 ∷ 0x000 ∷ 0x000
    ∷ 0x000 ∷ 0x000 ∷ 0x000 ∷ 0x000 ∷ 0x182 ∷ 0x182 ∷ 0x182 ∷ 0x182 ∷ 0x182 ∷ 0x182 ∷ 0x182 ∷ 0x192 ∷ 0x192 ∷ 0x192 ∷ 0x192 ∷ 0x192
    ∷ 0x192 ∷ 0x192 ∷ 0x1a2 ∷ 0x1a2 ∷ 0x1a2 ∷ 0x1a2 ∷ 0x1a2 ∷ 0x1a2 ∷ 0x1a2 ∷ 0x1b2 ∷ 0x1b2 ∷ 0x1b2 ∷ 0x1b2 ∷ 0x1b2 ∷ 0x1b2 ∷ 0x1b2
    ∷ 0x1c2 ∷ 0x1c2 ∷ 0x1c2 ∷ 0x1c2 ∷ 0x1c2 ∷ 0x1c2 ∷ 0x1c2 ∷ 0x1d2 ∷ 0x1d2 ∷ 0x1d2 ∷ 0x1d2 ∷ 0x1d2 ∷ 0x1d2 ∷ 0x1d2 ∷ 0x1e3 ∷ 0x1f3
    ∷ 0x203 ∷ 0x213 ∷ 0x223 ∷ 0x000 ∷ 0x1e3 ∷ 0x1f3 ∷ 0x203 ∷ 0x213 ∷ 0x223 ∷ 0x000 ∷ 0x000 ∷ 0x231 ∷ 0x231 ∷ 0x231 ∷ 0x231 ∷ 0x231
    ∷ 0x231 ∷ 0x231 ∷ 0x231 ∷ 0x231 ∷ 0x231 ∷ 0x231 ∷ 0x231 ∷ 0x231 ∷ 0x231 ∷ 0x231 ∷ 0x231 ∷ 0x231 ∷ 0x231 ∷ 0x231 ∷ 0x231 ∷ 0x231
    ∷ 0x242 ∷ 0x242 ∷ 0x242 ∷ 0x242 ∷ 0x242 ∷ 0x242 ∷ 0x242 ∷ 0x242 ∷ 0x242 ∷ 0x242 ∷ 0x242 ∷ 0x242 ∷ 0x242 ∷ 0x242 ∷ 0x242 ∷ 0x242
    ∷ 0x242 ∷ 0x242 ∷ 0x242 ∷ 0x242 ∷ 0x242 ∷ 0x242 ∷ 0x242 ∷ 0x242 ∷ 0x242 ∷ 0x242 ∷ 0x242 ∷ 0x242 ∷ 0x242 ∷ 0x242 ∷ 0x242 ∷ 0x242
    ∷ 0x241 ∷ 0x241 ∷ 0x241 ∷ 0x241 ∷ 0x241 ∷ 0x241 ∷ 0x241 ∷ 0x241 ∷ 0x241 ∷ 0x241 ∷ 0x241 ∷ 0x241 ∷ 0x241 ∷ 0x241 ∷ 0x241 ∷ 0x241
    ∷ 0x241 ∷ 0x241 ∷ 0x241 ∷ 0x241 ∷ 0x241 ∷ 0x241 ∷ 0x241 ∷ 0x241 ∷ 0x241 ∷ 0x241 ∷ 0x241 ∷ 0x241 ∷ 0x241 ∷ 0x241 ∷ 0x241 ∷ 0x241
    ∷ 0x252 ∷ 0x252 ∷ 0x252 ∷ 0x252 ∷ 0x252 ∷ 0x252 ∷ 0x252 ∷ 0x252 ∷ 0x252 ∷ 0x252 ∷ 0x252 ∷ 0x252 ∷ 0x252 ∷ 0x252 ∷ 0x252 ∷ 0x252
    ∷ 0x252 ∷ 0x252 ∷ 0x252 ∷ 0x000 ∷ 0x000 ∷ 0x000 ∷ 0x000 ∷ 0x000 ∷ 0x000 ∷ 0x000 ∷ 0x000 ∷ 0x000 ∷ 0x000 ∷ 0x000 ∷ 0x000 ∷ 0x000
    ∷ 0x000 ∷ 0x000 ∷ 0x000 ∷ 0x000 ∷ 0x000 ∷ 0x000 ∷ 0x000 ∷ 0x000 ∷ 0x000 ∷ 0x000 ∷ 0x000 ∷ 0x000 ∷ 0x000 ∷ 0x000 ∷ 0x000 ∷ 0x000
    ∷ []

abbrev same : Bool → Bool → Bool
same true b = b
same false true = false
same false false = true

-- the entry x of opcode k: its length and its generalized instruction; "a length of 0 to 5 units, 0 for unused"
right : ℕ → ℕ → Bool
right k x =
    eqb (x % 16) (length_of k)
    && (eqb (x / 16) (group_number (group_of k)) && (leb (x % 16) 5 && same (eqb (x % 16) 0) (eqb (x / 16) 0)))

-- the test, computed at all 256 entries
all_right_lem : T (every right 0 table)
unfolding right length_of group_of
all_right_lem = tt

module _ (op : ℕ) (l : op < 256) where
  entry : T (right op (get_or table op 0))
  entry = at right table all_right_lem op l

  abbrev x : ℕ
  x = get_or table op 0

  tests : T (eqb (x % 16) (length_of op)) × T (eqb (x / 16) (group_number (group_of op))) × T (leb (x % 16) 5) × T
      (same (eqb (x % 16) 0) (eqb (x / 16) 0))
  unfolding right
  tests =
      let a = eqb (x % 16) (length_of op) in
      let b = eqb (x / 16) (group_number (group_of op)) in
      let c = leb (x % 16) 5 in
      let d = same (eqb (x % 16) 0) (eqb (x / 16) 0) in
      let r = both_right a (b && (c && d)) entry in
      let q = both_right b (c && d) r in
      (both_left a (b && (c && d)) entry, both_left b (c && d) r, both_left c d q, both_right c d q)

  pub length_right : x % 16 ≡ length_of op
  length_right = eqb→eq (x % 16) (length_of op) tests.0

  pub group_right : x / 16 ≡ group_number (group_of op)
  group_right = eqb→eq (x / 16) (group_number (group_of op)) tests.1

  pub length_most : x % 16 ≤ 5
  length_most = leb→le (x % 16) 5 tests.2

  pub zero_same : T (same (eqb (length_of op) 0) (eqb (group_number (group_of op)) 0))
  zero_same = rw (length_right, group_right) at tests.3

same_eq : (a b : Bool) → T (same a b) → a ≡ b
same_eq true true t = refl
same_eq true false t = absurd t
same_eq false true t = absurd t
same_eq false false t = refl

-- "a length of 0 to 5 units, 0 for unused"
pub at_most_five : (op : ℕ) → op < 256 → length_of op ≤ 5
at_most_five op l = rw (length_right op l) at (length_most op l)

pub zero_where_unused : (op : ℕ) → op < 256 → eqb (length_of op) 0 ≡ eqb (group_number (group_of op)) 0
zero_where_unused op l = same_eq (eqb (length_of op) 0) (eqb (group_number (group_of op)) 0) (zero_same op l)

-- "218 are used"
used : ℕ → List ℕ → ℕ
used i [] = 0
used i (x ∷ xs) = cond (eqb (group_number (group_of i)) 0) (used (suc i) xs) (suc (used (suc i) xs))

used_218 : used 0 table ≡ 218
unfolding used group_of
used_218 = refl

pub group_most : (op : ℕ) → op < 256 → get_or table op 0 < 600
group_most op l = ltb→lt (get_or table op 0) 600 (at (λ _ x. ltb x 600) table tt op l)
