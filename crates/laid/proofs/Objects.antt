-- The objects that a slice holds: what is read, and what stands there after a cell is written or an object made. Assumes nothing.
use mathlib.Core.Path.{◌≡◌, refl, sym, ap, ◌∙◌}
use mathlib.Core.List.{List, [], ◌∷◌, ◌++◌}
use Prim.Native.Nat.{ℕ, ◌+◌, ◌≤◌, ◌<◌}
use native.Mathlib.Omega.{arith}
use lib.Dec.{ltb}
use lib.ListN.{length, get_or, set, length-set, length-append}
use lib.Seq.{get_or-set_same, get_or-set_other, get_or-append_seam}
use borrow.Author.Tests.{ltb-true, ltb-false, lt-ltb, le-ltb}
use Rattle.text.proofs.Cases.{by_test}
use Rattle.instruction.specs.Word.{pick}
use Rattle.program.specs.Program.{Program}
use Rattle.program.proofs.Writes.{getD_snoc_other}
use Rattle.machine.specs.declared.Value as machine
use Rattle.machine.specs.State as state
use Rattle.machine.specs.State.{State, no_object, object_at}
use Rattle.machine.specs.Run.{fresh, stored}
use Rattle.cells.specs.declared.Object.{Object}
use Rattle.cells.specs.Cells.{cell_of, zero_object, object_of, object_in, objects_of}
use Rattle.store.specs.Store.{absent_object, with_class, with_cell}
use Rattle.laid.proofs.Lists.{laid_length, laid_same, laid_read, laid_put}
use Rattle.laid.proofs.Parts.{cell_put, object_fresh}

-- ---- object i

pub object_in_lem : (s : State) (i : ℕ) → i < length s.objects → object_in s i ≡ object_of (object_at s i)
object_in_lem s i l = rw (lt-ltb i (length s.objects) l) refl

pub object_out : (s : State) (i : ℕ) → length s.objects ≤ i → object_in s i ≡ zero_object
object_out s i l = rw (le-ltb i (length s.objects) l) refl

-- ---- what is read

pub objects_length : (s : State) (before : List Object) → length (objects_of s before) ≡ length before
unfolding objects_of
objects_length s before = laid_length 256 before zero_object (object_in s)

pub objects_same : (s u : State) (before : List Object) → s.objects ≡ u.objects → objects_of s before ≡ objects_of u before
unfolding objects_of
objects_same s u before e =
    laid_same 256 before zero_object (object_in s) (object_in u)
    (λ i l. ap (λ (os : List state.Object). pick (ltb i (length os)) (object_of (get_or os i no_object)) zero_object) e)

module _ (s : State) (before : List Object) (d : Object) where
  pub object_read : (o : ℕ) → o < length s.objects → length s.objects ≤ 256 → 256 ≤ length before
      → get_or (objects_of s before) o d ≡ object_of (object_at s o)
  unfolding objects_of
  object_read o l few enough =
      laid_read 256 before zero_object (object_in s) o d (omega arith) enough ∙ object_in_lem s o l

  pub object_absent : (o : ℕ) → length s.objects ≤ o → o < 256 → 256 ≤ length before → get_or (objects_of s before) o d ≡ zero_object
  unfolding objects_of
  object_absent o l b enough = laid_read 256 before zero_object (object_in s) o d b enough ∙ object_out s o l

-- ---- what is written

module _ (s u : State) (before : List Object) where
  -- the two differ at object o alone, which u has
  object_to : (o : ℕ) → o < 256 → o < length u.objects → 256 ≤ length before
      → ((j : ℕ) → (j ≡ o → ⊥) → object_at u j ≡ object_at s j) → ((j : ℕ) → (j ≡ o → ⊥) → ltb j (length u.objects) ≡ ltb j (length s.objects))
      → set (objects_of s before) o (object_of (object_at u o)) ≡ objects_of u before
  unfolding objects_of
  object_to o l b enough same made =
      laid_put 256 before zero_object (object_in s) (object_in u) o (object_of (object_at u o)) l enough (object_in_lem u o b)
      (λ j c n. rw (made j n, same j n) refl)

  pub object_put : (o x : ℕ) (v : machine.Value) → o < length s.objects → length s.objects ≤ 256 → x < length (object_at s o).cells
      → length (object_at s o).cells ≤ 16 → 256 ≤ length before → u.objects ≡ set s.objects o (stored (object_at s o) x v)
      → set (objects_of s before) o (with_cell (get_or (objects_of s before) o absent_object) x (cell_of v)) ≡ objects_of u before
  object_put o x v l few c cells enough q =
      ap (λ (y : Object). set (objects_of s before) o y)
      (ap (λ (y : Object). with_cell y x (cell_of v)) (object_read s before absent_object o l few enough)
      ∙ cell_put (object_at s o) x v c cells
      ∙ ap object_of (sym (at o ∙ get_or-set_same s.objects o (stored (object_at s o) x v) no_object l)))
      ∙ object_to o (omega arith) (omega (arith, size, l)) enough
      (λ j n. at j ∙ get_or-set_other s.objects o j (stored (object_at s o) x v) no_object n)
      (λ j n. ap (ltb j) size)
    where
      at : (j : ℕ) → object_at u j ≡ get_or (set s.objects o (stored (object_at s o) x v)) j no_object
      at j = ap (λ (os : List state.Object). get_or os j no_object) q

      size : length u.objects ≡ length s.objects
      size = ap length q ∙ length-set s.objects o (stored (object_at s o) x v)

  pub object_make : (p : Program) (k : ℕ) → length s.objects < 256 → 256 ≤ length before → u.objects ≡ s.objects ++ fresh p k ∷ []
      → set (objects_of s before) (length s.objects) (with_class (get_or (objects_of s before) (length s.objects) absent_object) k) ≡ objects_of u before
  object_make p k l enough q =
      ap (λ (y : Object). set (objects_of s before) (length s.objects) y)
      (ap (λ (y : Object). with_class y k) (object_absent s before absent_object (length s.objects) (omega arith) l enough)
      ∙ sym (object_fresh p k)
      ∙ ap object_of (sym (at (length s.objects) ∙ get_or-append_seam s.objects (fresh p k) [] no_object)))
      ∙ object_to (length s.objects) l (omega (arith, size)) enough
      (λ j n. at j ∙ getD_snoc_other s.objects (fresh p k) j no_object n)
      made
    where
      at : (j : ℕ) → object_at u j ≡ get_or (s.objects ++ fresh p k ∷ []) j no_object
      at j = ap (λ (os : List state.Object). get_or os j no_object) q

      size : length u.objects ≡ length s.objects + 1
      size = ap length q ∙ length-append s.objects (fresh p k ∷ [])

      made : (j : ℕ) → (j ≡ length s.objects → ⊥) → ltb j (length u.objects) ≡ ltb j (length s.objects)
      made j n =
          by_test (ltb j (length s.objects))
          (λ t. lt-ltb j (length u.objects) (omega (arith, size, ltb-true j (length s.objects) t)) ∙ sym t)
          (λ t. le-ltb j (length u.objects) (omega (arith, size, n, ltb-false j (length s.objects) t)) ∙ sym t)
