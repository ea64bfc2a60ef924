-- The statics that a slice holds: what is read, and what stands there after one is written. Assumes nothing.
use mathlib.Core.Path.{◌≡◌, ap, ◌∙◌}
use mathlib.Core.List.{List}
use Prim.Native.Nat.{ℕ, ◌≤◌, ◌<◌}
use lib.ListN.{length, get_or, set}
use lib.Seq.{get_or-set_same, get_or-set_other}
use Rattle.machine.specs.declared.Value as machine
use Rattle.machine.specs.State.{State, null, static}
use Rattle.cells.specs.declared.Value.{Value}
use Rattle.cells.specs.Cells.{cell_of, zero_value, statics_of}
use Rattle.laid.proofs.Lists.{laid_length, laid_same, laid_read, laid_put}

pub statics_length : (s : State) (before : List Value) → length (statics_of s before) ≡ length before
unfolding statics_of
statics_length s before = laid_length 16 before zero_value (λ i. cell_of (static s i))

-- statics that are the same as far as a slice holds them
pub statics_alike : (s u : State) (before : List Value) → ((i : ℕ) → i < 16 → static s i ≡ static u i) → statics_of s before ≡ statics_of u before
unfolding statics_of
statics_alike s u before e =
    laid_same 16 before zero_value (λ i. cell_of (static s i)) (λ i. cell_of (static u i)) (λ i l. ap cell_of (e i l))

pub statics_same : (s u : State) (before : List Value) → s.statics ≡ u.statics → statics_of s before ≡ statics_of u before
statics_same s u before e = statics_alike s u before (λ i l. ap (λ (vs : List machine.Value). get_or vs i null) e)

pub static_read : (s : State) (before : List Value) (d : Value) (x : ℕ) → x < 16 → 16 ≤ length before
    → get_or (statics_of s before) x d ≡ cell_of (static s x)
unfolding statics_of
static_read s before d x l enough = laid_read 16 before zero_value (λ i. cell_of (static s i)) x d l enough

pub static_put : (s u : State) (before : List Value) (x : ℕ) (v : machine.Value) → x < 16 → x < length s.statics → 16 ≤ length before
    → u.statics ≡ set s.statics x v → set (statics_of s before) x (cell_of v) ≡ statics_of u before
unfolding statics_of
static_put s u before x v l b enough q =
    laid_put 16 before zero_value (λ i. cell_of (static s i)) (λ i. cell_of (static u i)) x (cell_of v) l enough
    (ap cell_of (at x ∙ get_or-set_same s.statics x v null b))
    (λ j c o. ap cell_of (at j ∙ get_or-set_other s.statics x j v null o))
  where
    at : (j : ℕ) → static u j ≡ get_or (set s.statics x v) j null
    at j = ap (λ (vs : List machine.Value). get_or vs j null) q
