-- What is read and written in one frame and one object that a slice holds. Assumes nothing.
use mathlib.Core.Path.{◌≡◌, refl, sym, ap, ◌∙◌}
use mathlib.Core.List.{List}
use Prim.Native.Nat.{ℕ, ◌≤◌, ◌<◌}
use native.Mathlib.Omega.{arith}
use lib.Dec.{ltb}
use lib.ListN.{length, get_or, set, replicate, get_or-eq_default}
use lib.Seq.{get_or-set_same, get_or-set_other, set_out}
use borrow.Author.Tests.{ltb-true, ltb-false}
use Rattle.text.proofs.Cases.{by_test}
use Rattle.program.specs.Lists.{tab}
use Rattle.program.specs.Program.{Program, field_count}
use Rattle.program.proofs.Lists.{length_tab, getD_tab, getD_tab_out}
use Rattle.program.proofs.Writes.{set_tab}
use Rattle.machine.specs.declared.Value as machine
use Rattle.machine.specs.State as state
use Rattle.machine.specs.State.{null, no_frame, register}
use Rattle.machine.specs.Run.{moved, fresh, stored}
use Rattle.machine.proofs.Elements.{replicate_at}
use Rattle.cells.specs.declared.Value.{Value}
use Rattle.cells.specs.Cells.{cell_of, zero_value, zero_frame, zero_object, frame_of, object_of}
use Rattle.store.specs.Store.{with_method, with_address, with_result, with_registers, with_register, with_class, with_cells, with_cell}
use Rattle.laid.proofs.Lists.{tab_same}

-- ---- the values of a list in n places

module _ (n : ℕ) (vs : List machine.Value) where
  values_read : (x : ℕ) (c : Value) → x < n → get_or (tab n (λ i. cell_of (get_or vs i null))) x c ≡ cell_of (get_or vs x null)
  values_read x c l = getD_tab n (λ i. cell_of (get_or vs i null)) x c l

  values_put : (x : ℕ) (v : machine.Value) → x < length vs → length vs ≤ n
      → set (tab n (λ i. cell_of (get_or vs i null))) x (cell_of v) ≡ tab n (λ i. cell_of (get_or (set vs x v) i null))
  values_put x v l few =
      set_tab n (λ i. cell_of (get_or vs i null)) x (cell_of v) (λ i. cell_of (get_or (set vs x v) i null)) (ap cell_of (get_or-set_same vs x v null l))
      (λ j b o. ap cell_of (get_or-set_other vs x j v null o))
      (omega arith)

  values_past : (x : ℕ) (c : Value) → n ≤ x → set (tab n (λ i. cell_of (get_or vs i null))) x c ≡ tab n (λ i. cell_of (get_or vs i null))
  values_past x c l =
      set_out (tab n (λ i. cell_of (get_or vs i null))) x c (rw (length_tab n (λ i. cell_of (get_or vs i null))) l)

  values_none : ((i : ℕ) → get_or vs i null ≡ null) → tab n (λ i. cell_of (get_or vs i null)) ≡ replicate n zero_value
  values_none e = tab_same n (λ i. cell_of (get_or vs i null)) zero_value (λ i l. ap cell_of (e i))

-- ---- a frame

module _ (f : state.Frame) where
  pub register_read : (r : ℕ) (c : Value) → r < 16 → get_or (frame_of f).registers r c ≡ cell_of (register f r)
  register_read r c l = values_read 16 f.registers r c l

  -- past the registers null is read
  pub register_any : (r : ℕ) → length f.registers ≤ 16 → get_or (frame_of f).registers r zero_value ≡ cell_of (register f r)
  register_any r few =
      by_test (ltb r 16)
      (λ t. register_read r zero_value (ltb-true r 16 t))
      (λ t.
      getD_tab_out 16 (λ i. cell_of (register f i)) r zero_value (ltb-false r 16 t)
      ∙ ap cell_of (sym (get_or-eq_default f.registers null (omega (arith, few, ltb-false r 16 t)))))

  pub register_put : (r : ℕ) (v : machine.Value) → r < length f.registers → length f.registers ≤ 16
      → with_register (frame_of f) r (cell_of v)
      ≡ frame_of (record { method = f.method; address = f.address; registers = set f.registers r v; result = f.result })
  register_put r v l few = ap (with_registers (frame_of f)) (values_put 16 f.registers r v l few)

  pub register_past : (r : ℕ) (c : Value) → 16 ≤ r → with_register (frame_of f) r c ≡ frame_of f
  register_past r c l = ap (with_registers (frame_of f)) (values_past 16 f.registers r c l)

  pub address_put : (a : ℕ) → with_address (frame_of f) a ≡ frame_of (moved f a)
  address_put a = refl

  pub result_put : (v : machine.Value)
      → with_result (frame_of f) (cell_of v) ≡ frame_of (record { method = f.method; address = f.address; registers = f.registers; result = v })
  result_put v = refl

  pub method_put : (m : ℕ)
      → with_method (frame_of f) m ≡ frame_of (record { method = m; address = f.address; registers = f.registers; result = f.result })
  method_put m = refl

-- a frame of nulls alone
pub frame_null : (vs : List machine.Value) → ((i : ℕ) → get_or vs i null ≡ null)
    → frame_of (record { method = 0; address = 0; registers = vs; result = null }) ≡ zero_frame
frame_null vs e = ap (with_registers zero_frame) (values_none 16 vs e)

pub frame_none : frame_of no_frame ≡ zero_frame
frame_none = refl

-- ---- an object

module _ (o : state.Object) where
  pub cell_read : (x : ℕ) (c : Value) → x < 16 → get_or (object_of o).cells x c ≡ cell_of (get_or o.cells x null)
  cell_read x c l = values_read 16 o.cells x c l

  pub cell_put : (x : ℕ) (v : machine.Value) → x < length o.cells → length o.cells ≤ 16
      → with_cell (object_of o) x (cell_of v) ≡ object_of (stored o x v)
  cell_put x v l few = ap (with_cells (object_of o)) (values_put 16 o.cells x v l few)

  pub cell_past : (x : ℕ) (c : Value) → 16 ≤ x → with_cell (object_of o) x c ≡ object_of o
  cell_past x c l = ap (with_cells (object_of o)) (values_past 16 o.cells x c l)

-- a new object: "Fields .. start at 0"
pub object_fresh : (p : Program) (k : ℕ) → object_of (fresh p k) ≡ with_class zero_object k
object_fresh p k =
    ap (with_cells (with_class zero_object k))
    (values_none 16 (replicate (field_count p) null) (λ i. replicate_at (λ (v : machine.Value). v ≡ null) (field_count p) null i refl))
