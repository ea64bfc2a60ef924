-- What the code reads in the lent slices, of a running state that lies there: registers, results, classes, cells and statics.
-- Assumes nothing.
use mathlib.Core.Path.{◌≡◌, refl, ap, ◌∙◌}
use mathlib.Core.List.{List, map}
use Prim.Native.Nat.{ℕ, ◌≤◌, ◌<◌}
use native.Mathlib.Omega.{arith}
use lib.ListN.{length, get_or, get_or-map}
use Rattle.program.specs.Program.{Program, field_count}
use Rattle.reader.specs.Formed.{FormedMethod, Formed}
use Rattle.machine.specs.declared.Value as machine
use Rattle.machine.specs.declared.Value.TheVariants.{Number, Reference}
use Rattle.machine.specs.State as state
use Rattle.machine.specs.State.{State, running, register, object_at, cell, static}
use Rattle.machine.specs.Shaped.{Known, ShapedFrame, Shaped}
use Rattle.machine.proofs.Continues.{At}
use Rattle.machine.proofs.Fitting.{method_exists, top_shaped}
use Rattle.turn.specs.declared.Tally.{Tally}
use Rattle.cells.specs.declared.Frame.{Frame}
use Rattle.cells.specs.declared.Object.{Object}
use Rattle.cells.specs.declared.Value.{Value}
use Rattle.cells.specs.Cells.{cell_of, zero_value, frame_of, object_of}
use Rattle.cells.specs.Reads as reads
use Rattle.cells.specs.Reads.{object_place}
use Rattle.cells.proofs.Values.{reference_is}
use Rattle.store.specs.Store.{absent_frame, absent_object, result_of, registers_of, class_of, cells_of, with_class}
use Rattle.laid.proofs.Lists.{read_nowhere}
use Rattle.laid.proofs.Parts.{register_any, cell_read}
use Rattle.laid.proofs.Frames.{top_read}
use Rattle.laid.proofs.Objects.{objects_length, object_read}
use Rattle.laid.proofs.Statics.{static_read}
use Rattle.site.specs.declared.Site.{Site}
use Rattle.site.specs.Site.{want_of}
use Rattle.drive.specs.Models.{Lent}
use Rattle.work.specs.Work.{first_in, second_in, result_in, class_in, cell_in, static_in}
use Rattle.lies.specs.Lies.{Roomy, Lies}
use Rattle.lies.specs.Staying.{site_at}
use Rattle.lies.proofs.Registers.{registers_few}

-- a running state of a well-formed program that lies in the slices, with f on top at an address inside its method
pub record Ready (p : Program) (s : State) (before : Lent) (k : Tally) (now : Lent) (f : state.Frame) (rest : List state.Frame) : Type 0 where
  pub formed : Formed p
  pub roomy : Roomy before
  pub shaped : Shaped p s
  pub lies : Lies s before k now
  pub here : At p s running f rest

-- ---- the objects of any state that lies in the slices

module _ {s : State} {before : Lent} {k : Tally} {now : Lent} (roomy : Roomy before) (lies : Lies s before k now) where
  object_lies : (o : ℕ) (d : Object) → o < length s.objects → get_or now.objects o d ≡ object_of (object_at s o)
  object_lies o d l =
      ap (λ (os : List Object). get_or os o d) lies.objects
      ∙ object_read s before.objects d o l lies.few_objects roomy.objects

  -- the class of an object, and of a value
  pub object_class : (o : ℕ) → o < length s.objects → get_or (map class_of now.objects) o 64 ≡ (object_at s o).class
  object_class o l =
      get_or-map class_of now.objects o (with_class absent_object 64) ∙ ap class_of (object_lies o (with_class absent_object 64) l)

  pub value_class : (v : machine.Value) → Known (length s.objects) v
      → get_or (map class_of now.objects) (object_place (cell_of v)) 64 ≡ state.class_of s v
  value_class (Number z) l =
      get_or-map class_of now.objects 18446744073709551615 (with_class absent_object 64)
      ∙ ap class_of
      (read_nowhere now.objects (with_class absent_object 64)
      (omega (arith, ap (λ (os : List Object). length os) lies.objects, objects_length s before.objects, roomy.objects_end)))
  value_class (Reference o) l = object_class o l

module _ {p : Program} {s : State} {before : Lent} {k : Tally} {now : Lent} {f : state.Frame} {rest : List state.Frame}
    (h : Ready p s before k now f rest) where
  -- ---- the top frame

  pub frame_shaped : ShapedFrame p (length s.objects) f
  frame_shaped = (top_shaped p s h.shaped f rest h.here.frames).0

  pub method : FormedMethod p f.method
  method = h.formed.methods f.method (method_exists p f.method f.address h.here.inside)

  -- "r registers (1 to 16)"
  pub few_registers : length f.registers ≤ 16
  few_registers = registers_few p h.formed s h.shaped f rest h.here.frames h.here.inside

  pub low : length rest < 32
  low = omega (arith, h.lies.few_frames, ap (λ (fs : List state.Frame). length fs) h.here.frames)

  pub top_is : get_or now.frames (length rest) absent_frame ≡ frame_of f
  top_is =
      ap (λ (fs : List Frame). get_or fs (length rest) absent_frame) h.lies.frames
      ∙ top_read s before.frames absent_frame f rest h.here.frames low h.roomy.frames

  -- past the registers null is read
  pub register_is : (r : ℕ) → get_or (registers_of (get_or now.frames (length rest) absent_frame)) r zero_value ≡ cell_of (register f r)
  register_is r =
      ap (λ (g : Frame). get_or (registers_of g) r zero_value) top_is ∙ register_any f r few_registers

  pub result_is : get_or (map result_of now.frames) (length rest) zero_value ≡ cell_of f.result
  result_is = get_or-map result_of now.frames (length rest) absent_frame ∙ ap result_of top_is

  -- ---- the objects and the statics

  pub object_is : (o : ℕ) (d : Object) → o < length s.objects → get_or now.objects o d ≡ object_of (object_at s o)
  object_is = object_lies h.roomy h.lies

  pub cell_is : (o x : ℕ) → o < length s.objects → x < field_count p
      → get_or (cells_of (get_or now.objects o absent_object)) x zero_value ≡ cell_of (cell s o x)
  cell_is o x l b =
      ap (λ (y : Object). get_or (cells_of y) x zero_value) (object_is o absent_object l)
      ∙ cell_read (object_at s o) x zero_value (omega (arith, b, h.formed.limited.fields))

  -- the statics are few
  pub static_low : (x : ℕ) → x < length s.statics → x < 16
  static_low x l = omega (arith, l, h.shaped.size, h.formed.limited.statics)

  pub static_is : (x : ℕ) → x < length s.statics → get_or now.statics x zero_value ≡ cell_of (static s x)
  static_is x l =
      ap (λ (vs : List Value). get_or vs x zero_value) h.lies.statics
      ∙ static_read s before.statics zero_value x (static_low x l) h.roomy.statics

  -- what is written of a value: 32 bits hold the number of every object
  pub value_is : (v : machine.Value) → Known (length s.objects) v → reads.cell_in v ≡ cell_of v
  value_is (Number z) l = refl
  value_is (Reference o) l = reference_is o (omega (arith, l, h.lies.few_objects))

  -- ---- what the instruction at the top frame looks at

  abbrev pub site : Site
  site = site_at p f rest

  abbrev pub first : machine.Value
  first = register f (want_of site).first

  abbrev pub second : machine.Value
  second = register f (want_of site).second

  pub first_read : first_in now site ≡ cell_of first
  unfolding want_of
  first_read = register_is (want_of site).first

  pub second_read : second_in now site ≡ cell_of second
  unfolding want_of
  second_read = register_is (want_of site).second

  pub result_read : result_in now site ≡ cell_of f.result
  unfolding want_of
  result_read = result_is

  pub class_read : class_in now site ≡ state.class_of s first
  unfolding want_of
  class_read =
      ap (λ (c : Value). get_or (map class_of now.objects) (object_place c) 64) first_read
      ∙ value_class h.roomy h.lies first (frame_shaped.known (want_of site).first)

  pub cell_loaded : (o x : ℕ) → first ≡ Reference o → (want_of site).field ≡ x → o < length s.objects → x < field_count p
      → cell_in now site ≡ cell_of (cell s o x)
  unfolding want_of
  cell_loaded o x e q l b =
      ap (λ (c : Value). get_or (cells_of (get_or now.objects (object_place c) absent_object)) (want_of site).field zero_value)
      (register_is (want_of site).first ∙ ap cell_of e)
      ∙ ap (λ (y : ℕ). get_or (cells_of (get_or now.objects o absent_object)) y zero_value) q
      ∙ cell_is o x l b

  pub static_loaded : (x : ℕ) → (want_of site).fixed ≡ x → x < length s.statics → static_in now site ≡ cell_of (static s x)
  unfolding want_of
  static_loaded x q l =
      ap (λ (y : ℕ). get_or now.statics y zero_value) q ∙ static_is x l
