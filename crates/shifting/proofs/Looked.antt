-- What a step that does not stay in its frame reads of the lent slices, where a state lies in them. Assumes nothing.
use mathlib.Core.Path.{◌≡◌, refl, ap, ◌∙◌}
use mathlib.Core.List.{List, [], ◌∷◌, map}
use Prim.Native.Nat.{ℕ, zero, suc, ◌≤◌, ◌<◌}
use native.Mathlib.Nat.{not-suc-le-zero, le_of_suc-le-suc}
use native.Mathlib.Omega.{arith}
use lib.ListN.{length, length-map, get_or}
use borrow.Author.Tests.{lt-ltb, le-ltb}
use Rattle.machine.specs.declared.Value as machine
use Rattle.machine.specs.State as state
use Rattle.machine.specs.State.{Frame, State, register, object_at}
use Rattle.machine.specs.Shaped.{Known}
use Rattle.cells.specs.declared.Frame as cells
use Rattle.cells.specs.Cells.{cell_of, frames_of}
use Rattle.store.specs.Store.{absent_frame, method_of, address_of}
use Rattle.laid.proofs.Lists.{read_nowhere}
use Rattle.laid.proofs.Parts.{register_any}
use Rattle.laid.proofs.Frames.{frames_length, top_read, below_read}
use Rattle.turn.specs.declared.Status.TheVariants.{Running, Raised}
use Rattle.site.specs.Work.{nowhere}
use Rattle.shift.specs.declared.At.{At}
use Rattle.shift.specs.Places.{top_of, below_of, look_of}
use Rattle.drive.specs.Models.{Lent}
use Rattle.turns.specs.Turns.{method_in, address_in, below_in, value_in, class_in}
use Rattle.lies.specs.Lies.{Roomy, Lies}
use Rattle.lies.proofs.Values.{object_class, value_class}

-- ---- places

pub top_of_lem : (depth n : ℕ) → depth ≡ suc n → top_of depth ≡ n
top_of_lem depth n e = rw (lt-ltb 0 depth (omega (arith, e))) (omega (arith, e))

top_none : (depth : ℕ) → depth ≡ 0 → top_of depth ≡ nowhere
top_none depth e = rw (le-ltb 0 depth (omega (arith, e))) refl

pub below_of_lem : (depth n : ℕ) → depth ≡ suc (suc n) → below_of depth ≡ n
below_of_lem depth n e = rw (lt-ltb 1 depth (omega (arith, e))) (omega (arith, e))

pub below_none : (depth : ℕ) → depth ≡ 1 → below_of depth ≡ nowhere
below_none depth e = rw (le-ltb 1 depth (omega (arith, e))) refl

-- ---- one part of each element of a list

module _ {A B : Type 0} (g : A → B) where
  part_read : (xs : List A) (i : ℕ) (d : B) (e : A) → i < length xs → get_or (map g xs) i d ≡ g (get_or xs i e)
  part_read [] i d e l = absurd (not-suc-le-zero l)
  part_read (x ∷ xs) zero d e l = refl
  part_read (x ∷ xs) (suc i) d e l = part_read xs i d e (le_of_suc-le-suc l)

-- ---- what is read

module _ (s : State) (before now : Lent) (roomy : Roomy before) (h : At) (lies : Lies s before h.run.tally now) where
  -- how many frames there are
  deep : (fs : List Frame) → s.frames ≡ fs → h.run.tally.depth ≡ length fs
  deep fs e = lies.depth ∙ ap length e

  shallow : (fs : List Frame) → s.frames ≡ fs → length fs ≤ 32
  shallow fs e = rw e at lies.few_frames

  module _ (f : Frame) (rest : List Frame) (e : s.frames ≡ f ∷ rest) where
    pub method_in_lem : method_in now h ≡ f.method
    unfolding look_of
    method_in_lem =
        let size : length (frames_of s before.frames) ≡ length before.frames = frames_length s before.frames in
        let few : length (f ∷ rest) ≤ 32 = shallow (f ∷ rest) e in
        rw (lies.frames, top_of_lem h.run.tally.depth (length rest) (deep (f ∷ rest) e))
        (part_read method_of (frames_of s before.frames) (length rest) 4294967295 absent_frame (omega (arith, size, few, roomy.frames))
        ∙ ap method_of (top_read s before.frames absent_frame f rest e few roomy.frames))

    pub address_in_lem : address_in now h ≡ f.address
    unfolding look_of
    address_in_lem =
        let size : length (frames_of s before.frames) ≡ length before.frames = frames_length s before.frames in
        let few : length (f ∷ rest) ≤ 32 = shallow (f ∷ rest) e in
        rw (lies.frames, top_of_lem h.run.tally.depth (length rest) (deep (f ∷ rest) e))
        (part_read address_of (frames_of s before.frames) (length rest) 4294967295 absent_frame (omega (arith, size, few, roomy.frames))
        ∙ ap address_of (top_read s before.frames absent_frame f rest e few roomy.frames))

    -- a register, null where there is none
    pub value_in_lem : length f.registers ≤ 16 → value_in now h ≡ cell_of (register f (look_of h).first)
    unfolding look_of
    value_in_lem few =
        rw (lies.frames, top_of_lem h.run.tally.depth (length rest) (deep (f ∷ rest) e), top_read s before.frames absent_frame f rest e (shallow (f ∷ rest) e) roomy.frames)
        (register_any f (look_of h).first few)

  -- no frame is open: what is read is an address of no method
  pub address_none : s.frames ≡ [] → address_in now h ≡ 4294967295
  unfolding look_of
  address_none e =
      let fs : List cells.Frame = frames_of s before.frames in
      rw (lies.frames, top_none h.run.tally.depth (deep [] e))
      (read_nowhere (map address_of fs) 4294967295
      (omega (arith, length-map fs address_of, frames_length s before.frames, roomy.frames_end)))

  pub below_in_lem : (f g : Frame) (rest : List Frame) → s.frames ≡ f ∷ g ∷ rest → below_in now h ≡ g.address
  unfolding look_of
  below_in_lem f g rest e =
      let size : length (frames_of s before.frames) ≡ length before.frames = frames_length s before.frames in
      let few : length (f ∷ g ∷ rest) ≤ 32 = shallow (f ∷ g ∷ rest) e in
      rw (lies.frames, below_of_lem h.run.tally.depth (length rest) (deep (f ∷ g ∷ rest) e))
      (part_read address_of (frames_of s before.frames) (length rest) 4294967295 absent_frame (omega (arith, size, few, roomy.frames))
      ∙ ap address_of (below_read s before.frames absent_frame f g rest e few roomy.frames))

  -- the one in the register, and the pending one
  pub class_in_lem : (v : machine.Value) → value_in now h ≡ cell_of v → h.run.tally.status ≡ Running → Known (length s.objects) v
      → class_in now h ≡ state.class_of s v
  unfolding look_of
  class_in_lem v e r k = rw (r, e) (value_class roomy lies v k)

  pub class_raised : (o : ℕ) → h.run.tally.status ≡ Raised o → o < length s.objects → class_in now h ≡ (object_at s o).class
  unfolding look_of
  class_raised o r l = rw r (object_class roomy lies o l)
