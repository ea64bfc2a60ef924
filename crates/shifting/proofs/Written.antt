-- What a shift writes into the lent slices: nothing, at places past every slice; a part of the top frame; arguments, one by one.
-- Assumes nothing.
use mathlib.Core.Path.{◌≡◌, refl, ap, ◌∙◌}
use mathlib.Core.List.{List, ◌∷◌}
use Prim.Native.Nat.{ℕ, zero, suc, ◌+◌, ◌≤◌, ◌<◌}
use native.Mathlib.Omega.{arith}
use lib.ListN.{length, get_or, set}
use borrow.Author.Tests.{lt-ltb}
use Rattle.machine.specs.declared.Value as machine
use Rattle.machine.specs.State.{Frame, State}
use Rattle.machine.specs.Run as run
use Rattle.machine.specs.Run.{with_frames}
use Rattle.cells.specs.declared.Frame as cells
use Rattle.cells.specs.declared.Object.{Object}
use Rattle.cells.specs.Cells.{cell_of, zero_frame, frames_of}
use Rattle.store.specs.Store.{absent_frame, absent_object, with_address, with_result, with_register, with_method, with_class}
use Rattle.laid.specs.Passed.{passed_frames}
use Rattle.laid.proofs.Lists.{put_nowhere}
use Rattle.laid.proofs.Parts.{register_put}
use Rattle.laid.proofs.Frames.{top_read, top_put}
use Rattle.site.specs.Work.{nowhere}
use Rattle.shift.specs.declared.At.{At}
use Rattle.shift.specs.declared.Pass.{Pass}
use Rattle.shift.specs.declared.Run.{Run}
use Rattle.shift.specs.declared.Shift.{Shift}
use Rattle.shift.specs.Kinds.{Shifting}
use Rattle.shift.specs.Shift.{only, passes_of, up_of, passed_of}
use Rattle.drive.specs.Models.{Lent, lent, done, looped}
use Rattle.turns.specs.Turns.{shift_in, shift_done, pass_one, pass_done, popped, resumed, moved, wrote, entered, shifted_on, entered_on}
use Rattle.shifting.specs.Shifting.{written, frames_by, objects_by}

pub done_written : (w : Shifting) (t : List ℕ) (m : Lent) (h : At) → shift_done w t m h ≡ written t m (shift_in w t m h)
unfolding shift_done written
done_written w t m h = refl

-- ---- places past every slice

module _ (fs : List cells.Frame) (e : Shift) (l : length fs ≤ nowhere) where
  pub popped_none : e.popped ≡ nowhere → popped fs e ≡ fs
  popped_none q = rw q (put_nowhere fs zero_frame l)

  pub resumed_none : e.resumed ≡ nowhere → resumed fs e ≡ fs
  resumed_none q = rw q (put_nowhere fs (with_result (get_or fs nowhere absent_frame) e.value) l)

  pub moved_none : e.moved ≡ nowhere → moved fs e ≡ fs
  moved_none q = rw q (put_nowhere fs (with_address (get_or fs nowhere absent_frame) e.next) l)

  pub wrote_none : e.wrote ≡ nowhere → wrote fs e ≡ fs
  wrote_none q = rw q (put_nowhere fs (with_register (get_or fs nowhere absent_frame) e.to e.value) l)

  pub entered_none : e.entered ≡ nowhere → entered fs e ≡ fs
  entered_none q = rw q (put_nowhere fs (with_method (get_or fs nowhere absent_frame) e.method) l)

pub made_none : (os : List Object) (e : Shift) → length os ≤ nowhere → e.made ≡ nowhere → objects_by os e ≡ os
made_none os e l q = rw q (put_nowhere os (with_class (get_or os nowhere absent_object) e.class) l)

-- ---- arguments

-- no argument is passed
pub none_passed : (t : List ℕ) (m : Lent) (e : Shift) → e.pass.count ≡ 0
    → written t m e ≡ done e.run (lent (frames_by m.frames e) (objects_by m.objects e) m.statics)
unfolding written looped
none_passed t m e q = rw q refl

-- no frame is written before the arguments
pub frames_unshifted : (fs : List cells.Frame) (e : Shift) → length fs ≤ nowhere → e.popped ≡ nowhere → e.resumed ≡ nowhere
    → e.moved ≡ nowhere → e.wrote ≡ nowhere → wrote (moved (resumed (popped fs e) e) e) e ≡ fs
frames_unshifted fs e l pops resumes moves writes =
    ap (λ (fs : List cells.Frame). wrote (moved (resumed fs e) e) e) (popped_none fs e l pops)
    ∙ ap (λ (fs : List cells.Frame). wrote (moved fs e) e) (resumed_none fs e l resumes)
    ∙ ap (λ (fs : List cells.Frame). wrote fs e) (moved_none fs e l moves)
    ∙ wrote_none fs e l writes

-- nothing is
unshifted : (m : Lent) (e : Shift) → length m.frames ≤ nowhere → length m.objects ≤ nowhere → e.popped ≡ nowhere → e.resumed ≡ nowhere
    → e.moved ≡ nowhere → e.wrote ≡ nowhere → e.made ≡ nowhere → shifted_on m e ≡ m
unshifted m e l b pops resumes moves writes makes =
    ap (λ (fs : List cells.Frame). lent fs (objects_by m.objects e) m.statics)
    (frames_unshifted m.frames e l pops resumes moves writes)
    ∙ ap (λ (os : List Object). lent m.frames os m.statics) (made_none m.objects e b makes)

-- nothing at all
pub nothing_written : (t : List ℕ) (m : Lent) (k : Run) → length m.frames ≤ nowhere → length m.objects ≤ nowhere
    → written t m (only k) ≡ done k m
unfolding written looped
nothing_written t m k l b =
    ap (λ (n : Lent). done k (entered_on n (only k))) (unshifted m (only k) l b refl refl refl refl refl)
    ∙ ap (λ (fs : List cells.Frame). done k (lent fs m.objects m.statics)) (entered_none m.frames (only k) l refl)

up : (n : ℕ) → n < 256 → up_of n ≡ suc n
up n l = rw (lt-ltb n 18446744073709551615 (omega (arith, l))) (omega arith)

-- so many arguments
all_passed : (t : List ℕ) (n : ℕ) (m : Lent) (q : Pass) → q.count ≡ n → q.from + n ≤ 256 → q.to + n ≤ 256
    → (looped (λ t r. passes_of r) pass_one t n m q).memory ≡ lent (passed_frames n q.from q.to q.top q.above m.frames) m.objects m.statics
unfolding looped passed_frames
all_passed t zero m q c a b = refl
all_passed t (suc n) m q c a b =
    rw (lt-ltb 0 q.count (omega (arith, c)))
    (all_passed t n (pass_one t m q).memory (passed_of q) (omega (arith, c)) (rw (up q.from (omega (arith, a))) (omega (arith, a)))
    (rw (up q.to (omega (arith, b))) (omega (arith, b)))
    ∙ ap (λ (i : ℕ). lent (passed_frames n i (up_of q.to) q.top q.above (pass_one t m q).memory.frames) m.objects m.statics)
    (up q.from (omega (arith, a)))
    ∙ ap (λ (i : ℕ). lent (passed_frames n (suc q.from) i q.top q.above (pass_one t m q).memory.frames) m.objects m.statics)
    (up q.to (omega (arith, b))))

-- they and the method alone
pub call_written : (t : List ℕ) (m : Lent) (e : Shift) → length m.frames ≤ nowhere → length m.objects ≤ nowhere → e.popped ≡ nowhere
    → e.resumed ≡ nowhere → e.moved ≡ nowhere → e.wrote ≡ nowhere → e.made ≡ nowhere
    → e.pass.from + e.pass.count ≤ 256 → e.pass.to + e.pass.count ≤ 256
    → written t m e
    ≡ done e.run
    (lent
    (entered (passed_frames e.pass.count e.pass.from e.pass.to e.pass.top e.pass.above m.frames) e)
    m.objects
    m.statics)
unfolding written
call_written t m e l b pops resumes moves writes makes from to =
    ap (λ (n : Lent). done e.run (entered_on (pass_done t n e.pass).memory e)) (unshifted m e l b pops resumes moves writes makes)
    ∙ ap (λ (n : Lent). done e.run (entered_on n e)) (all_passed t e.pass.count m e.pass refl from to)

-- ---- one part of the top frame

module _ (s : State) (before : List cells.Frame) (f : Frame) (rest : List Frame) (e : s.frames ≡ f ∷ rest) (few : length rest < 32)
    (enough : 32 ≤ length before) where
  pub address_on : (a : ℕ)
      → set (frames_of s before) (length rest) (with_address (get_or (frames_of s before) (length rest) absent_frame) a)
      ≡ frames_of (with_frames s (run.moved f a ∷ rest)) before
  address_on a =
      ap (λ (g : cells.Frame). set (frames_of s before) (length rest) (with_address g a)) (top_read s before absent_frame f rest e few enough)
      ∙ top_put s (with_frames s (run.moved f a ∷ rest)) before f (run.moved f a) rest e refl few enough

  pub result_on : (v : machine.Value)
      → set (frames_of s before) (length rest) (with_result (get_or (frames_of s before) (length rest) absent_frame) (cell_of v))
      ≡ frames_of (with_frames s (run.resumed f f.address v ∷ rest)) before
  result_on v =
      ap (λ (g : cells.Frame). set (frames_of s before) (length rest) (with_result g (cell_of v))) (top_read s before absent_frame f rest e few enough)
      ∙ top_put s (with_frames s (run.resumed f f.address v ∷ rest)) before f (run.resumed f f.address v) rest e refl few enough

  pub register_on : (r : ℕ) (v : machine.Value) → r < length f.registers → length f.registers ≤ 16
      → set (frames_of s before) (length rest) (with_register (get_or (frames_of s before) (length rest) absent_frame) r (cell_of v))
      ≡ frames_of (with_frames s (record { method = f.method; address = f.address; registers = set f.registers r v; result = f.result } ∷ rest)) before
  register_on r v l small =
      let g : Frame = record { method = f.method; address = f.address; registers = set f.registers r v; result = f.result } in
      ap (λ (g : cells.Frame). set (frames_of s before) (length rest) g)
      (ap (λ (g : cells.Frame). with_register g r (cell_of v)) (top_read s before absent_frame f rest e few enough) ∙ register_put f r v l small)
      ∙ top_put s (with_frames s (g ∷ rest)) before f g rest e refl few enough
