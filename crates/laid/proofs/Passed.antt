-- The frames that a slice holds after a call: the arguments are passed one by one, then the method is written. Assumes nothing.
use mathlib.Core.Path.{◌≡◌, refl, sym, ap, ◌∙◌}
use mathlib.Core.List.{List, ◌∷◌}
use Prim.Native.Nat.{ℕ, zero, suc, ◌+◌, ◌-◌, ◌≤◌, ◌<◌}
use native.Mathlib.Nat.{add-zero, add-suc}
use native.Mathlib.Decide.{ℕ_discrete}
use native.Mathlib.Omega.{arith}
use lib.Dec.{ltb}
use lib.ListN.{length, get_or, set}
use borrow.Author.Tests.{ltb-true, ltb-false, lt-ltb, le-ltb}
use Rattle.text.proofs.Cases.{by_test}
use Rattle.program.specs.Lists.{tab}
use Rattle.program.specs.Program.{Program, registers, arguments}
use Rattle.program.proofs.Lists.{length_tab, tab_cong}
use Rattle.program.proofs.Writes.{set_tab}
use Rattle.machine.specs.declared.Value as machine
use Rattle.machine.specs.State as state
use Rattle.machine.specs.State.{State, null, register}
use Rattle.machine.specs.Run.{entered}
use Rattle.machine.proofs.Elements.{tab_at}
use Rattle.cells.specs.declared.Value.{Value}
use Rattle.cells.specs.declared.Frame.{Frame}
use Rattle.cells.specs.Cells.{cell_of, zero_value, frame_of, frame_at, frames_of}
use Rattle.store.specs.Store.{absent_frame, registers_of, with_method, with_register}
use Rattle.laid.specs.Passed.{passed_frames, skipped, argument, argument_by, entering, calling}
use Rattle.laid.proofs.Parts.{register_read, register_put, frame_null}
use Rattle.laid.proofs.Frames.{frame_top, frame_rest, frame_out, frames_alike, top_read, below_read, top_put}

-- ---- the registers of the new frame

module _ (p : Program) (m c : ℕ) (f : state.Frame) where
  -- none has been passed
  first_null : (i : ℕ) → argument_by p m c f 0 i ≡ null
  first_null i =
      by_test (ltb i (skipped p m)) (λ t. rw (t, lt-ltb i (skipped p m + 0) (omega (arith, ltb-true i (skipped p m) t))) refl)
      (λ t. rw (le-ltb i (skipped p m + 0) (omega (arith, ltb-false i (skipped p m) t))) refl)

  -- one more is
  one_more_lem : (k : ℕ) → k < arguments p m → arguments p m ≤ registers p m
      → set (tab (registers p m) (argument_by p m c f k)) (skipped p m + k) (register f (c + k)) ≡ tab (registers p m) (argument_by p m c f (suc k))
  one_more_lem k l fit =
      set_tab (registers p m) (argument_by p m c f k) (skipped p m + k) (register f (c + k)) (argument_by p m c f (suc k)) here
      (λ j b o. others j o)
      (omega arith)
    where
      here : argument_by p m c f (suc k) (skipped p m + k) ≡ register f (c + k)
      here =
          let back : skipped p m + k - skipped p m ≡ k = omega arith in
          rw
          (lt-ltb (skipped p m + k) (skipped p m + suc k) (omega arith), le-ltb (skipped p m + k) (skipped p m) (omega arith), back)
          refl

      others : (j : ℕ) → (j ≡ skipped p m + k → ⊥) → argument_by p m c f (suc k) j ≡ argument_by p m c f k j
      others j o =
          by_test (ltb j (skipped p m + k))
          (λ t. rw (t, lt-ltb j (skipped p m + suc k) (omega (arith, ltb-true j (skipped p m + k) t))) refl)
          (λ t. rw (t, le-ltb j (skipped p m + suc k) (omega (arith, ltb-false j (skipped p m + k) t, o))) refl)

  -- all have been
  all_there : arguments p m ≤ registers p m → tab (registers p m) (argument_by p m c f (arguments p m)) ≡ tab (registers p m) (argument p m c f)
  all_there fit =
      tab_cong (registers p m) (argument_by p m c f (arguments p m)) (argument p m c f)
      (λ i l. rw (lt-ltb i (skipped p m + arguments p m) (omega arith)) refl)

-- ---- the frames

module _ (p : Program) (m c : ℕ) (s : State) (before : List Frame) (f : state.Frame) (rest : List state.Frame) where
  none_passed : s.frames ≡ f ∷ rest → frames_of s before ≡ frames_of (calling p m c s f rest 0) before
  none_passed e =
      frames_alike s (calling p m c s f rest 0) before
      (λ i l. ap (λ (fs : List state.Frame). frame_of (frame_at fs i)) e ∙ at i (ℕ_discrete i (length (f ∷ rest))))
    where
      nulls : (j : ℕ) → get_or (tab (registers p m) (argument_by p m c f 0)) j null ≡ null
      nulls j = tab_at (λ (v : machine.Value). v ≡ null) (registers p m) (argument_by p m c f 0) null j refl (first_null p m c f)

      at : (i : ℕ) → Dec (i ≡ length (f ∷ rest)) → frame_of (frame_at (f ∷ rest) i) ≡ frame_of (frame_at (entering p m c f 0 ∷ f ∷ rest) i)
      at i (yes q) =
          ap frame_of (frame_out (f ∷ rest) i (omega arith))
          ∙ sym (frame_null (tab (registers p m) (argument_by p m c f 0)) nulls)
          ∙ ap frame_of (sym (frame_top (entering p m c f 0) (f ∷ rest)))
          ∙ ap (λ (j : ℕ). frame_of (frame_at (entering p m c f 0 ∷ f ∷ rest) j)) (sym q)
      at i (no o) = ap frame_of (sym (frame_rest (entering p m c f 0) (f ∷ rest) i o))

  module _ (room : length (f ∷ rest) < 32) (enough : 32 ≤ length before) (named : c + arguments p m ≤ length f.registers)
      (few : length f.registers ≤ 16) (fit : arguments p m ≤ registers p m) (small : registers p m ≤ 16) where
    -- argument k as it is read from the caller, and the new frame with it
    argument_read : (k : ℕ) → k < arguments p m
        → get_or (registers_of (get_or (frames_of (calling p m c s f rest k) before) (length rest) absent_frame)) (c + k) zero_value ≡ cell_of (register f (c + k))
    argument_read k l =
        ap (λ (g : Frame). get_or (registers_of g) (c + k) zero_value)
        (below_read (calling p m c s f rest k) before absent_frame (entering p m c f k) f rest refl room enough)
        ∙ register_read f (c + k) zero_value (omega arith)

    argument_put : (k : ℕ) → k < arguments p m
        → with_register (get_or (frames_of (calling p m c s f rest k) before) (length (f ∷ rest)) absent_frame) (skipped p m + k) (cell_of (register f (c + k)))
        ≡ frame_of (entering p m c f (suc k))
    argument_put k l =
        let size : length (tab (registers p m) (argument_by p m c f k)) ≡ registers p m = length_tab (registers p m) (argument_by p m c f k) in
        ap (λ (g : Frame). with_register g (skipped p m + k) (cell_of (register f (c + k))))
        (top_read (calling p m c s f rest k) before absent_frame (entering p m c f k) (f ∷ rest) refl room enough)
        ∙ register_put (entering p m c f k) (skipped p m + k) (register f (c + k)) (omega (arith, size, l, fit)) (omega (arith, size, small))
        ∙ ap (λ (vs : List machine.Value). frame_of (record { method = 0; address = 0; registers = vs; result = null })) (one_more_lem p m c f k l fit)

    one_passed : (k : ℕ) → k < arguments p m
        → set (frames_of (calling p m c s f rest k) before) (length (f ∷ rest))
        (with_register (get_or (frames_of (calling p m c s f rest k) before) (length (f ∷ rest)) absent_frame) (skipped p m + k)
        (get_or (registers_of (get_or (frames_of (calling p m c s f rest k) before) (length rest) absent_frame)) (c + k) zero_value))
        ≡ frames_of (calling p m c s f rest (suc k)) before
    one_passed k l =
        ap (λ (v : Value).
        set (frames_of (calling p m c s f rest k) before) (length (f ∷ rest))
        (with_register (get_or (frames_of (calling p m c s f rest k) before) (length (f ∷ rest)) absent_frame) (skipped p m + k) v))
        (argument_read k l)
        ∙ ap (λ (g : Frame). set (frames_of (calling p m c s f rest k) before) (length (f ∷ rest)) g) (argument_put k l)
        ∙ top_put (calling p m c s f rest k) (calling p m c s f rest (suc k)) before (entering p m c f k) (entering p m c f (suc k)) (f ∷ rest) refl refl room
        enough

    -- n more are passed after k
    more_passed : (n k : ℕ) → k + n ≡ arguments p m
        → passed_frames n (c + k) (skipped p m + k) (length rest) (length (f ∷ rest)) (frames_of (calling p m c s f rest k) before)
        ≡ frames_of (calling p m c s f rest (arguments p m)) before
    unfolding passed_frames
    more_passed zero k q = ap (λ (j : ℕ). frames_of (calling p m c s f rest j) before) (omega (arith, q))
    more_passed (suc n) k q =
        ap (passed_frames n (suc (c + k)) (suc (skipped p m + k)) (length rest) (length (f ∷ rest))) (one_passed k (omega (arith, q)))
        ∙ rw (sym (add-suc c k), sym (add-suc (skipped p m) k)) (more_passed n (suc k) (omega (arith, q)))

    frames_passed : s.frames ≡ f ∷ rest
        → passed_frames (arguments p m) c (skipped p m) (length rest) (length (f ∷ rest)) (frames_of s before)
        ≡ frames_of (calling p m c s f rest (arguments p m)) before
    frames_passed e =
        ap (passed_frames (arguments p m) c (skipped p m) (length rest) (length (f ∷ rest))) (none_passed e)
        ∙ (rw (add-zero c, add-zero (skipped p m)) at (more_passed (arguments p m) 0 (omega arith)))

-- the method is written last
pub frames_called : (p : Program) (m c : ℕ) (s u : State) (before : List Frame) (f : state.Frame) (rest : List state.Frame)
    → s.frames ≡ f ∷ rest → u.frames ≡ entered p m c f ∷ f ∷ rest → length (f ∷ rest) < 32 → 32 ≤ length before
    → c + arguments p m ≤ length f.registers → length f.registers ≤ 16 → arguments p m ≤ registers p m → registers p m ≤ 16
    → set (passed_frames (arguments p m) c (registers p m - arguments p m) (length rest) (length (f ∷ rest)) (frames_of s before)) (length (f ∷ rest))
    (with_method
    (get_or (passed_frames (arguments p m) c (registers p m - arguments p m) (length rest) (length (f ∷ rest)) (frames_of s before)) (length (f ∷ rest)) absent_frame)
    m)
    ≡ frames_of u before
frames_called p m c s u before f rest e q room enough named few fit small =
    ap (λ (fs : List Frame). set fs (length (f ∷ rest)) (with_method (get_or fs (length (f ∷ rest)) absent_frame) m))
    (frames_passed p m c s before f rest room enough named few fit small e)
    ∙ ap (λ (g : Frame). set (frames_of last before) (length (f ∷ rest)) (with_method g m))
    (top_read last before absent_frame (entering p m c f (arguments p m)) (f ∷ rest) refl room enough)
    ∙ ap
    (λ (vs : List machine.Value).
    set (frames_of last before) (length (f ∷ rest)) (frame_of (record { method = m; address = 0; registers = vs; result = null })))
    (all_there p m c f fit)
    ∙ top_put last u before (entering p m c f (arguments p m)) (entered p m c f) (f ∷ rest) refl q room enough
  where
    last : State
    last = calling p m c s f rest (arguments p m)
