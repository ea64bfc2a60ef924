-- The frames that a slice holds: what is read, and what stands there after the top one changes, is dropped or is put on top.
-- Assumes nothing.
use mathlib.Core.Path.{◌≡◌, refl, sym, ap, ◌∙◌}
use mathlib.Core.List.{List, [], ◌∷◌}
use Prim.Native.Nat.{ℕ, ◌≤◌, ◌<◌}
use native.Mathlib.Omega.{arith}
use lib.ListN.{length, get_or, set}
use borrow.Author.Tests.{eq-eqb, ne_eqb}
use Rattle.machine.specs.State as state
use Rattle.machine.specs.State.{State, no_frame}
use Rattle.machine.specs.Run.{with_frames}
use Rattle.cells.specs.declared.Frame.{Frame}
use Rattle.cells.specs.Cells.{zero_frame, frame_of, frame_at, frames_of}
use Rattle.laid.proofs.Lists.{laid_length, laid_same, laid_read, laid_put}
use Rattle.laid.proofs.Parts.{frame_none}

-- ---- frame i

pub frame_top : (f : state.Frame) (rest : List state.Frame) → frame_at (f ∷ rest) (length rest) ≡ f
frame_top f rest = rw (eq-eqb (length rest) (length rest) refl)

pub frame_rest : (f : state.Frame) (rest : List state.Frame) (i : ℕ) → (i ≡ length rest → ⊥) → frame_at (f ∷ rest) i ≡ frame_at rest i
frame_rest f rest i o = rw (ne_eqb i (length rest) o)

pub frame_out : (fs : List state.Frame) (i : ℕ) → length fs ≤ i → frame_at fs i ≡ no_frame
frame_out [] i l = refl
frame_out (f ∷ rest) i l = rw (ne_eqb i (length rest) (λ e. omega arith)) (frame_out rest i (omega arith))

-- ---- what is read

pub frames_length : (s : State) (before : List Frame) → length (frames_of s before) ≡ length before
unfolding frames_of
frames_length s before = laid_length 32 before zero_frame (λ i. frame_of (frame_at s.frames i))

-- frames that are the same as far as a slice holds them
pub frames_alike : (s u : State) (before : List Frame) → ((i : ℕ) → i < 32 → frame_of (frame_at s.frames i) ≡ frame_of (frame_at u.frames i))
    → frames_of s before ≡ frames_of u before
unfolding frames_of
frames_alike s u before e =
    laid_same 32 before zero_frame (λ i. frame_of (frame_at s.frames i)) (λ i. frame_of (frame_at u.frames i)) e

pub frames_same : (s u : State) (before : List Frame) → s.frames ≡ u.frames → frames_of s before ≡ frames_of u before
frames_same s u before e = frames_alike s u before (λ i l. ap (λ (fs : List state.Frame). frame_of (frame_at fs i)) e)

module _ (s : State) (before : List Frame) (d : Frame) where
  pub frame_read : (i : ℕ) → i < 32 → 32 ≤ length before → get_or (frames_of s before) i d ≡ frame_of (frame_at s.frames i)
  unfolding frames_of
  frame_read i l enough = laid_read 32 before zero_frame (λ i. frame_of (frame_at s.frames i)) i d l enough

  -- frame i, where it is known
  frame_is : (fs : List state.Frame) (f : state.Frame) (i : ℕ) → s.frames ≡ fs → i < 32 → 32 ≤ length before → frame_at fs i ≡ f
      → get_or (frames_of s before) i d ≡ frame_of f
  frame_is fs f i e l enough is = frame_read i l enough ∙ ap frame_of (ap (λ (gs : List state.Frame). frame_at gs i) e ∙ is)

  pub top_read : (f : state.Frame) (rest : List state.Frame) → s.frames ≡ f ∷ rest → length rest < 32 → 32 ≤ length before
      → get_or (frames_of s before) (length rest) d ≡ frame_of f
  top_read f rest e l enough = frame_is (f ∷ rest) f (length rest) e l enough (frame_top f rest)

  pub below_read : (f g : state.Frame) (rest : List state.Frame) → s.frames ≡ f ∷ g ∷ rest → length (g ∷ rest) < 32 → 32 ≤ length before
      → get_or (frames_of s before) (length rest) d ≡ frame_of g
  below_read f g rest e l enough =
      frame_is (f ∷ g ∷ rest) g (length rest) e (omega arith) enough
      (frame_rest f (g ∷ rest) (length rest) (λ q. omega arith) ∙ frame_top g rest)

  pub frame_absent : (i : ℕ) → length s.frames ≤ i → i < 32 → 32 ≤ length before → get_or (frames_of s before) i d ≡ zero_frame
  frame_absent i l b enough = frame_is s.frames no_frame i refl b enough (frame_out s.frames i l) ∙ frame_none

-- ---- what is written

module _ (s u : State) (before : List Frame) where
  -- the two differ at frame i alone
  frame_put : (fs gs : List state.Frame) (g : state.Frame) (i : ℕ) → s.frames ≡ fs → u.frames ≡ gs → i < 32 → 32 ≤ length before
      → frame_at gs i ≡ g → ((j : ℕ) → (j ≡ i → ⊥) → frame_at gs j ≡ frame_at fs j)
      → set (frames_of s before) i (frame_of g) ≡ frames_of u before
  unfolding frames_of
  frame_put fs gs g i e q l enough is others =
      laid_put 32 before zero_frame (λ j. frame_of (frame_at s.frames j)) (λ j. frame_of (frame_at u.frames j)) i (frame_of g) l enough
      (ap frame_of (at i q ∙ is))
      (λ j b o. ap frame_of (at j q ∙ others j o ∙ sym (at j e)))
    where
      at : {hs ks : List state.Frame} (j : ℕ) → hs ≡ ks → frame_at hs j ≡ frame_at ks j
      at j e = ap (λ (hs : List state.Frame). frame_at hs j) e

  pub top_put : (f g : state.Frame) (rest : List state.Frame) → s.frames ≡ f ∷ rest → u.frames ≡ g ∷ rest → length rest < 32
      → 32 ≤ length before → set (frames_of s before) (length rest) (frame_of g) ≡ frames_of u before
  top_put f g rest e q l enough =
      frame_put (f ∷ rest) (g ∷ rest) g (length rest) e q l enough (frame_top g rest)
      (λ j o. frame_rest g rest j o ∙ sym (frame_rest f rest j o))

  pub top_pop : (f : state.Frame) (rest : List state.Frame) → s.frames ≡ f ∷ rest → u.frames ≡ rest → length rest < 32
      → 32 ≤ length before → set (frames_of s before) (length rest) zero_frame ≡ frames_of u before
  top_pop f rest e q l enough =
      frame_put (f ∷ rest) rest no_frame (length rest) e q l enough (frame_out rest (length rest) (omega arith))
      (λ j o. sym (frame_rest f rest j o))

  pub top_push : (g : state.Frame) → u.frames ≡ g ∷ s.frames → length s.frames < 32 → 32 ≤ length before
      → set (frames_of s before) (length s.frames) (frame_of g) ≡ frames_of u before
  top_push g q l enough =
      frame_put s.frames (g ∷ s.frames) g (length s.frames) refl q l enough (frame_top g s.frames)
      (λ j o. frame_rest g s.frames j o)

-- the top frame is dropped, and the one below it changes
pub below_put : (s u : State) (before : List Frame) (f g h : state.Frame) (rest : List state.Frame) → s.frames ≡ f ∷ g ∷ rest → u.frames ≡ h ∷ rest
    → length (g ∷ rest) < 32 → 32 ≤ length before
    → set (set (frames_of s before) (length (g ∷ rest)) zero_frame) (length rest) (frame_of h) ≡ frames_of u before
below_put s u before f g h rest e q l enough =
    let left : State = with_frames s (g ∷ rest) in
    ap (λ (fs : List Frame). set fs (length rest) (frame_of h)) (top_pop s left before f (g ∷ rest) e refl l enough)
    ∙ top_put left u before g h rest refl q (omega arith) enough
