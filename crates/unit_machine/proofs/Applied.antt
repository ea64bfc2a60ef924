-- An effect, and a call, at a unit place and at its address: the states after them are alike. Assumes nothing.
use mathlib.Core.Path.{◌≡◌, refl}
use mathlib.Core.List.{List, [], ◌∷◌}
use Prim.Native.Nat.{ℕ, suc, ◌+◌, ◌-◌, ◌<◌, ◌≤◌}
use native.Mathlib.Omega.{arith}
use lib.Dec.{ltb}
use lib.ListN.{get_or}
use borrow.Author.Tests.{ltb-false}
use Rattle.text.proofs.Cases.{by_test}
use Rattle.instruction.specs.Word.{pick}
use Rattle.program.specs.Lists.{tab, Every}
use Rattle.program.specs.Program.{Program, registers, arguments}
use Rattle.program.proofs.Lists.{tab_cong}
use Rattle.machine.specs.declared.Value.{Value}
use Rattle.machine.specs.declared.Value.TheVariants.{Number, Reference}
use Rattle.machine.specs.declared.Effect.{Effect}
use Rattle.machine.specs.declared.Effect.TheVariants.{Next, Jump, Write, Load, LoadStatic, Make, Store, StoreStatic, Call, Exit}
use Rattle.machine.specs.declared.Effect.TheVariants.{Raise, RaiseNew, Fail}
use Rattle.machine.specs.State.{Frame, State, null, register, class_of}
use Rattle.machine.specs.Run.{moved, entered, with_frames, returned, apply}
use Rattle.unit_machine.specs.UnitRun.{Listing, onward, to_place, entered_from, unit_returned, unit_apply}
use Rattle.unit_machine.specs.Alike.{placed_frames, placed_state}
use Rattle.unit_machine.proofs.Jumps.{jumped}

-- the place after a frame's instruction is that of the next address
abbrev pub Onward : Listing → Frame → Type 0
Onward u f = onward (u f.method) (to_place (u f.method) f.address) ≡ to_place (u f.method) (suc f.address)

-- objects are the same at places and at addresses
pub class_alike : (u : Listing) (s : State) (v : Value) → class_of (placed_state u s) v ≡ class_of s v
class_alike u s (Number z) = refl
class_alike u s (Reference o) = refl

-- argument j stands in register c + j
abbrev pub InRow : List ℕ → ℕ → ℕ → Type 0
InRow rs c count = (j : ℕ) → j < count → get_or rs j 0 ≡ c + j

-- arguments one by one, and in registers from c on
module _ (p : Program) (m c : ℕ) (rs : List ℕ) (f : Frame) (row : InRow rs c (arguments p m)) where
  -- how many registers hold no argument
  abbrev others : ℕ
  others = registers p m - arguments p m

  entered_alike :
      tab (registers p m) (λ i. pick (ltb i others) null (register f (get_or rs (i - others) 0)))
      ≡ tab (registers p m) (λ i. pick (ltb i others) null (register f (c + (i - others))))
  entered_alike =
      tab_cong (registers p m) _ _
      (λ i l.
      by_test (ltb i others) (λ t. rw t)
      (λ t.
      let out : others ≤ i = ltb-false i others t in
      rw (t, row (i - others) (omega arith))))

module _ (p : Program) (u : Listing) (begin : (m : ℕ) → to_place (u m) 0 ≡ 0) (s : State) where
  returned_alike : (v : Value) (rest : List Frame) → Every (Onward u) rest
      → unit_returned u (placed_state u s) v (placed_frames u rest) ≡ placed_state u (returned s v rest)
  returned_alike v [] waiting = refl
  returned_alike v (g ∷ rest) waiting = rw waiting.0

  -- frame f at its place, which is `at`; the next address is at place `next`, address d at place g d
  module _ (f : Frame) (rest : List Frame) (waiting : Every (Onward u) rest) (at next : ℕ) (g : ℕ → ℕ)
      (at-is : to_place (u f.method) f.address ≡ at) (next-is : to_place (u f.method) (suc f.address) ≡ next)
      (g-is : (d : ℕ) → to_place (u f.method) d ≡ g d) where
    pub applied : (e : Effect)
        → unit_apply p u (placed_state u s) (moved f at) (placed_frames u rest) next (jumped g e) ≡ placed_state u (apply p s f rest e)
    applied Next = rw next-is
    applied (Jump to) = rw (g-is to)
    applied (Write a v) = rw next-is
    applied (Load a o x) = rw next-is
    applied (LoadStatic a x) = rw next-is
    applied (Make a k) = rw next-is
    applied (Store o x v) = rw next-is
    applied (StoreStatic x v) = rw next-is
    applied (Call m c) = rw (begin m, at-is)
    applied (Exit v) = returned_alike v rest waiting
    applied (Raise o) = refl
    applied (RaiseNew k) = refl
    applied (Fail e) = refl

    pub entered_placed : (m c : ℕ) (rs : List ℕ) → InRow rs c (arguments p m)
        → with_frames (placed_state u s) (entered_from p m rs (moved f at) ∷ moved f at ∷ placed_frames u rest)
        ≡ placed_state u (with_frames s (entered p m c f ∷ f ∷ rest))
    entered_placed m c rs row = rw (begin m, at-is, entered_alike p m c rs f row)
