-- What the machine over units does at a place, and document 01's machine at its address: one clause an opcode. Assumes nothing.
use mathlib.Core.Path.{◌≡◌, refl, sym, ap, ◌∙◌}
use mathlib.Core.List.{List}
use Prim.Native.Nat.{ℕ, zero, suc, ◌+◌, ◌<◌}
use native.Mathlib.Nat.{add-zero}
use native.Mathlib.Omega.{arith}
use lib.ListN.{length, get_or}
use lib.Seq.{get_or-take}
use borrow.Author.Tests.{lt-ltb}
use Rattle.std.specs.Prelude.{Option, Some, None}
use Rattle.instruction.specs.declared.Instruction.{Instruction}
use Rattle.instruction.specs.Test.{Holds}
use Rattle.program.specs.Lists.{Every}
use Rattle.program.specs.Program.{Program, arguments}
use Rattle.program.proofs.Lists.{getD_tab}
use Rattle.values.specs.Values.{call_test}
use Rattle.search.specs.Search.{virtual_callee}
use Rattle.machine.specs.declared.Value.{Value}
use Rattle.machine.specs.declared.Value.TheVariants.{Number, Reference}
use Rattle.machine.specs.declared.Fault.TheVariants.{NoMethod}
use Rattle.machine.specs.declared.Effect.{Effect}
use Rattle.machine.specs.declared.Effect.TheVariants.{Next, Jump, Call, Fail}
use Rattle.machine.specs.State.{Frame, State, null, register, class_of}
use Rattle.machine.specs.Decide.{not_object, branch as branches, virtual_call, call_of, decide}
use Rattle.machine.specs.Run.{moved, apply}
use Rattle.machine.proofs.Found.{callee_fits}
use Rattle.units.specs.declared.Branch.{Branch}
use Rattle.units.specs.declared.Branch.TheVariants.{Goto, Goto16, Goto32, If, IfZero}
use Rattle.units.specs.declared.Opcode.{Opcode}
use Rattle.units.specs.declared.Opcode.TheVariants.{NotTaken, Plain as plain, Branch as branch}
use Rattle.units.specs.declared.Plain.{Plain}
use Rattle.units.specs.declared.Plain.TheVariants.{Nop, Move, MoveFrom16, Move16, MoveResult, MoveException, ReturnVoid, Return}
use Rattle.units.specs.declared.Plain.TheVariants.{Const4, Const16, Const32, ConstHigh16, CheckCast, InstanceOf, NewInstance, Throw}
use Rattle.units.specs.declared.Plain.TheVariants.{Iget, Iput, Sget, Sput, InvokeVirtual, InvokeStatic, InvokeVirtualRange}
use Rattle.units.specs.declared.Plain.TheVariants.{InvokeStaticRange, Unop, Binop, BinopInPlace}
use Rattle.units.specs.Units.{address_in, place_in}
use Rattle.units.specs.Formats.{field_a_a, fieldA, fieldB, field_b_b, field_c_c, five_of, listed, ranged, target_of}
use Rattle.units.specs.Frames.{first_of, plain_frame, branch_frame, framed, five_fine, plain_fine, branch_fine, reached, fine}
use Rattle.units.proofs.Starts.{place_address}
use Rattle.unit_machine.specs.UnitDeed.{Deed, does, enters, calling, virtual_of, plain_deed, branch_deed, deed}
use Rattle.unit_machine.specs.UnitRun.{Listing, onward, to_place, carried}
use Rattle.unit_machine.specs.Alike.{placed_frames, placed_state}
use Rattle.unit_machine.proofs.Jumps.{jumped, not_object_lem, binop_jumped, unop_jumped, branch_jumped, get_jumped, put_jumped}
use Rattle.unit_machine.proofs.Jumps.{throw_jumped, instance_jumped, cast_jumped}
use Rattle.unit_machine.proofs.Applied.{Onward, InRow, class_alike, applied, entered_placed}

-- ---- "Call arguments must be consecutive and rising"
listed_row : (x w : ℕ) → Holds (five_fine x w) → InRow (listed x w) (first_of (listed x w)) (fieldB x)
listed_row x w h j l =
    get_or-take (fieldB x) (five_of x w) j 0 l ∙ nibble j l
    ∙ ap (λ (c : ℕ). c + j) (sym (get_or-take (fieldB x) (five_of x w) 0 0 (omega arith)))
  where
    nibble : (j : ℕ) → j < fieldB x → get_or (five_of x w) j 0 ≡ get_or (five_of x w) 0 0 + j
    nibble zero l = omega arith
    nibble (suc zero) l = h.1.1.0.0 (lt-ltb 1 (fieldB x) l)
    nibble (suc (suc zero)) l = h.1.1.1.0.0 (lt-ltb 2 (fieldB x) l)
    nibble (suc (suc (suc zero))) l = h.1.1.1.1.0.0 (lt-ltb 3 (fieldB x) l)
    nibble (suc (suc (suc (suc zero)))) l = h.1.1.1.1.1.0 (lt-ltb 4 (fieldB x) l)
    nibble (suc (suc (suc (suc (suc j))))) l = absurd (omega (arith, h.0))

ranged_row : (x w : ℕ) → InRow (ranged x w) (first_of (ranged x w)) (field_a_a x)
ranged_row x w j l =
    getD_tab (field_a_a x) (λ i. w + i) j 0 l
    ∙ ap (λ (c : ℕ). c + j) (sym (add-zero w) ∙ sym (getD_tab (field_a_a x) (λ i. w + i) 0 0 (omega arith)))

-- ---- frame f of method units us, at place `at`
module _ (p : Program) (u : Listing) (begin : (m : ℕ) → to_place (u m) 0 ≡ 0) (s : State) (f : Frame) (rest : List Frame)
    (waiting : Every (Onward u) rest) (us : List ℕ) (at : ℕ) (units : u f.method ≡ Some us) (at-is : place_in us f.address ≡ at)
    (next-is : onward (u f.method) at ≡ place_in us (suc f.address)) where
  abbrev s' : State
  s' = placed_state u s

  abbrev f' : Frame
  f' = moved f at

  -- the state after a deed at the place, and that after an instruction at the address
  abbrev after : Deed → State
  after d = carried p u s' f' (placed_frames u rest) d

  abbrev told : Instruction → State
  told i = placed_state u (apply p s f rest (decide p s f i))

  placed : (d : ℕ) → to_place (u f.method) d ≡ place_in us d
  placed d = ap (λ (o : Option (List ℕ)). to_place o d) units

  -- an effect, and one without a jump
  effect : (d e : Effect) → d ≡ jumped (place_in us) e → after (does d) ≡ placed_state u (apply p s f rest e)
  effect d e q =
      rw q
      (applied p u begin s f rest waiting at (onward (u f.method) at) (place_in us) (placed f.address ∙ at-is)
      (placed (suc f.address) ∙ sym next-is) placed e)

  same : (e : Effect) → e ≡ jumped (place_in us) e → after (does e) ≡ placed_state u (apply p s f rest e)
  same e q = effect e e q

  -- a call
  entry : (m c : ℕ) (rs : List ℕ) → InRow rs c (arguments p m) → after (enters m rs) ≡ placed_state u (apply p s f rest (Call m c))
  entry m c rs row =
      entered_placed p u begin s f rest waiting at (onward (u f.method) at) (place_in us) (placed f.address ∙ at-is)
      (placed (suc f.address) ∙ sym next-is) placed m c rs row

  -- a virtual call of name n with b arguments
  module _ (n b : ℕ) (rs : List ℕ) (row : InRow rs (first_of rs) b) where
    callee : (r : Option ℕ) → ((m : ℕ) → r ≡ Some m → arguments p m ≡ b)
        → after (calling r rs) ≡ placed_state u (apply p s f rest (call_of r (first_of rs)))
    callee (Some m) h = entry m (first_of rs) rs (λ j l. row j (rw (h m refl) at l))
    callee None h = same (Fail NoMethod) refl

    virtual : (k : ℕ) (v : Value)
        → after (virtual_of p k n b rs v) ≡ placed_state u (apply p s f rest (virtual_call p k n b (first_of rs) v))
    virtual k (Number z) = same (not_object z) (not_object_lem (place_in us) z)
    virtual k (Reference o) = callee (virtual_callee p k n b) (λ m e. (callee_fits p n b m k e).1)

  module _ (x v w : ℕ) where
    abbrev does_as : Plain → Effect
    does_as o = decide p s f (plain_frame o x v w)

    plain_deeds : (o : Plain) → Holds (plain_fine o x v w) → Holds (call_test p (plain_frame o x v w))
        → after (plain_deed p s' f' o x v w) ≡ told (plain_frame o x v w)
    plain_deeds Nop h t = same (does_as Nop) refl
    plain_deeds Move h t = same (does_as Move) refl
    plain_deeds MoveFrom16 h t = same (does_as MoveFrom16) refl
    plain_deeds Move16 h t = same (does_as Move16) refl
    plain_deeds MoveResult h t = same (does_as MoveResult) refl
    plain_deeds MoveException h t = same (does_as MoveException) refl
    plain_deeds ReturnVoid h t = same (does_as ReturnVoid) refl
    plain_deeds Return h t = same (does_as Return) refl
    plain_deeds Const4 h t = same (does_as Const4) refl
    plain_deeds Const16 h t = same (does_as Const16) refl
    plain_deeds Const32 h t = same (does_as Const32) refl
    plain_deeds ConstHigh16 h t = same (does_as ConstHigh16) refl
    plain_deeds CheckCast h t =
        rw (class_alike u s (register f (field_a_a x)))
        (same (does_as CheckCast) (cast_jumped (place_in us) p _ (field_a_a x) v (register f (field_a_a x))))
    plain_deeds InstanceOf h t =
        rw (class_alike u s (register f (fieldB x)))
        (same (does_as InstanceOf) (instance_jumped (place_in us) p _ (fieldA x) v (register f (fieldB x))))
    plain_deeds NewInstance h t = same (does_as NewInstance) refl
    plain_deeds Throw h t =
        rw (class_alike u s (register f (field_a_a x)))
        (same (does_as Throw) (throw_jumped (place_in us) p _ (register f (field_a_a x))))
    plain_deeds Iget h t =
        rw (class_alike u s (register f (fieldB x)))
        (same (does_as Iget) (get_jumped (place_in us) p _ (fieldA x) v (register f (fieldB x))))
    plain_deeds Iput h t =
        rw (class_alike u s (register f (fieldB x)))
        (same (does_as Iput) (put_jumped (place_in us) p _ v (register f (fieldA x)) (register f (fieldB x))))
    plain_deeds Sget h t = same (does_as Sget) refl
    plain_deeds Sput h t = same (does_as Sput) refl
    plain_deeds InvokeVirtual h t =
        rw (class_alike u s (register f (first_of (listed x w))))
        (virtual v (fieldB x) (listed x w) (listed_row x w h.1) (class_of s (register f (first_of (listed x w))))
        (register f (first_of (listed x w))))
    plain_deeds InvokeStatic h t =
        entry v (first_of (listed x w)) (listed x w) (λ j l. listed_row x w h.1 j (rw t.1.0 at l))
    plain_deeds InvokeVirtualRange h t =
        rw (class_alike u s (register f (first_of (ranged x w))))
        (virtual v (field_a_a x) (ranged x w) (ranged_row x w) (class_of s (register f (first_of (ranged x w))))
        (register f (first_of (ranged x w))))
    plain_deeds InvokeStaticRange h t =
        entry v (first_of (ranged x w)) (ranged x w) (λ j l. ranged_row x w j (rw t.1.0 at l))
    plain_deeds (Unop o) h t = same (does_as (Unop o)) (unop_jumped (place_in us) (fieldA x) o (register f (fieldB x)))
    plain_deeds (Binop o) h t =
        same (does_as (Binop o)) (binop_jumped (place_in us) (field_a_a x) o (register f (field_b_b v)) (register f (field_c_c v)))
    plain_deeds (BinopInPlace o) h t =
        same (does_as (BinopInPlace o)) (binop_jumped (place_in us) (fieldA x) o (register f (fieldA x)) (register f (fieldB x)))

    -- a branch goes to place `land`, and to its address
    module _ (land : ℕ) where
      abbrev to : ℕ
      to = address_in us land

      -- a jump, if that is a start
      lands : (g : ℕ → Effect) → ((d : ℕ) → g (place_in us d) ≡ jumped (place_in us) (g d)) → Holds (reached us land)
          → after (does (g land)) ≡ placed_state u (apply p s f rest (g to))
      lands g h r = effect (g land) (g to) (ap g (sym (place_address us land r.0)) ∙ h to)

      branch_deeds : (b : Branch) → Holds (branch_fine (reached us land) b x v)
          → after (branch_deed f' land b x) ≡ told (branch_frame to b x)
      branch_deeds Goto h = lands Jump (λ d. refl) h.1
      branch_deeds Goto16 h = lands Jump (λ d. refl) h.1.1
      branch_deeds Goto32 h = lands Jump (λ d. refl) h.1
      branch_deeds (If c) h =
          let a = register f (fieldA x) in
          let b = register f (fieldB x) in
          lands (branches c a b) (branch_jumped (place_in us) c a b) h.1
      branch_deeds (IfZero c) h =
          let a = register f (field_a_a x) in
          lands (branches c a null) (branch_jumped (place_in us) c a null) h.1

    pub deeds : (o : Opcode) → Holds (fine us at o x v w) → Holds (call_test p (framed us at o x v w))
        → after (deed p s' f' (length us) o x v w) ≡ told (framed us at o x v w)
    deeds (plain o) h t = plain_deeds o h t
    deeds (branch b) h t = branch_deeds (target_of (length us) at b x v w) b h
    deeds NotTaken h t = same Next refl
