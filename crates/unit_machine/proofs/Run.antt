-- The run over units and the run of the frames, step by step: each frame stands at the place of its address. Assumes nothing.
use mathlib.Core.Path.{◌≡◌, refl, sym, ap, ◌∙◌}
use mathlib.Core.List.{List, [], ◌∷◌}
use Prim.Native.Nat.{ℕ, zero, suc, ◌+◌}
use native.Mathlib.Omega.{arith}
use lib.Dec.{ltb}
use borrow.Author.Tests.{ltb-true}
use Rattle.std.specs.Prelude.{Option, Some, None}
use Rattle.text.proofs.Cases.{by_test}
use Rattle.instruction.specs.declared.Instruction.{Instruction}
use Rattle.instruction.specs.declared.Instruction.TheVariants.{Nop, Move, Const, Goto, If, IfZero, Binop, Unop, NewInstance, Iget}
use Rattle.instruction.specs.declared.Instruction.TheVariants.{Iput, Sget, Sput, InvokeVirtual, InvokeStatic, MoveResult}
use Rattle.instruction.specs.declared.Instruction.TheVariants.{MoveException, Return, ReturnVoid, Throw, InstanceOf, CheckCast}
use Rattle.instruction.specs.Test.{Holds}
use Rattle.instruction.specs.Word.{pick}
use Rattle.program.specs.Lists.{Every}
use Rattle.program.specs.Program.{Program, code_length, instruction_at}
use Rattle.program.proofs.Every.{every_map}
use Rattle.values.specs.Values.{call_test}
use Rattle.search.specs.Search.{handler_for}
use Rattle.reader.specs.Formed.{Formed}
use Rattle.machine.specs.declared.Effect.{Effect}
use Rattle.machine.specs.State.{Frame, Status, running, raised, done, uncaught, failed, State, register, object_at}
use Rattle.machine.specs.Decide.{decide}
use Rattle.machine.specs.Run.{moved, dropped, apply, unwound, step_by, step, run}
use Rattle.machine.proofs.Fitting.{method_exists}
use Rattle.machine.proofs.Continues.{effect_at, handling_at}
use Rattle.units.specs.Units.{unit_at, place_in}
use Rattle.units.specs.Formats.{opcode_at}
use Rattle.units.specs.Frames.{frame_at}
use Rattle.unit_machine.specs.UnitDeed.{does}
use Rattle.unit_machine.specs.UnitRun.{Listing, deed_at, onward, end_of, to_address, to_place, carried, unit_unwound}
use Rattle.unit_machine.specs.UnitRun.{unit_step_by, unit_step, unit_run}
use Rattle.unit_machine.specs.Alike.{Translated, placed_frame, placed_frames, placed_state}
use Rattle.unit_machine.proofs.Jumps.{jumped, jumped_here}
use Rattle.unit_machine.proofs.Applied.{Onward, class_alike, applied}
use Rattle.unit_machine.proofs.Deeds.{deeds}
use Rattle.unit_machine.proofs.Methods.{taken, begin, onward_next, inside_alike, read_from}
use Rattle.unit_machine.proofs.Standing.{Inside, Standing, run_stands}

-- ---- one step
module _ (p : Program) (formed : Formed p) (u : Listing) (told : Translated p u) (s : State) where
  abbrev s' : State
  s' = placed_state u s

  -- a method without units: what is decided does not look at the frame's address
  decide_alike : (f : Frame) (at : ℕ) (i : Instruction) → decide p s' (moved f at) i ≡ decide p s f i
  decide_alike f at Nop = refl
  decide_alike f at (Move a b) = refl
  decide_alike f at (Const a d) = refl
  decide_alike f at (Goto d) = refl
  decide_alike f at (If c a b d) = refl
  decide_alike f at (IfZero c a d) = refl
  decide_alike f at (Binop o a b c) = refl
  decide_alike f at (Unop o a b) = refl
  decide_alike f at (NewInstance a b) = refl
  decide_alike f at (Iget a b c) = rw (class_alike u s (register f b))
  decide_alike f at (Iput a b c) = rw (class_alike u s (register f b))
  decide_alike f at (Sget a b) = refl
  decide_alike f at (Sput a b) = refl
  decide_alike f at (InvokeVirtual a b c) = rw (class_alike u s (register f c))
  decide_alike f at (InvokeStatic a b c) = refl
  decide_alike f at (MoveResult a) = refl
  decide_alike f at (MoveException a) = refl
  decide_alike f at (Return a) = refl
  decide_alike f at ReturnVoid = refl
  decide_alike f at (Throw a) = rw (class_alike u s (register f a))
  decide_alike f at (InstanceOf a b c) = rw (class_alike u s (register f b))
  decide_alike f at (CheckCast a b) = rw (class_alike u s (register f a))

  module _ (f : Frame) (rest : List Frame) (waiting : Every (Onward u) rest) (l : Inside p f) where
    abbrev m : ℕ
    m = f.method

    abbrev a : ℕ
    a = f.address

    -- the instruction of f at place `at`, the method's units being o
    did : (o : Option (List ℕ)) (at : ℕ) → u m ≡ o → to_place o a ≡ at
        → carried p u s' (moved f at) (placed_frames u rest) (deed_at p s' (moved f at) o)
        ≡ placed_state u (apply p s f rest (effect_at p s f))
    did None at e q =
        let here : to_place (u m) a ≡ at = ap (λ (o : Option (List ℕ)). to_place o a) e ∙ q in
        let next : to_place (u m) (suc a) ≡ onward (u m) at = sym (onward_next p u told m a l) ∙ ap (onward (u m)) here in
        let same : decide p s' (moved f at) (instruction_at p m at) ≡ jumped (λ d. d) (effect_at p s f) =
        decide_alike f at (instruction_at p m at) ∙ ap (λ (x : ℕ). decide p s f (instruction_at p m x)) (sym q)
        ∙ jumped_here (effect_at p s f) in
        ap (λ (y : Effect). carried p u s' (moved f at) (placed_frames u rest) (does y)) same
        ∙ applied p u (begin u) s f rest waiting at (onward (u m) at) (λ d. d) here next
        (λ d. ap (λ (o : Option (List ℕ)). to_place o d) e) (effect_at p s f)
    did (Some us) at e q =
        let t = taken p m us (told m us e) a l in
        let here : to_place (u m) a ≡ at = ap (λ (o : Option (List ℕ)). to_place o a) e ∙ q in
        let next : onward (u m) at ≡ place_in us (suc a) =
        ap (onward (u m)) (sym here) ∙ onward_next p u told m a l ∙ ap (λ (o : Option (List ℕ)). to_place o (suc a)) e in
        let same : instruction_at p m a ≡ frame_at us at = t.same ∙ ap (frame_at us) q in
        let calls : Holds (call_test p (frame_at us at)) = rw same at ((formed.methods m (method_exists p m a l)).calls a l) in
        rw same
        (deeds p u (begin u) s f rest waiting us at e q next (unit_at us at) (unit_at us (at + 1)) (unit_at us (at + 2)) (opcode_at us at)
        (rw q at t.fine) calls)

    ran : carried p u s' (placed_frame u f) (placed_frames u rest) (deed_at p s' (placed_frame u f) (u m))
        ≡ placed_state u (apply p s f rest (effect_at p s f))
    ran = did (u m) (to_place (u m) a) refl refl

    dropped_alike : (o : ℕ) (rest : List Frame) → dropped s' o (placed_frames u rest) ≡ placed_state u (dropped s o rest)
    dropped_alike o [] = refl
    dropped_alike o (g ∷ rest) = refl

    unwound_alike : (o : ℕ) (h : Option ℕ)
        → unit_unwound p u s' (placed_frame u f) (placed_frames u rest) o h ≡ placed_state u (unwound p s f rest o h)
    unwound_alike o (Some h) = refl
    unwound_alike o None = dropped_alike o rest

    handled : (o : ℕ)
        → unit_unwound p u s' (placed_frame u f) (placed_frames u rest) o
        (handler_for p m (to_address (u m) (to_place (u m) a)) (object_at s' o).class)
        ≡ placed_state u (unwound p s f rest o (handling_at p s f o))
    handled o = rw (read_from p u told m a (omega arith)) (unwound_alike o (handling_at p s f o))

  -- a choice by the place, and by the address
  chosen : (f : Frame) (t c : State) → (Inside p f → t ≡ placed_state u c)
      → pick (ltb (to_place (u f.method) f.address) (end_of p f.method (u f.method))) t s'
      ≡ placed_state u (pick (ltb f.address (code_length p f.method)) c s)
  chosen f t c h =
      rw (inside_alike p u told f.method f.address)
      (by_test (ltb f.address (code_length p f.method))
      (λ e. rw e (h (ltb-true f.address (code_length p f.method) e))) (λ e. rw e))

  waits : (rest : List Frame) → Every (Inside p) rest → Every (Onward u) rest
  waits rest w = every_map (Inside p) (Onward u) (λ g l. onward_next p u told g.method g.address l) rest w

  step_by_lem : (e : Status) (fs : List Frame) → Standing p fs
      → unit_step_by p u s' e (placed_frames u fs) ≡ placed_state u (step_by p s e fs)
  step_by_lem e [] w = refl
  step_by_lem running (f ∷ rest) w =
      chosen f _ (apply p s f rest (effect_at p s f)) (λ l. ran f rest (waits rest w.1) l)
  step_by_lem (raised o) (f ∷ rest) w =
      chosen f _ (unwound p s f rest o (handling_at p s f o)) (λ l. handled f rest (waits rest w.1) l o)
  step_by_lem done (f ∷ rest) w = refl
  step_by_lem (uncaught o) (f ∷ rest) w = refl
  step_by_lem (failed e) (f ∷ rest) w = refl

  step_placed : Standing p s.frames → unit_step p u s' ≡ placed_state u (step p s)
  unfolding unit_step step
  step_placed w = step_by_lem s.status s.frames w

-- ---- the run
pub run_placed : (p : Program) → Formed p → (u : Listing) → Translated p u → (n : ℕ) → unit_run p u n ≡ placed_state u (run p n)
unfolding unit_run run
run_placed p formed u told zero = rw (begin u 0)
run_placed p formed u told (suc n) =
    ap (unit_step p u) (run_placed p formed u told n) ∙ step_placed p formed u told (run p n) (run_stands p formed n)
