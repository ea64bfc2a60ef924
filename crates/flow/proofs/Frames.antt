-- Values stay in their masks as objects are made and changed; a frame stays in its masks as it goes on, writes a register, or is
-- entered, where the rules that ask for it hold. Assumes nothing.
use mathlib.Core.Path.{◌≡◌, ap}
use mathlib.Core.Bool.{true, not}
use mathlib.Core.List.{List, [], ◌∷◌}
use Prim.Native.Nat.{ℕ, suc, ◌+◌, ◌-◌, ◌≤◌, ◌<◌}
use native.Mathlib.Omega.{arith}
use lib.Dec.{eqb, ltb}
use lib.ListN.{length, get_or, set, get_or-eq_default}
use lib.Seq.{get_or-set_same, get_or-set_other}
use borrow.Author.Tests.{ltb-true, ltb-false, eqb-true, eqb-false}
use Rattle.text.proofs.Cases.{by_test}
use Rattle.instruction.specs.Word.{pick}
use Rattle.mask.proofs.Laws.{has_less}
use Rattle.program.specs.Program.{Program, registers, arguments, code_length}
use Rattle.program.proofs.Lists.{getD_tab}
use Rattle.machine.specs.declared.Value.{Value}
use Rattle.machine.specs.declared.Value.TheVariants.{Number, Reference}
use Rattle.machine.specs.State.{Frame, Object, null, no_object, register}
use Rattle.machine.specs.Run.{moved, wrote, entered}
use Rattle.instruction.proofs.Flags.{pick_cases}
use Rattle.flow.specs.Claim.{Slot, register_at, result_at, field_of, Claim}
use Rattle.flow.specs.Flows.{Holds}
use Rattle.flow.specs.Rules.{entry, onward, onward_except, parameter}
use Rattle.flow.specs.Inside.{Lies, FrameIn, FramesIn, ObjectIn}

-- every object is kept, of the same class
abbrev pub Keeps : List Object → List Object → Type 0
Keeps os os' = (o : ℕ) → o < length os → (get_or os' o no_object).class ≡ (get_or os o no_object).class

module _ (p : Program) (c : Claim) where
  -- an object that lies in a mask has been made: no mask has bit 64
  pub lies_made : (os : List Object) (o : ℕ) (s : Slot) → Lies p c os (Reference o) s → o < length os
  lies_made os o s h =
      by_test (ltb o (length os)) (λ t. ltb-true o (length os) t)
      (λ t.
      let none : get_or os o no_object ≡ no_object = get_or-eq_default os no_object (ltb-false o (length os) t) in
      let none' : (get_or os o no_object).class ≡ 64 = ap (λ (x : Object). x.class) none in
      absurd (omega (arith, has_less (c s) (get_or os o no_object).class h)))

  -- as objects are made and changed
  module _ (os os' : List Object) (keeps : Keeps os os') where
    pub lies_kept : (v : Value) (s : Slot) → Lies p c os v s → Lies p c os' v s
    lies_kept (Number z) s h = h
    lies_kept (Reference o) s h = rw (keeps o (lies_made os o s h)) h

    pub frame_kept : (f : Frame) → FrameIn p c os f → FrameIn p c os' f
    frame_kept f h =
        record {
          inside = h.inside;
          masks = record { registers_in = λ r l. lies_kept (register f r) (register_at f.method f.address r) (h.masks.registers_in r l); result_in = lies_kept f.result (result_at f.method f.address) h.masks.result_in };
        }

    pub frames_kept : (fs : List Frame) → FramesIn p c os fs → FramesIn p c os' fs
    frames_kept [] h = tt
    frames_kept (f ∷ rest) h = (frame_kept f h.0, h.1, frames_kept rest h.2)

    pub object_kept : (o : Object) → ObjectIn p c os o → ObjectIn p c os' o
    object_kept o h =
        record {
          class_in = h.class_in;
          masks = record { fields_in = λ x t. lies_kept (get_or o.cells x null) (field_of o.class x) (h.masks.fields_in x t) };
        }

  module _ (os : List Object) where
    -- an element of a list with one element changed
    pub set_lies : (vs : List Value) (a r : ℕ) (v : Value) (s : Slot) → a < length vs → (r ≡ a → Lies p c os v s)
        → (not (eqb r a) ≡ true → Lies p c os (get_or vs r null) s) → Lies p c os (get_or (set vs a v) r null) s
    set_lies vs a r v s l new old =
        by_test (eqb r a)
        (λ t.
        let same : r ≡ a = eqb-true r a t in
        rw (same, get_or-set_same vs a v null l) (new same))
        (λ t. rw (get_or-set_other vs a r v null (eqb-false r a t)) (old (rw t)))

    module _ (f : Frame) (h : FrameIn p c os f) where
      -- rules 2 and 3: the frame at another address
      pub moved_in : (to : ℕ) → to < code_length p f.method → Holds c (onward p f.method f.address to)
          → FrameIn p c os (moved f to)
      moved_in to l w =
          record {
            inside = l;
            masks = record { registers_in = λ r k. w.0 r k _ (h.masks.registers_in r k); result_in = w.1 _ h.masks.result_in };
          }

      -- rules 2 and 4: one on, with register a written
      pub wrote_in : (a : ℕ) (v : Value) → length f.registers ≡ registers p f.method → suc f.address < code_length p f.method
          → a < registers p f.method → Holds c (onward_except p f.method f.address a (suc f.address))
          → Lies p c os v (register_at f.method (suc f.address) a) → FrameIn p c os (wrote f a v)
      wrote_in a v size l k w new =
          record {
            inside = l;
            masks = record {
              registers_in = λ r i.
                  set_lies f.registers a r v (register_at f.method (suc f.address) r) (rw size k) (λ e. rw e new)
                  (λ t. w.0 r i t _ (h.masks.registers_in r i));
              result_in = w.1 _ h.masks.result_in;
            };
          }

    -- rules 1 and 6: the first frame of method q, called by frame f with arguments in registers from a on
    pub entered_in : (q a : ℕ) (f : Frame) → 0 < code_length p q → arguments p q ≤ registers p q → Holds c (entry p q)
        → ((i : ℕ) → i < arguments p q → Lies p c os (register f (a + i)) (register_at q 0 (parameter p q i)))
        → FrameIn p c os (entered p q a f)
    entered_in q a f l few w args =
        record { inside = l; masks = record { registers_in = λ r k. rw (getD_tab (registers p q) _ r null k) (of r k); result_in = w.1 } }
      where
        locals : ℕ
        locals = registers p q - arguments p q

        of : (r : ℕ) → r < registers p q
            → Lies p c os (pick (ltb r locals) null (register f (a + (r - locals)))) (register_at q 0 r)
        of r k =
            pick_cases (λ (v : Value). Lies p c os v (register_at q 0 r)) (ltb r locals) null (register f (a + (r - locals)))
            (λ t. w.0 r (ltb-true r locals t))
            (λ t.
            let low : locals ≤ r = ltb-false r locals t in
            let here : parameter p q (r - locals) ≡ r = omega arith in
            rw here at (args (r - locals) (omega arith)))
