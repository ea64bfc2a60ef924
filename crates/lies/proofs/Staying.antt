-- What the code does at a running state that lies in the lent slices: its instruction's effect, where that stays in its frame; and
-- a fault. Assumes nothing.
use mathlib.Core.Path.{◌≡◌, refl, sym, ap, subst, ◌∙◌}
use mathlib.Core.Bool.{false}
use mathlib.Core.List.{List}
use mathlib.Core.Option.{none}
use Prim.Native.Nat.{ℕ}
use lib.Dec.{eqb}
use lib.ListN.{length}
use borrow.Author.Tests.{eqb-true}
use Rattle.instruction.specs.declared.Instruction.{Instruction}
use Rattle.instruction.specs.Word.{pick, instruction_of}
use Rattle.instruction.specs.Test.{Holds}
use Rattle.operands.specs.Names.{named}
use Rattle.values.specs.Values.{limits_of}
use Rattle.program.specs.Program.{Program}
use Rattle.program.specs.Tables.{program_in}
use Rattle.reader.specs.Formed.{Formed}
use Rattle.machine.specs.declared.Effect.{Effect}
use Rattle.machine.specs.declared.Effect.TheVariants.{Fail}
use Rattle.machine.specs.declared.Fault.{Fault}
use Rattle.machine.specs.declared.Value as machine
use Rattle.machine.specs.State as state
use Rattle.machine.specs.State.{Frame, running, failed, State}
use Rattle.machine.specs.Run.{with_status, step}
use Rattle.machine.specs.Shaped.{Shaped}
use Rattle.machine.proofs.Continues.{At, effect_at}
use Rattle.instruction.proofs.Flags.{pick_cases}
use Rattle.machine.proofs.Fitting.{decided_fits}
use Rattle.turn.specs.declared.Tally.{Tally}
use Rattle.turn.specs.declared.Status.TheVariants.{Failed}
use Rattle.turn.specs.Stop.{stop_of}
use Rattle.cells.specs.declared.Value.{Value}
use Rattle.cells.specs.Cells.{cell_of, value_of}
use Rattle.cells.proofs.Values.{reads}
use Rattle.laid.proofs.Frames.{frames_same}
use Rattle.laid.proofs.Objects.{objects_same}
use Rattle.laid.proofs.Statics.{statics_same}
use Rattle.site.specs.declared.Gone.{Gone}
use Rattle.site.specs.declared.Site.{Site}
use Rattle.site.specs.Site.{opcode_of, is_class, leaves_by, leaves_of}
use Rattle.site.specs.Work.{decided, decided_in, binop_of, branch_of, iget_of, iput_of, sget_of, sput_of, classed_of, plain_of}
use Rattle.site.proofs.Decided.{decided_wanted}
use Rattle.site.proofs.Chosen.{branch_chosen, binop_chosen, iget_chosen, iput_chosen, sget_chosen, sput_chosen, class_chosen, plain_chosen}
use Rattle.drive.specs.Models.{Lent, Done, done}
use Rattle.work.specs.Work.{first_in, second_in, result_in, class_in, worked_on, worked, done_by, performed}
use Rattle.lies.specs.Lies.{Roomy, Lies}
use Rattle.lies.specs.Staying.{site_at, Stayed}
use Rattle.lies.proofs.Values.{Ready, method, site, first, second, first_read, second_read, result_read, class_read}
use Rattle.lies.proofs.Registers.{first_low, second_low}
use Rattle.lies.proofs.Looks.{Looks, binop_stays, branch_stays, iget_stays, iput_stays, sget_stays, sput_stays, class_stays, plain_stays}
use Rattle.lies.proofs.Effects.{stop_is, step_is, work_by, gone}

-- a value that lies in a slice
back : (c : Value) (v : machine.Value) → c ≡ cell_of v → value_of c ≡ v
back c v e = ap value_of e ∙ reads v

module _ {p : Program} {s : State} {before : Lent} {k : Tally} {now : Lent} {f : Frame} {rest : List Frame}
    (h : Ready p s before k now f rest) where
  -- what the instruction decides of the values in the state, and of the values read, is its effect
  module _ (stays : leaves_of (site h) ≡ false) (i : Instruction) (chosen : i ≡ instruction_of (site h).word) where
    -- "Each register, address, class, field, static and method named must exist"
    names : Holds (named (limits_of p f.method) (instruction_of (site h).word))
    names = (method h).names f.address h.here.inside

    effect_is : decided p (first h) (second h) f.result (state.class_of s (first h)) i ≡ effect_at p s f
    effect_is =
        ap (decided p (first h) (second h) f.result (state.class_of s (first h))) chosen ∙ decided_wanted p s f (site h) refl stays
        (first_low (limits_of p f.method) (method h).registers_to (instruction_of (site h).word) names)
        (second_low (limits_of p f.method) (method h).registers_to (instruction_of (site h).word) names)

    effect_read : decided p (value_of (first_in now (site h))) (value_of (second_in now (site h))) (value_of (result_in now (site h))) (class_in now (site h)) i ≡ effect_at p s f
    effect_read =
        ap (λ (v : machine.Value). decided p v (value_of (second_in now (site h))) (value_of (result_in now (site h))) (class_in now (site h)) i)
        (back (first_in now (site h)) (first h) (first_read h))
        ∙ ap (λ (v : machine.Value). decided p (first h) v (value_of (result_in now (site h))) (class_in now (site h)) i)
        (back (second_in now (site h)) (second h) (second_read h))
        ∙ ap (λ (v : machine.Value). decided p (first h) (second h) v (class_in now (site h)) i)
        (back (result_in now (site h)) f.result (result_read h))
        ∙ ap (λ (c : ℕ). decided p (first h) (second h) f.result c i) (class_read h)
        ∙ effect_is

-- ---- the code, by its tests of the opcode

module _ (t : List ℕ) {s : State} {before : Lent} {k : Tally} {now : Lent} {f : Frame} {rest : List Frame}
    (h : Ready (program_in t) s before k now f rest) where
  abbrev at : Site
  at = site h

  abbrev Stays : Done Gone → Type 0
  Stays r = Stayed (program_in t) s before k now f rest r

  -- an instruction that stays in its frame
  arm : (i : ℕ → Instruction) → ((p : Program) (x : machine.Value) (a : Site) (c : ℕ) (y z : machine.Value) → Looks x a (decided p x y z c (i a.word)))
      → leaves_of at ≡ false → i at.word ≡ instruction_of at.word → Stays (done_by i t now at)
  unfolding worked decided_in
  arm i looks stays chosen =
      subst (λ (e : Effect). Stays (done (work_by h e).gone (worked_on now (length rest) (work_by h e))))
      (sym (effect_read h stays (i at.word) chosen))
      (gone h (effect_at (program_in t) s f) refl
      (decided_fits (program_in t) h.formed s h.shaped f rest h.here.frames h.here.inside)
      (subst (λ (e : Effect). Looks (first h) at e) (effect_is h stays (i at.word) chosen) (looks (program_in t) _ at _ _ _)))

  -- a test of the opcode
  tested : (n : ℕ) (x y : Done Gone) → (opcode_of at.word ≡ n → Stays x) → (eqb (opcode_of at.word) n ≡ false → Stays y)
      → Stays (pick (eqb (opcode_of at.word) n) x y)
  tested n x y this other = pick_cases Stays (eqb (opcode_of at.word) n) x y (λ e. this (eqb-true (opcode_of at.word) n e)) other

  ready_stayed : Stays (performed t now at)
  ready_stayed =
      tested 5 _ _ (λ e. arm binop_of binop_stays (ap leaves_by e) (binop_chosen at.word e))
      (λ e5.
      tested 4 _ _ (λ e. arm branch_of branch_stays (ap leaves_by e) (branch_chosen at.word e))
      (λ e4.
      tested 8 _ _ (λ e. arm iget_of iget_stays (ap leaves_by e) (iget_chosen at.word e))
      (λ e8.
      tested 9 _ _ (λ e. arm iput_of iput_stays (ap leaves_by e) (iput_chosen at.word e))
      (λ e9.
      tested 10 _ _ (λ e. arm sget_of sget_stays (ap leaves_by e) (sget_chosen at.word e))
      (λ e10.
      tested 11 _ _ (λ e. arm sput_of sput_stays (ap leaves_by e) (sput_chosen at.word e))
      (λ e11.
      pick_cases Stays (leaves_of at) _ _ (λ e. ((refl, refl), e))
      (λ stays.
      pick_cases Stays (is_class at) _ _
      (λ e. arm classed_of class_stays stays (class_chosen at.word e))
      (λ e. arm plain_of plain_stays stays (plain_chosen at.word stays e4 e5 e8 e9 e10 e11 e)))))))))

-- ---- the instruction that stays in its frame, and the fault

pub stayed : (t : List ℕ) → Formed (program_in t) → (s : State) (before : Lent) → Roomy before → (k : Tally) (now : Lent)
    → Shaped (program_in t) s → Lies s before k now → (f : Frame) (rest : List Frame) → At (program_in t) s running f rest
    → Stayed (program_in t) s before k now f rest (performed t now (site_at (program_in t) f rest))
stayed t formed s before roomy k now shaped lies f rest here =
    ready_stayed t (record { formed = formed; roomy = roomy; shaped = shaped; lies = lies; here = here })

-- "a fault changes nothing else"
pub failed_lies : (p : Program) → Formed p → (s : State) (before : Lent) → Roomy before → (k : Tally) (now : Lent) → Shaped p s
    → Lies s before k now → (f : Frame) (rest : List Frame) → At p s running f rest → (e : Fault) → effect_at p s f ≡ Fail e
    → (stop_of p s ≡ none) × Lies (step p s) before (record { depth = k.depth; made = k.made; status = Failed e }) now
failed_lies p formed s before roomy k now shaped lies f rest here e is =
    let h : Ready p s before k now f rest =
    record { formed = formed; roomy = roomy; shaped = shaped; lies = lies; here = here } in
    let u : State = with_status s (failed e) in (
      stop_is h (Fail e) is,
      rw (step_is h (Fail e) is)
          record {
            depth = lies.depth;
            made = lies.made;
            status = refl;
            frames = lies.frames ∙ frames_same s u before.frames refl;
            objects = lies.objects ∙ objects_same s u before.objects refl;
            statics = lies.statics ∙ statics_same s u before.statics refl;
            few_frames = lies.few_frames;
            few_objects = lies.few_objects;
            waiting = lies.waiting;
          },
    )
