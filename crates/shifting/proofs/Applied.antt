-- A step of a running state that does not stay in its frame: the next state lies in the slices, or nothing is written. Assumes
-- nothing.
use mathlib.Core.Path.{◌≡◌, refl, sym, ap, subst, ◌∙◌}
use mathlib.Core.Bool.{Bool, true, false, false≢true, ◌||◌}
use mathlib.Core.List.{List, [], ◌∷◌}
use Prim.Native.Nat.{ℕ, ◌≤◌, ◌<◌}
use native.Mathlib.Omega.{arith}
use lib.Dec.{eqb}
use lib.ListN.{length}
use borrow.Author.Tests.{eqb-true}
use Rattle.std.specs.Prelude.{None}
use Rattle.text.proofs.Cases.{by_test, never}
use Rattle.instruction.specs.declared.Instruction.{Instruction}
use Rattle.instruction.specs.Word.{instruction_of}
use Rattle.program.specs.Program.{Program, code_length}
use Rattle.program.specs.Tables.{program_in}
use Rattle.reader.specs.Formed.{Formed}
use Rattle.machine.specs.declared.Effect.{Effect}
use Rattle.machine.specs.declared.Effect.TheVariants as effect
use Rattle.machine.specs.State as state
use Rattle.machine.specs.State.{Frame, State, running, register}
use Rattle.machine.specs.Decide.{decide, virtual_call, throw}
use Rattle.machine.specs.Run.{apply, step}
use Rattle.machine.specs.Shaped.{Shaped, Fitting}
use Rattle.machine.proofs.Continues as continues
use Rattle.machine.proofs.Continues.{effect_at, step_running}
use Rattle.instruction.proofs.Flags.{pick_cases}
use Rattle.machine.proofs.Fitting.{top_shaped, decided_fits}
use Rattle.turn.specs.declared.Status.{Status}
use Rattle.turn.specs.declared.Status.TheVariants.{Running, Raised, Done, Uncaught, Failed}
use Rattle.turn.specs.Stop.{room, stop_of}
use Rattle.turn.proofs.Stops.{running_stop}
use Rattle.cells.specs.Cells.{value_of}
use Rattle.cells.proofs.Values.{reads}
use Rattle.site.specs.declared.How.TheVariants as how
use Rattle.site.specs.Site.{opcode_of, a_of, b_of, c_of, leaves_by, leaves_of}
use Rattle.shift.specs.declared.At.{At}
use Rattle.shift.specs.declared.Run.{Run}
use Rattle.shift.specs.Kinds.{Shifting, make_shifting, new_shifting, static_shifting, virtual_shifting, leave_shifting, throw_shifting}
use Rattle.shift.specs.Places.{look_of}
use Rattle.shift.specs.Shift.{shifted, returned_in}
use Rattle.shift.specs.Stay.{raised_class, exits_of}
use Rattle.drive.specs.Models as drive
use Rattle.drive.specs.Models.{Lent}
use Rattle.turns.specs.Turns.{shift_in, shift_done, below_in, value_in, class_in, new_done, applied}
use Rattle.lies.specs.Lies.{status_of, Roomy, Lies}
use Rattle.lies.specs.Staying.{site_at}
use Rattle.lies.proofs.Registers.{registers_few}
use Rattle.shifting.specs.Shifting.{Come, Shifted, written, Topped, Leaving}
use Rattle.shifting.proofs.Looked.{below_in_lem, value_in_lem, class_in_lem}
use Rattle.shifting.proofs.Written.{done_written}
use Rattle.shifting.proofs.Made.{make_lies, raise_lies, status_lies}
use Rattle.shifting.proofs.Called.{call_lies}
use Rattle.shifting.proofs.Left.{last_lies, return_lies}
use Rattle.shifting.proofs.Effects.{make_chosen, virtual_chosen, static_chosen, return_chosen, void_chosen, throw_chosen}
use Rattle.shifting.proofs.Effects.{first_virtual, first_other, virtual_leaves, throw_leaves}

running_status : (x : Status) → status_of x ≡ running → x ≡ Running
running_status Running e = refl
running_status (Raised o) e = never (cc)
running_status Done e = never (cc)
running_status (Uncaught o) e = never (cc)
running_status (Failed f) e = never (cc)

neither : (a b : Bool) → (a || b) ≡ false → (a ≡ false) × (b ≡ false)
neither true b e = never (cc)
neither false b e = (refl, e)

-- ---- an effect

module _ (t : List ℕ) (p : Program) (formed : Formed p) (s : State) (before now : Lent) (h : At) (f : Frame) (pc : h.pc ≡ f.address)
    (status : h.run.tally.status ≡ Running) (low : f.address < 32) where
  effect_lies : (e : Effect) (rest : List Frame) → Topped s before now h.run f rest → Leaving e → Fitting p s f e
      → step p s ≡ apply p s f rest e → stop_of p s ≡ room s e → Shifted p s before now h.run (written t now (shifted p h (below_in now h) e))
  effect_lies effect.Next rest c leaves fits next free = absurd leaves
  effect_lies (effect.Jump to) rest c leaves fits next free = absurd leaves
  effect_lies (effect.Write a v) rest c leaves fits next free = absurd leaves
  effect_lies (effect.Load a o x) rest c leaves fits next free = absurd leaves
  effect_lies (effect.LoadStatic a x) rest c leaves fits next free = absurd leaves
  effect_lies (effect.Make a k) rest c leaves fits next free = make_lies t p s before now h f rest c a k fits.0 pc status next free
  effect_lies (effect.Store o x v) rest c leaves fits next free = absurd leaves
  effect_lies (effect.StoreStatic x v) rest c leaves fits next free = absurd leaves
  effect_lies (effect.Call m a) rest c leaves fits next free = call_lies t p formed s before now h f rest c m a fits status next free low
  effect_lies (effect.Exit v) [] c leaves fits next free = last_lies t p s before now h f c (below_in now h) v next free
  effect_lies (effect.Exit v) (g ∷ rest) c leaves fits next free =
      return_lies t p s before now h f g rest c (below_in now h) v (below_in_lem s before now c.roomy h c.lies f g rest c.frames) fits next free
  effect_lies (effect.Raise o) rest c leaves fits next free = status_lies t p s before now h f rest c (Raised o) next free
  effect_lies (effect.RaiseNew k) rest c leaves fits next free = raise_lies t p s before now h f rest c k next free
  effect_lies (effect.Fail e) rest c leaves fits next free = status_lies t p s before now h f rest c (Failed e) next free

-- ---- by opcode

module _ (t : List ℕ) (formed : Formed (program_in t)) (s : State) (before : Lent) (roomy : Roomy before) (now : Lent) (shaped : Shaped (program_in t) s)
    (f : Frame) (rest : List Frame) (at : continues.At (program_in t) s running f rest) (h : At) (come : Come (program_in t) f h)
    (going : h.run.stop ≡ None) (lies : Lies s before h.run.tally now) where
  small : length f.registers ≤ 16
  small = registers_few (program_in t) formed s shaped f rest at.frames at.inside

  run : h.run.tally.status ≡ Running
  run = running_status h.run.tally.status (lies.status ∙ at.status)

  -- what is read: the register, and its class
  value : value_of (value_in now h) ≡ register f (look_of h).first
  value = ap value_of (value_in_lem s before now roomy h lies f rest at.frames small) ∙ reads (register f (look_of h).first)

  class : class_in now h ≡ state.class_of s (register f (look_of h).first)
  class =
      class_in_lem s before now roomy h lies (register f (look_of h).first) (value_in_lem s before now roomy h lies f rest at.frames small) run
      ((top_shaped (program_in t) s shaped f rest at.frames).0.known (look_of h).first)

  -- an arm that does the effect
  arm_by : (w : Shifting) (e : Effect) → shift_in w t now h ≡ shifted (program_in t) h (below_in now h) e → effect_at (program_in t) s f ≡ e
      → Leaving e → Shifted (program_in t) s before now h.run (shift_done w t now h)
  arm_by w e same is leaves =
      let p : Program = program_in t in
      let low : code_length p f.method ≤ 32 = formed.limited.code f.method in
      subst (λ (r : drive.Done Run). Shifted p s before now h.run r)
      (sym (done_written w t now h ∙ ap (written t now) same))
      (effect_lies t p formed s before now h f come.pc run (omega (arith, low, at.inside)) e rest
      (record { roomy = roomy; lies = lies; going = going; frames = at.frames; small = small })
      leaves
      (subst (Fitting p s f) is (decided_fits p formed s shaped f rest at.frames at.inside))
      (step_running p s f rest at ∙ ap (apply p s f rest) is)
      (running_stop p s f rest at ∙ ap (room s) is))

  effect_is : (i : Instruction) → instruction_of h.word ≡ i → effect_at (program_in t) s f ≡ decide (program_in t) s f i
  effect_is i chosen =
      ap (λ (w : ℕ). decide (program_in t) s f (instruction_of w)) (sym come.word) ∙ ap (decide (program_in t) s f) chosen

  -- an arm that does the instruction's effect
  arm : (w : Shifting) (i : Instruction) (e : Effect) → shift_in w t now h ≡ shifted (program_in t) h (below_in now h) e
      → instruction_of h.word ≡ i → e ≡ decide (program_in t) s f i → Leaving e
      → Shifted (program_in t) s before now h.run (shift_done w t now h)
  arm w i e same chosen does leaves = arm_by w e same (effect_is i chosen ∙ sym does) leaves

  opcode : (n : ℕ) → h.opcode ≡ n → opcode_of h.word ≡ n
  opcode n e = ap opcode_of come.word ∙ sym come.opcode ∙ e

  static_arm : h.opcode ≡ 13 → Shifted (program_in t) s before now h.run (shift_done static_shifting t now h)
  static_arm e = arm static_shifting _ _ refl (static_chosen h.word (opcode 13 e)) refl tt

  virtual_arm : h.opcode ≡ 12 → Shifted (program_in t) s before now h.run (shift_done virtual_shifting t now h)
  virtual_arm e =
      arm virtual_shifting _
      (virtual_call (program_in t) (class_in now h) (a_of h.word) (b_of h.word) (c_of h.word) (value_of (value_in now h)))
      refl
      (virtual_chosen h.word (opcode 12 e))
      (rw (class, value, first_virtual h e) refl)
      (virtual_leaves (program_in t) (class_in now h) (a_of h.word) (b_of h.word) (c_of h.word) (value_of (value_in now h)))

  return_arm : h.opcode ≡ 16 → Shifted (program_in t) s before now h.run (shift_done leave_shifting t now h)
  return_arm e =
      arm leave_shifting _ (effect.Exit (returned_in h.opcode (value_in now h))) refl (return_chosen h.word (opcode 16 e))
      (ap (λ (o : ℕ). effect.Exit (returned_in o (value_in now h))) e
      ∙ ap effect.Exit (value ∙ ap (register f) (first_other h (λ q. never (omega (arith, e, q))))))
      tt

  void_arm : h.opcode ≡ 17 → Shifted (program_in t) s before now h.run (shift_done leave_shifting t now h)
  void_arm e =
      arm leave_shifting _ (effect.Exit (returned_in h.opcode (value_in now h))) refl (void_chosen h.word (opcode 17 e))
      (ap (λ (o : ℕ). effect.Exit (returned_in o (value_in now h))) e)
      tt

  throw_arm : h.opcode ≡ 18 → Shifted (program_in t) s before now h.run (shift_done throw_shifting t now h)
  throw_arm e =
      arm throw_shifting _ (throw (program_in t) (class_in now h) (value_of (value_in now h))) refl (throw_chosen h.word (opcode 18 e))
      (rw (class, value, first_other h (λ q. never (omega (arith, e, q)))) refl)
      (throw_leaves (program_in t) (class_in now h) (value_of (value_in now h)))

  make_arm : h.opcode ≡ 7 → Shifted (program_in t) s before now h.run (shift_done make_shifting t now h)
  make_arm e =
      arm_by make_shifting (effect.Make (a_of h.word) (b_of h.word)) refl (effect_is _ (make_chosen h.word (opcode 7 e))) tt

  -- an instruction that raises a new object
  pub raised_lies : (k : ℕ) → h.how ≡ how.Raises k → effect_at (program_in t) s f ≡ effect.RaiseNew k
      → Shifted (program_in t) s before now h.run (new_done t now h)
  raised_lies k e is =
      let class : k ≡ raised_class h.how = sym (ap raised_class e) in
      arm_by new_shifting (effect.RaiseNew (raised_class h.how)) refl (is ∙ ap effect.RaiseNew class) tt

  leave_arm : exits_of h ≡ true → Shifted (program_in t) s before now h.run (shift_done leave_shifting t now h)
  leave_arm e =
      by_test (eqb h.opcode 16) (λ q. return_arm (eqb-true h.opcode 16 q))
      (λ q. void_arm (eqb-true h.opcode 17 (rw q at e)))

  -- the six opcodes that do not stay
  last_opcode : leaves_by h.opcode ≡ true → eqb h.opcode 13 ≡ false → eqb h.opcode 12 ≡ false → exits_of h ≡ false
      → eqb h.opcode 18 ≡ false → h.opcode ≡ 7
  last_opcode leaves a b c d =
      by_test (eqb h.opcode 7) (λ q. eqb-true h.opcode 7 q)
      (λ q.
      let e = neither (eqb h.opcode 16) (eqb h.opcode 17) c in
      absurd (false≢true (rw (q, a, b, e.0, e.1, d) at leaves)))

  pub applied_lies : leaves_of (site_at (program_in t) f rest) ≡ true → Shifted (program_in t) s before now h.run (applied t now h)
  applied_lies left =
      let P : drive.Done Run → Type 0 = Shifted (program_in t) s before now h.run in
      pick_cases P (eqb h.opcode 13) _ _ (λ q. static_arm (eqb-true h.opcode 13 q))
      (λ a.
      pick_cases P (eqb h.opcode 12) _ _ (λ q. virtual_arm (eqb-true h.opcode 12 q))
      (λ b.
      pick_cases P (exits_of h) _ _ leave_arm
      (λ c.
      pick_cases P (eqb h.opcode 18) _ _ (λ q. throw_arm (eqb-true h.opcode 18 q))
      (λ d. make_arm (last_opcode (ap leaves_by come.opcode ∙ left) a b c d)))))
