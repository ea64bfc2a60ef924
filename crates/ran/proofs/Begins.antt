-- Where the loop that stays in a frame begins, and addresses outside a method. Assumes nothing.
use mathlib.Core.Path.{◌≡◌, refl, sym, ap, subst, ◌∙◌}
use mathlib.Core.Bool.{Bool, true, false, not, ◌&&◌}
use mathlib.Core.List.{List, [], ◌∷◌}
use mathlib.Core.Option.{some}
use Prim.Native.Nat.{ℕ, suc, ◌%◌, ◌≤◌, ◌<◌}
use native.Mathlib.Omega.{arith}
use lib.Dec.{T as Holds, ltb}
use lib.ListN.{length}
use borrow.Author.Tests.{le-ltb}
use Rattle.text.proofs.Cases.{never}
use Rattle.program.specs.Program.{Program, code_length}
use Rattle.program.specs.Tables.{program_in}
use Rattle.reader.specs.Formed.{Formed}
use Rattle.machine.specs.State.{Frame, State, running}
use Rattle.turn.specs.declared.Status.TheVariants.{Running}
use Rattle.turn.specs.declared.Halt.TheVariants.{Outside}
use Rattle.turn.specs.Stop.{stop_of}
use Rattle.shift.specs.declared.Run.{Run}
use Rattle.shift.specs.declared.Stay.{Stay}
use Rattle.shift.specs.Stay.{stay_of, raised_at}
use Rattle.shift.specs.Places.{top_of}
use Rattle.drive.specs.Models.{Lent}
use Rattle.drive.proofs.Turns.{turn_over}
use Rattle.lies.specs.Lies.{status_of, Roomy}
use Rattle.shifting.proofs.Looked.{top_of_lem, method_in_lem, address_in_lem, address_none}
use Rattle.rounds.specs.Rounds.{one_done, goes, method_in, address_in, stay_in}
use Rattle.ran.specs.Ran.{Going}
use Rattle.ran.specs.Rounding.{Standing, Paused}

-- ---- tests

-- the last of three tests is what fails
pub last : (a b c : Bool) → a ≡ true → b ≡ true → a && b && c ≡ false → c ≡ false
last true true c e q h = h
last true false c e q h = never (cc)
last false b c e q h = never (cc)

-- a test that fails, fails with any other
no_further : (a b : Bool) → b ≡ false → Holds (not (a && b))
no_further true b e = rw e tt
no_further false b e = tt

-- ---- addresses

-- a running state's top frame is at an address outside its method, or there is none
pub outside_stops : (p : Program) (s : State) (f : Frame) (rest : List Frame) → s.status ≡ running → s.frames ≡ f ∷ rest
    → code_length p f.method ≤ f.address → stop_of p s ≡ some Outside
unfolding stop_of
outside_stops p s f rest e q l = rw (e, q, le-ltb f.address (code_length p f.method) l)

empty_stops : (p : Program) (s : State) → s.status ≡ running → s.frames ≡ [] → stop_of p s ≡ some Outside
unfolding stop_of
empty_stops p s e q = rw (e, q)

-- an address inside a method is below 256
pub small : (p : Program) → Formed p → (m a : ℕ) → a < code_length p m → a % 256 ≡ a
small p formed m a l = omega (arith, formed.limited.code m)

-- ---- the top frame, as it is read in the lent slices

module _ (p : Program) (n : ℕ) (s : State) (before : Lent) (k : Run) (now : Lent) (g : Going p n k.left s before k.tally now) where
  module _ (roomy : Roomy before) (f : Frame) (rest : List Frame) (frames : g.state.frames ≡ f ∷ rest) where
    deep : k.tally.depth ≡ suc (length rest)
    deep = g.lies.depth ∙ ap length frames

    top : top_of k.tally.depth ≡ length rest
    top = top_of_lem k.tally.depth (length rest) deep

    pub standing : Standing p n s before k.tally (stay_of k (method_in now k) (address_in now k)) now
    standing =
        record {
          going = g;
          frame = f;
          rest = rest;
          frames = frames;
          top = top;
          method = method_in_lem g.state before now roomy (raised_at k) g.lies f rest frames;
          pc = address_in_lem g.state before now roomy (raised_at k) g.lies f rest frames;
          how = refl;
        }

-- no frame is open
module _ (t : List ℕ) (formed : Formed (program_in t)) (n : ℕ) (s : State) (before : Lent) (roomy : Roomy before) (k : Run) (now : Lent)
    (run : k.tally.status ≡ Running) (g : Going (program_in t) n k.left s before k.tally now) where
  pub nowhere : g.state.frames ≡ [] → Paused (program_in t) n s before k.tally (stay_in t now k)
  nowhere empty =
      let first : Stay = stay_of k (method_in now k) (address_in now k) in
      let pc : first.pc ≡ 4294967295 = address_none g.state before now roomy (raised_at k) g.lies empty in
      let out : ltb first.pc (code_length (program_in t) first.method) ≡ false =
      le-ltb first.pc (code_length (program_in t) first.method) (omega (arith, pc, formed.limited.code first.method)) in
      subst (Paused (program_in t) n s before k.tally) (turn_over goes one_done t k.left now first (no_further (ltb 0 k.left) _ out))
      (g, λ more. empty_stops (program_in t) g.state (sym g.lies.status ∙ ap status_of run) empty)
