-- What an instruction that stays in its frame comes to, of a state that lies in the lent slices. Nothing here needs to be believed
-- to read a promise of the stepper. Definitions only.
use Rattle.std.specs.Prelude.{◌≡◌, true, List, ◌∷◌, ℕ, length}
use Rattle.std.proofs.Math.Option.{none}
use Rattle.program.specs.Program.{Program, word_at}
use Rattle.machine.specs.declared.Effect.TheVariants.{RaiseNew, Fail}
use Rattle.machine.specs.State.{Frame, State}
use Rattle.machine.specs.Run.{step}
use Rattle.machine.proofs.Continues.{effect_at}
use Rattle.turn.specs.declared.Tally.{Tally}
use Rattle.turn.specs.Stop.{stop_of}
use Rattle.site.specs.declared.Gone.{Gone}
use Rattle.site.specs.declared.How.{How}
use Rattle.site.specs.declared.How.TheVariants.{Went, Leaves, Raises, Failed}
use Rattle.site.specs.declared.Site.{Site}
use Rattle.site.specs.Site.{opcode_of, leaves_of}
use Rattle.drive.specs.Models.{Lent, Done}
use Rattle.lies.specs.Lies.{Lies}

-- where the instruction at a state's top frame stands
abbrev pub site_at : Program → Frame → List Frame → Site
site_at p f rest =
    record {
      top = length rest;
      pc = f.address;
      word = word_at p f.method f.address;
      opcode = opcode_of (word_at p f.method f.address);
    }

-- the next state's top frame
pub record Onward (s : State) (f : Frame) (rest : List Frame) (to : ℕ) : Type 0 where
  pub frame : Frame
  pub frames : s.frames ≡ frame ∷ rest
  pub method : frame.method ≡ f.method
  pub address : frame.address ≡ to

-- nothing was done, and the top frame is where it was
abbrev pub Undone : Lent → Frame → Done Gone → Type 0
Undone now f r = (r.memory ≡ now) × (r.result.next ≡ f.address)

-- then, by how it ended: the instruction is one that does not stay in its frame, it raises a new object, or it is a fault
abbrev pub LeftBy : Program → State → Frame → List Frame → How → Type 0
LeftBy p s f rest Went = ⊥
LeftBy p s f rest Leaves = leaves_of (site_at p f rest) ≡ true
LeftBy p s f rest (Raises k) = effect_at p s f ≡ RaiseNew k
LeftBy p s f rest (Failed e) = effect_at p s f ≡ Fail e

-- by how it ended: the next state lies in the slices and its top frame is at the address told, or nothing was done
abbrev pub StayedBy : Program → State → Lent → Tally → Lent → Frame → List Frame → Done Gone → How → Type 0
StayedBy p s before t now f rest r Went =
    (stop_of p s ≡ none) × (Lies (step p s) before t r.memory × Onward (step p s) f rest r.result.next)
StayedBy p s before t now f rest r Leaves = Undone now f r × LeftBy p s f rest Leaves
StayedBy p s before t now f rest r (Raises k) = Undone now f r × LeftBy p s f rest (Raises k)
StayedBy p s before t now f rest r (Failed e) = Undone now f r × LeftBy p s f rest (Failed e)

abbrev pub Stayed : Program → State → Lent → Tally → Lent → Frame → List Frame → Done Gone → Type 0
Stayed p s before t now f rest r = StayedBy p s before t now f rest r r.result.how
