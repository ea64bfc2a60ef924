-- What a function over lent slices answers and leaves. Nothing here needs to be believed to read a promise of the stepper.
-- Definitions only.
use Rattle.std.specs.Prelude.{◌≡◌, Bool, List, ℕ, zero, suc}
use Rattle.instruction.specs.Word.{pick}
use Rattle.cells.specs.declared.Value.{Value}
use Rattle.cells.specs.declared.Frame.{Frame}
use Rattle.cells.specs.declared.Object.{Object}
use Rattle.drive.specs.declared.Lent as slices

-- the lent slices
pub record Lent : Type 0 where
  pub frames : List Frame
  pub objects : List Object
  pub statics : List Value

abbrev pub lent : List Frame → List Object → List Value → Lent
lent fs os ss = record { frames = fs; objects = os; statics = ss }

-- what the slices hold, and that they are the same ones
abbrev pub held : slices.Lent → Lent
held m = lent m.frames.now m.objects.now m.statics.now

pub record Same (m n : slices.Lent) : Type 0 where
  pub frames : n.frames.ghost_name ≡ m.frames.ghost_name
  pub objects : n.objects.ghost_name ≡ m.objects.ghost_name
  pub statics : n.statics.ghost_name ≡ m.statics.ghost_name

-- an answer, and the slices then
pub record Done (R : Type 0) : Type 0 where
  pub result : R
  pub memory : Lent

abbrev pub done : {R : Type 0} → R → Lent → Done R
done r m = record { result = r; memory = m }

-- at most n turns of a loop, while a test holds
unfoldable pub looped : {P : Type 0} → (List ℕ → P → Bool) → (List ℕ → Lent → P → Done P) → List ℕ → ℕ → Lent → P → Done P
looped more body t zero m p = done p m
looped more body t (suc n) m p = pick (more t p) (looped more body t n (body t m p).memory (body t m p).result) (done p m)
