-- What keeps the lent slices' lengths. Assumes nothing.
use mathlib.Core.Path.{refl, ◌∙◌}
use mathlib.Core.Bool.{Bool, true, false}
use mathlib.Core.List.{List}
use Prim.Native.Nat.{ℕ, zero, suc}
use Rattle.instruction.specs.Word.{pick}
use Rattle.drive.proofs.Driver.{Same}
use Rattle.drive.specs.Models.{Lent, Done, done, looped}

pub same_self : (m : Lent) → Same m m
same_self m = record { frames = refl; objects = refl; statics = refl }

pub same_turns : (k m n : Lent) → Same k m → Same m n → Same k n
same_turns k m n a b =
    record {
      frames = b.frames ∙ a.frames;
      objects = b.objects ∙ a.objects;
      statics = b.statics ∙ a.statics;
    }

-- either of two
pub pick_keeps : {R : Type 0} (b : Bool) (m : Lent) (x y : Done R) → Same m x.memory → Same m y.memory → Same m (pick b x y).memory
pick_keeps true m x y h k = h
pick_keeps false m x y h k = k

-- turns of a loop
pub loop_keeps : {P : Type 0} (more : List ℕ → P → Bool) (body : List ℕ → Lent → P → Done P)
    → ((t : List ℕ) (m : Lent) (p : P) → Same m (body t m p).memory) → (t : List ℕ) (n : ℕ) (m : Lent) (p : P) → Same m (looped more body t n m p).memory
unfolding looped
loop_keeps more body keeps t zero m p = same_self m
loop_keeps more body keeps t (suc n) m p =
    pick_keeps (more t p) m (looped more body t n (body t m p).memory (body t m p).result) (done p m)
    (same_turns m (body t m p).memory _ (keeps t m p) (loop_keeps more body keeps t n (body t m p).memory (body t m p).result)) (same_self m)
