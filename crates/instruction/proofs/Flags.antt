-- What flags say that are made of others, and what holds of both cases of a choice. Assumes nothing.
use mathlib.Core.Path.{◌≡◌, refl}
use mathlib.Core.Bool.{Bool, true, false, not, ◌||◌}
use Prim.Native.Nat.{ℕ}
use native.Mathlib.Omega.{arith}
use Rattle.instruction.specs.Word.{pick}
-- std's laws of `&&` and `||`
pub use Rattle.std.proofs.lemmas.Bool.{and_parts as both_true, or_right}

-- `not a || b` says that b is true where a is
pub if_use : (a b : Bool) → not a || b ≡ true → a ≡ true → b ≡ true
if_use true b e h = e
if_use false b e h = let z : ◌≡◌ {A = ℕ} 0 1 = cc in absurd (omega arith)

pub if_true : (a b : Bool) → (a ≡ true → b ≡ true) → not a || b ≡ true
if_true true b h = h refl
if_true false b h = refl

-- the two cases of a choice
pub pick_cases : {A : Type 0} (P : A → Type 0) (t : Bool) (x y : A) → (t ≡ true → P x) → (t ≡ false → P y) → P (pick t x y)
pick_cases P true x y h k = h refl
pick_cases P false x y h k = k refl
