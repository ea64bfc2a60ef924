-- What the claim reader's answer says of its reading: its number and line where it is refused, else that there are masks. Assumes nothing.
use mathlib.Core.Path.{◌≡◌, refl}
use mathlib.Core.List.{List, [], ◌∷◌}
use Prim.Native.Nat.{ℕ}
use Rattle.text.proofs.Cases.{never}
use Rattle.claim.specs.declared.Refusal.{Refusal}
use Rattle.claim.specs.ReadClaim.{Reading, refused, taken, reading_values, reading_number, refusal_number, refusal_line}

pub refused_is : (x : Reading) (r : Refusal) → refusal_number r ≡ reading_number x → refusal_line r ∷ [] ≡ reading_values x
    → x ≡ refused (refusal_number r) (refusal_line r)
refused_is (refused number line) r e v = cc
refused_is (taken ws) r e v = never (cc)

pub found_masks : {P : Type 0} (x : Reading) → [] ≡ reading_values x → ((ws : List ℕ) → x ≡ taken ws → P) → P
found_masks (taken ws) v k = k ws refl
found_masks (refused number line) v k = never (cc)
