-- What the reader's answer says of its reading: its number and line where it is refused, else that there is a program. Assumes nothing.
use mathlib.Core.Path.{◌≡◌, refl, sym}
use mathlib.Core.List.{[], ◌∷◌}
use Rattle.text.proofs.Cases.{never}
use Rattle.program.specs.Program.{Program}
use Rattle.reader.specs.declared.Refusal.{Refusal}
use Rattle.reader.specs.Read.{Reading, refused, taken, reading_values, reading_number, refusal_number, refusal_line}

pub refused_is : (x : Reading) (r : Refusal) → refusal_number r ≡ reading_number x → refusal_line r ∷ [] ≡ reading_values x
    → x ≡ refused (refusal_number r) (refusal_line r)
refused_is (refused number line) r e v = cc
refused_is (taken p) r e v = never (cc)

pub found_program : {P : Type 0} (x : Reading) → [] ≡ reading_values x → ((p : Program) → x ≡ taken p → P) → P
found_program (taken p) v k = k p refl
found_program (refused number line) v k = never (cc)
