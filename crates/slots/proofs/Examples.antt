-- Places of slots by computation. Assumes nothing.
use mathlib.Core.Path.{◌≡◌, refl}
use mathlib.Core.List.{List, [], ◌∷◌}
use Prim.Native.Nat.{ℕ}
use Rattle.flow.specs.Claim.{Slot, register_at, result_at, field_of, static_of, returned_by, leaving}
use Rattle.slots.specs.Layout.{row_of, place_of}

abbrev places : List Slot → List ℕ
places [] = []
places (s ∷ ss) = place_of s ∷ places ss

-- ---- inside the words
-- the first register of all, the last and the result of its address; the first register of the next address, of the next method
first_rows : places (register_at 0 0 0 ∷ register_at 0 0 15 ∷ result_at 0 0 ∷ register_at 0 1 0 ∷ register_at 1 0 0 ∷ []) ≡ 0 ∷ 15 ∷ 16 ∷ 17 ∷ 544 ∷ []
unfolding place_of row_of
first_rows = refl

-- the last register and result of method 0, and of method 15
last_rows : places (register_at 0 31 15 ∷ result_at 0 31 ∷ register_at 15 31 15 ∷ result_at 15 31 ∷ []) ≡ 542 ∷ 543 ∷ 8702 ∷ 8703 ∷ []
unfolding place_of row_of
last_rows = refl

-- of the first class, of the next, of the last
fields : places (field_of 0 0 ∷ field_of 0 15 ∷ field_of 1 0 ∷ field_of 59 15 ∷ []) ≡ 8704 ∷ 8719 ∷ 8720 ∷ 9663 ∷ []
unfolding place_of
fields = refl

-- the first and the last of each
statics : places (static_of 0 ∷ static_of 15 ∷ []) ≡ 9664 ∷ 9679 ∷ []
unfolding place_of
statics = refl

methods : places (returned_by 0 ∷ returned_by 15 ∷ leaving 0 ∷ leaving 15 ∷ []) ≡ 9680 ∷ 9695 ∷ 9696 ∷ 9711 ∷ []
unfolding place_of
methods = refl

-- ---- past the last word, which is at 9711
-- of method 16, at address 32, register 16
no_row : places (register_at 16 0 0 ∷ result_at 16 0 ∷ register_at 0 32 3 ∷ result_at 0 32 ∷ register_at 0 0 16 ∷ []) ≡ 9712 ∷ 9728 ∷ 9715 ∷ 9728 ∷ 9712 ∷ []
unfolding place_of row_of
no_row = refl

-- of class 60, field 16, static 16, method 16
no_other : places (field_of 60 0 ∷ field_of 0 16 ∷ static_of 16 ∷ returned_by 16 ∷ leaving 16 ∷ []) ≡ 9712 ∷ 9712 ∷ 9712 ∷ 9712 ∷ 9712 ∷ []
unfolding place_of
no_other = refl
