-- The frames of a claim text: which are due, and in which order. Definitions only.
use Rattle.std.specs.Prelude.{List, [], ◌∷◌, ◌++◌, ℕ}
use Rattle.instruction.specs.Word.{pick}
use Rattle.program.specs.Lists.{tab, joined}
use Rattle.program.specs.Program.{Program, class_count, field_count, method_count, registers, code_length}
use Rattle.search.specs.Search.{has_field}
use Rattle.flow.specs.Claim.{Slot, register_at, result_at, field_of, static_of, returned_by, leaving}
use Rattle.claim.specs.declared.Part.{Part}
use Rattle.claim.specs.declared.Part.TheVariants.{Address, Field, Static, Returned, Leaving}

-- a frame that is due: the kind and numbers that it starts with, a byte each, and the slots of the masks that follow
pub record Due : Type 0 where
  pub numbers : List ℕ
  pub slots : List Slot

abbrev pub due : List ℕ → List Slot → Due
due numbers slots = record { numbers = numbers; slots = slots }

-- the parts of a claim text, one for each kind: "`11 m p` then the masks of m's registers and result, by method and address;
-- `12 c f` mask for each class and field it has; `13 s` mask; `14 m` mask returned; `15 m` mask of exceptions leaving m".
-- How far the first number of a part's frames goes, and the second
abbrev pub outer : Program → Part → ℕ
outer p Address = method_count p
outer p Field = class_count p
outer p Static = p.statics
outer p Returned = method_count p
outer p Leaving = method_count p

abbrev pub inner : Program → Part → ℕ → ℕ
inner p Address m = code_length p m
inner p Field c = field_count p
inner p Static x = 1
inner p Returned m = 1
inner p Leaving m = 1

-- the frame at these two numbers, if there is one
abbrev pub frame_at : Program → Part → ℕ → ℕ → List Due
frame_at p Address m pc = due (17 ∷ m ∷ pc ∷ []) (tab (registers p m) (register_at m pc) ++ (result_at m pc ∷ [])) ∷ []
frame_at p Field c x = pick (has_field p c x) (due (18 ∷ c ∷ x ∷ []) (field_of c x ∷ []) ∷ []) []
frame_at p Static x i = due (19 ∷ x ∷ []) (static_of x ∷ []) ∷ []
frame_at p Returned m i = due (20 ∷ m ∷ []) (returned_by m ∷ []) ∷ []
frame_at p Leaving m i = due (21 ∷ m ∷ []) (leaving m ∷ []) ∷ []

unfoldable pub part_due : Program → Part → List Due
part_due p k = joined (outer p k) (λ a. joined (inner p k a) (frame_at p k a))

-- "Frames, complete and in order"
unfoldable pub frames_due : Program → List Due
frames_due p =
    part_due p Address ++ (part_due p Field ++ (part_due p Static ++ (part_due p Returned ++ part_due p Leaving)))
