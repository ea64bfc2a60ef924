-- What rules 4 and 5 ask of a field of each class in a set. Definitions only, and none that a reader of the public promises has to
-- believe.
use Rattle.std.specs.Prelude.{Bool, not, ◌||◌, ℕ}
use Rattle.mask.specs.declared.Mask.{Mask}
use Rattle.mask.specs.Mask.{has, every, subset}
use Rattle.flow.specs.Claim.{field_of, Claim}

-- a test of each class in the set: no program has a class past 59
unfoldable pub each_of : Mask → (ℕ → Bool) → Bool
each_of set test = every 60 (λ k. not (has set k) || test k)

module _ (c : Claim) (set : Mask) (x : ℕ) where
  -- the mask of field x of each class in the set goes into a mask
  abbrev pub from_fields : Mask → Bool
  from_fields into = each_of set (λ k. subset (c (field_of k x)) into)

  -- a mask goes into that of field x of each class in the set
  abbrev pub into_fields : Mask → Bool
  into_fields from = each_of set (λ k. subset from (c (field_of k x)))
