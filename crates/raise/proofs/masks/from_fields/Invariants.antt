-- `raise::masks::from_fields`: what its loops keep.
use mathlib.Core.Path.{◌≡◌}
use Prim.Native.Nat.{ℕ}
use Rattle.mask.specs.Mask.{has}
use Rattle.flow.specs.Flows.{some}
use Rattle.slots.specs.Layout.{claim_in}
use Rattle.raise.specs.Inside.{field_has}
use Rattle.raise.proofs.masks.from_fields.Given as goal

abbrev pub invariant-loop-k : goal.invariant-loop-k
invariant-loop-k l = ((j : ℕ) → has l.all j ≡ some l.k (field_has (claim_in l.w) l.set l.x j))
